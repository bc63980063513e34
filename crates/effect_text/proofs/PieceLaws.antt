-- Pieces, one behind the other and merged by stamp.
use Rattle.std.proofs.Common.{◌≡◌, ℕ, zero, suc, ◌+◌, ◌-◌, ◌<◌, ◌≤◌, ◌==◌, true, false, List, [], ◌∷◌, ◌++◌, Option, None, Some, drop, length, map, take, refl, sym, ap, subst, ◌∙◌, append-nil, append_assoc, arith, length-append}
use Rattle.std.proofs.lemmas.Bool.Decides.{nat_tests}
use Rattle.std.proofs.lemmas.List.{drop-append-le, drop-drop, length-drop, map-append, nil_from_length, take_all, take-append-le}
use Rattle.std.proofs.lemmas.List.Concat.{flat_map-append}
use Rattle.std.specs.List.{AllByRecursion as Each, flat_map}
use Rattle.std.specs.Option.{option_to_list}
use Rattle.kap_base.specs.declared.items.Effect.{Effect}
use Rattle.kap_base.specs.declared.items.What.{What}
use Rattle.kap_base.specs.declared.items.What.TheVariants as what
use Rattle.kap_base.specs.Events.{EventValue}
use Rattle.topic_core.specs.Print.{transition_line}
use Rattle.topic_core.specs.Topics.{StandsFor, TopicsValue}
use Rattle.effect_text.specs.declared.names.TaskNames.{TaskNames}
use Rattle.effect_text.specs.declared.printing.Piece.{Piece}
use Rattle.effect_text.specs.Lines.{effect_lines, event_in, events_of, id_of, new_transitions, node_of, text_behind, what_lines}
use Rattle.effect_text.specs.Pieces.{AreCut, HaveTheirStamps, PieceValue, Tells, behind_with, by_stamp, event_lines, events_told, front_with, merged, piece_of, pieces_in, pieces_text, point_line, side_by_side, sizes, told_event}

-- ---- lines that are kept as one text

-- as many as are kept
pub as_many : (lines : List ℕ) (pieces : List Piece) → length pieces ≡ length (pieces_in lines pieces)
as_many lines [] = refl
as_many lines (p ∷ pieces) = ap suc (as_many (drop p.size lines) pieces)

-- of one piece more
pub sizes_more : (pieces : List Piece) (p : Piece) → sizes (pieces ++ p ∷ []) ≡ sizes pieces + p.size
sizes_more [] p = omega arith
sizes_more (q ∷ pieces) p = let more = sizes_more pieces p in omega (arith, more)

-- as many as are kept behind a place
pub as_many_behind : (lines : List ℕ) (pieces : List Piece) (k : ℕ) → length pieces - k ≡ length (pieces_in lines (drop k pieces))
as_many_behind lines pieces k = sym (length-drop k pieces) ∙ as_many lines (drop k pieces)

-- what is behind a place is found by how many are there
behind-again : {A : Type 0} (xs : List A) (k : ℕ) → drop (length xs - length (drop k xs)) xs ≡ drop k xs
behind-again {A} xs zero = let none : length xs - length xs ≡ 0 = omega arith in ap (λ (n : ℕ). drop n xs) none
behind-again [] (suc k) = refl
behind-again {A} (x ∷ xs) (suc k) =
    let long : length (drop k xs) ≡ length xs - k = length-drop k xs in
    let same : suc (length xs) - length (drop k xs) ≡ suc (length xs - length (drop k xs)) = omega (arith, long) in
    ap (λ (n : ℕ). drop n (x ∷ xs)) same ∙ behind-again xs k

-- behind the next one
pub behind_one : {A : Type 0} (xs ys : List A) (x : A) (k : ℕ) → drop k xs ≡ x ∷ ys → drop (length xs - length ys) xs ≡ ys
behind_one {A} xs ys x k are =
    let is : ys ≡ drop (k + 1) xs = ap (drop 1) (sym are) ∙ drop-drop 1 k xs in
    ap (λ (l : List A). drop (length xs - length l) xs) is ∙ behind-again xs (k + 1) ∙ sym is

-- and behind some of those
pub behind_some : {A : Type 0} (xs ys : List A) (j k : ℕ) → ys ≡ drop j (drop k xs) → drop (length xs - length ys) xs ≡ ys
behind_some {A} xs ys j k are =
    let is : ys ≡ drop (k + j) xs = are ∙ drop-drop j k xs in
    ap (λ (l : List A). drop (length xs - length l) xs) is ∙ behind-again xs (k + j) ∙ sym is

-- its line comes behind the others
pub pieces_more : (lines line : List ℕ) (pieces : List Piece) (p : Piece) → AreCut lines pieces → p.size ≡ length line
    → pieces_in (lines ++ line) (pieces ++ p ∷ []) ≡ pieces_in lines pieces ++ record { stamp = p.stamp; line = line; event = p.event } ∷ []
pieces_more [] line [] p cut size =
    ap (λ (l : List ℕ). record { stamp = p.stamp; line = l; event = p.event } ∷ []) (take_all p.size line (omega (arith, size)))
pieces_more (b ∷ lines) line [] p cut size = absurd (omega (arith, cut))
pieces_more lines line (q ∷ pieces) p cut size =
    let fits : q.size ≤ length lines = omega (arith, cut) in
    let short : length (drop q.size lines) ≡ length lines - q.size = length-drop q.size lines in
    let left : AreCut (drop q.size lines) pieces = omega (arith, short, cut) in
    ap (λ (l : List ℕ). record { stamp = q.stamp; line = l; event = q.event } ∷ pieces_in (drop q.size (lines ++ line)) (pieces ++ p ∷ [])) (take-append-le q.size lines line fits)
    ∙ ap (λ (l : List ℕ). record { stamp = q.stamp; line = take q.size lines; event = q.event } ∷ pieces_in l (pieces ++ p ∷ [])) (drop-append-le q.size lines line fits)
    ∙ ap (λ (l : List PieceValue). record { stamp = q.stamp; line = take q.size lines; event = q.event } ∷ l) (pieces_more (drop q.size lines) line pieces p left size)

-- and they are all bytes again
pub cut_more : (lines line : List ℕ) (pieces : List Piece) (p : Piece) → AreCut lines pieces → p.size ≡ length line → AreCut (lines ++ line) (pieces ++ p ∷ [])
cut_more lines line pieces p cut size =
    let long = length-append lines line in
    let more = sizes_more pieces p in
    omega (arith, long, more, cut, size)

-- an event has none
pub event_piece : (lines : List ℕ) (pieces : List Piece) (p : Piece) → AreCut lines pieces → p.size ≡ 0
    → pieces_in lines (pieces ++ p ∷ []) ≡ pieces_in lines pieces ++ record { stamp = p.stamp; line = []; event = p.event } ∷ []
event_piece lines pieces p cut size =
    ap (λ (l : List ℕ). pieces_in l (pieces ++ p ∷ [])) (sym (append-nil lines)) ∙ pieces_more lines [] pieces p cut size

pub event_cut : (lines : List ℕ) (pieces : List Piece) (p : Piece) → AreCut lines pieces → p.size ≡ 0 → AreCut lines (pieces ++ p ∷ [])
event_cut lines pieces p cut size = let more = sizes_more pieces p in omega (arith, more, cut, size)

-- ---- texts

told_line : (id node : List ℕ) (events : List EventValue) (w : What) → point_line id node w ++ event_lines events (told_event w) ≡ what_lines id node events w
told_line id node events (what.Line p) = append-nil _
told_line id node events (what.Event e) = refl

told_in : (w : What) → option_to_list (told_event w) ≡ event_in w
told_in (what.Line p) = refl
told_in (what.Event e) = refl

-- the text of effects as they are told is their text
pub text_told : (tasks : List TaskNames) (events : List EventValue) (effects : List Effect) → pieces_text events (map (piece_of tasks) effects) ≡ text_behind tasks events effects
unfolding pieces_text text_behind
text_told tasks events [] = refl
text_told tasks events (e ∷ effects) =
    ap (λ (l : List ℕ). l ++ pieces_text (events ++ option_to_list (told_event e.what)) (map (piece_of tasks) effects)) (told_line (id_of tasks e.life) (node_of tasks e.life e.node) events e.what)
    ∙ ap (λ (es : List EventValue). effect_lines tasks events e ++ pieces_text (events ++ es) (map (piece_of tasks) effects)) (told_in e.what)
    ∙ ap (λ (l : List ℕ). effect_lines tasks events e ++ l) (text_told tasks (events ++ event_in e.what) effects)

-- and their events are theirs
pub events_told_are : (tasks : List TaskNames) (effects : List Effect) → events_told (map (piece_of tasks) effects) ≡ events_of effects
events_told_are tasks [] = refl
events_told_are tasks (e ∷ effects) =
    ap (λ (es : List EventValue). es ++ events_told (map (piece_of tasks) effects)) (told_in e.what)
    ∙ ap (λ (es : List EventValue). event_in e.what ++ es) (events_told_are tasks effects)

pieces_text_more : (events : List EventValue) (ps qs : List PieceValue) → pieces_text events (ps ++ qs) ≡ pieces_text events ps ++ pieces_text (events ++ events_told ps) qs
unfolding pieces_text
pieces_text_more events [] qs = sym (ap (λ (es : List EventValue). pieces_text es qs) (append-nil events))
pieces_text_more events (p ∷ ps) qs =
    ap (λ (l : List ℕ). (p.line ++ event_lines events p.event) ++ l) (pieces_text_more (events ++ option_to_list p.event) ps qs)
    ∙ sym (append_assoc (p.line ++ event_lines events p.event) (pieces_text (events ++ option_to_list p.event) ps) _)
    ∙ ap (λ (es : List EventValue). ((p.line ++ event_lines events p.event) ++ pieces_text (events ++ option_to_list p.event) ps) ++ pieces_text es qs) (append_assoc events (option_to_list p.event) (events_told ps))

-- nothing is told
pub tells_none : (topics : TopicsValue) (text : List ℕ) → Tells topics text topics text []
unfolding pieces_text
tells_none topics text = record {
  lines = λ events stands. sym (append-nil text);
  takes = λ events stands. subst (λ (es : List EventValue). StandsFor es topics) (sym (append-nil events)) stands;
}

-- one piece is told
pub tells_one : (before after : TopicsValue) (old new : List ℕ) (p : PieceValue)
    → ((events : List EventValue) → StandsFor events before → new ≡ old ++ (p.line ++ event_lines events p.event))
    → ((events : List EventValue) → StandsFor events before → StandsFor (events ++ option_to_list p.event) after)
    → Tells before old after new (p ∷ [])
unfolding pieces_text
tells_one before after old new p lines takes = record {
  lines = λ events stands. lines events stands ∙ ap (λ (l : List ℕ). old ++ l) (sym (append-nil _));
  takes = λ events stands. subst (λ (es : List EventValue). StandsFor (events ++ es) after) (sym (append-nil _)) (takes events stands);
}

-- a line is told, and an event behind it
pub tells_event : (before after : TopicsValue) (old text line new : List ℕ) (stamp : ℕ) (o : Option EventValue) (e f : EventValue) → o ≡ Some e → f ≡ e → text ≡ old ++ line
    → ((events : List EventValue) → StandsFor events before → new ≡ text ++ flat_map transition_line (new_transitions events f))
    → ((events : List EventValue) → StandsFor events before → StandsFor (events ++ f ∷ []) after)
    → Tells before old after new (record { stamp = stamp; line = line; event = o } ∷ [])
tells_event before after old text line new stamp o e f is same added lines takes =
    subst (λ (x : Option EventValue). Tells before old after new (record { stamp = stamp; line = line; event = x } ∷ [])) (sym (is ∙ ap (λ (x : EventValue). Some x) (sym same)))
    (tells_one before after old new (record { stamp = stamp; line = line; event = Some f })
    (λ events stands. lines events stands ∙ ap (λ (l : List ℕ). l ++ flat_map transition_line (new_transitions events f)) added ∙ append_assoc old line _) takes)

-- and none behind it
pub tells_line : (topics : TopicsValue) (old text line : List ℕ) (stamp : ℕ) (o : Option EventValue) → o ≡ None → text ≡ old ++ line
    → Tells topics old topics text (record { stamp = stamp; line = line; event = o } ∷ [])
tells_line topics old text line stamp o is added =
    subst (λ (x : Option EventValue). Tells topics old topics text (record { stamp = stamp; line = line; event = x } ∷ [])) (sym is)
    (tells_one topics topics old text (record { stamp = stamp; line = line; event = None })
    (λ events stands. added ∙ ap (λ (l : List ℕ). old ++ l) (sym (append-nil line)))
    (λ events stands. subst (λ (es : List EventValue). StandsFor es topics) (sym (append-nil events)) stands))

-- some are told, and then others
pub tells_then : (t u v : TopicsValue) (x y z : List ℕ) (ps qs : List PieceValue) → Tells t x u y ps → Tells u y v z qs → Tells t x v z (ps ++ qs)
tells_then t u v x y z ps qs first second = record {
  lines = λ events stands.
      second.lines (events ++ events_told ps) (first.takes events stands)
      ∙ ap (λ (l : List ℕ). l ++ pieces_text (events ++ events_told ps) qs) (first.lines events stands)
      ∙ append_assoc x (pieces_text events ps) (pieces_text (events ++ events_told ps) qs)
      ∙ ap (λ (l : List ℕ). x ++ l) (sym (pieces_text_more events ps qs));
  takes = λ events stands.
      subst (λ (es : List EventValue). StandsFor es v)
      (append_assoc events (events_told ps) (events_told qs) ∙ ap (λ (es : List EventValue). events ++ es) (sym (flat_map-append (λ (p : PieceValue). option_to_list p.event) ps qs)))
      (second.takes (events ++ events_told ps) (first.takes events stands));
}

-- ---- what is told so far, of what is due

-- of the pieces that are due some were told, and these are left
pub record ToldTo (Told : List PieceValue → Type 0) (due left : List PieceValue) : Type 0 where
  pub done : List PieceValue
  pub told : Told done
  pub parts : due ≡ done ++ left

-- where the first ones of those that are left were told too, the others are left
pub told_on : (t u v : TopicsValue) (x y z : List ℕ) (due now front left : List PieceValue) → ToldTo (λ ps. Tells t x u y ps) due now → now ≡ front ++ left → Tells u y v z front
    → ToldTo (λ ps. Tells t x v z ps) due left
told_on t u v x y z due now front left so is more = record {
  done = so.done ++ front;
  told = tells_then t u v x y z so.done front so.told more;
  parts = so.parts ∙ ap (λ (l : List PieceValue). so.done ++ l) is ∙ sym (append_assoc so.done front left);
}

-- where none are left, those that were due are told
pub told_whole : (t u : TopicsValue) (x y : List ℕ) (due left : List PieceValue) → ToldTo (λ ps. Tells t x u y ps) due left → left ≡ [] → Tells t x u y due
told_whole t u x y due left so none =
    subst (λ (ps : List PieceValue). Tells t x u y ps) (sym (so.parts ∙ ap (λ (l : List PieceValue). so.done ++ l) none ∙ append-nil so.done)) so.told

-- nothing is told yet
pub told_nothing : (t : TopicsValue) (x : List ℕ) (due : List PieceValue) → ToldTo (λ ps. Tells t x t x ps) due due
told_nothing t x due = record { done = []; told = tells_none t x; parts = refl }

-- ---- the pieces at the front, one after the other

abbrev at_front : ℕ → List PieceValue → List PieceValue
at_front s ps = front_with (λ (p : PieceValue). p.stamp) s ps

abbrev not_there : ℕ → List PieceValue → List PieceValue
not_there s ps = behind_with (λ (p : PieceValue). p.stamp) s ps

-- one more that has the stamp is told
pub front_on : (t u v : TopicsValue) (x y z : List ℕ) (s : ℕ) (due : List PieceValue) (lines line left : List ℕ) (pieces behind : List Piece) (p : Piece) → pieces ≡ p ∷ behind → (p.stamp == s) ≡ true
    → line ≡ take p.size lines → left ≡ drop p.size lines → Tells u y v z (record { stamp = p.stamp; line = line; event = p.event } ∷ [])
    → ToldTo (λ ps. Tells t x u y ps) due (at_front s (pieces_in lines pieces)) → ToldTo (λ ps. Tells t x v z ps) due (at_front s (pieces_in left behind))
unfolding front_with
front_on t u v x y z s due lines line left pieces behind p are same line-is left-is more so =
    told_on t u v x y z due (at_front s (pieces_in lines pieces)) (record { stamp = p.stamp; line = line; event = p.event } ∷ []) (at_front s (pieces_in left behind)) so
    (rw (are, line-is, left-is, same) refl) more

pub behind_on : (s : ℕ) (lines left : List ℕ) (pieces behind : List Piece) (p : Piece) → pieces ≡ p ∷ behind → (p.stamp == s) ≡ true → left ≡ drop p.size lines
    → not_there s (pieces_in lines pieces) ≡ not_there s (pieces_in left behind)
unfolding behind_with
behind_on s lines left pieces behind p are same left-is = rw (are, left-is, same) refl

-- the next one has another stamp
pub front_ends : (s : ℕ) (lines : List ℕ) (pieces behind : List Piece) (p : Piece) → pieces ≡ p ∷ behind → (p.stamp == s) ≡ false → at_front s (pieces_in lines pieces) ≡ []
unfolding front_with
front_ends s lines pieces behind p are other = rw (are, other) refl

pub behind_ends : (s : ℕ) (lines : List ℕ) (pieces behind : List Piece) (p : Piece) → pieces ≡ p ∷ behind → (p.stamp == s) ≡ false → not_there s (pieces_in lines pieces) ≡ pieces_in lines pieces
unfolding behind_with
behind_ends s lines pieces behind p are other = rw (are, other) refl

-- there is no next one
pub front_none : (s : ℕ) (lines : List ℕ) (pieces : List Piece) → pieces ≡ [] → at_front s (pieces_in lines pieces) ≡ []
unfolding front_with
front_none s lines pieces none = rw none refl

pub behind_none : (s : ℕ) (lines : List ℕ) (pieces : List Piece) → pieces ≡ [] → not_there s (pieces_in lines pieces) ≡ pieces_in lines pieces
unfolding behind_with
behind_none s lines pieces none = rw none refl

-- those of the first list, and then those of the others
pub fronts_then : (t u v : TopicsValue) (x y z : List ℕ) (s : ℕ) (lists : List (List PieceValue)) (first : List PieceValue) (others : List (List PieceValue)) → lists ≡ first ∷ others
    → Tells t x u y (at_front s first) → Tells u y v z (flat_map (at_front s) others) → Tells t x v z (flat_map (at_front s) lists)
fronts_then t u v x y z s lists first others are one more =
    subst (λ (ls : List (List PieceValue)). Tells t x v z (flat_map (at_front s) ls)) (sym are) (tells_then t u v x y z (at_front s first) (flat_map (at_front s) others) one more)

pub fronts_none : (t : TopicsValue) (x : List ℕ) (s : ℕ) (lists : List (List PieceValue)) → length lists ≡ 0 → Tells t x t x (flat_map (at_front s) lists)
fronts_none t x s lists none = subst (λ (ls : List (List PieceValue)). Tells t x t x (flat_map (at_front s) ls)) (sym (nil_from_length lists none)) (tells_none t x)

pub behinds_then : (s : ℕ) (lists : List (List PieceValue)) (first left : List PieceValue) (others all : List (List PieceValue)) → lists ≡ first ∷ others
    → left ≡ not_there s first → all ≡ map (not_there s) others → left ∷ all ≡ map (not_there s) lists
behinds_then s lists first left others all are one more = rw (are, one, more) refl

-- ---- stamp by stamp

abbrev all_merged : ℕ → ℕ → List (List PieceValue) → List PieceValue
all_merged n k lists = merged (λ (p : PieceValue). p.stamp) n k lists

merged-none : (n k : ℕ) (lists : List (List PieceValue)) → k ≡ 0 → all_merged n k lists ≡ []
unfolding merged
merged-none n k lists none = rw none refl

merged-next : (n next k m : ℕ) (lists others : List (List PieceValue)) → k ≡ suc m → next ≡ suc n → others ≡ map (not_there next) lists
    → all_merged n k lists ≡ flat_map (at_front next) lists ++ all_merged next m others
unfolding merged
merged-next n next k m lists others long is are = rw (long, are, is) refl

pub merging_begins : (t : TopicsValue) (x : List ℕ) (n k i : ℕ) (lists : List (List PieceValue)) → i ≡ 0 → ToldTo (λ ps. Tells t x t x ps) (all_merged n k lists) (all_merged n (k - i) lists)
merging_begins t x n k i lists start =
    let all : k - i ≡ k = omega (arith, start) in
    subst (λ (j : ℕ). ToldTo (λ ps. Tells t x t x ps) (all_merged n k lists) (all_merged n j lists)) (sym all) (told_nothing t x (all_merged n k lists))

pub merging_on : (t u v : TopicsValue) (x y z : List ℕ) (n next k i : ℕ) (due : List PieceValue) (lists others : List (List PieceValue)) → i < k → next ≡ n + 1 → others ≡ map (not_there next) lists
    → Tells u y v z (flat_map (at_front next) lists)
    → ToldTo (λ ps. Tells t x u y ps) due (all_merged n (k - i) lists) → ToldTo (λ ps. Tells t x v z ps) due (all_merged next (k - (i + 1)) others)
merging_on t u v x y z n next k i due lists others lt is are more so =
    let long : k - i ≡ suc (k - (i + 1)) = omega (arith, lt) in
    let one : next ≡ suc n = omega (arith, is) in
    told_on t u v x y z due (all_merged n (k - i) lists) (flat_map (at_front next) lists) (all_merged next (k - (i + 1)) others) so
    (merged-next n next (k - i) (k - (i + 1)) lists others long one are) more

pub merging_ends : (t u : TopicsValue) (x y : List ℕ) (n k i : ℕ) (due : List PieceValue) (lists : List (List PieceValue)) → k ≤ i
    → ToldTo (λ ps. Tells t x u y ps) due (all_merged n (k - i) lists) → Tells t x u y due
merging_ends t u x y n k i due lists le so =
    let none : k - i ≡ 0 = omega (arith, le) in
    told_whole t u x y due (all_merged n (k - i) lists) so (merged-none n (k - i) lists none)

-- ---- lists by stamp

module _ {A : Type 0} (stamp_of : A → ℕ) where
  -- what comes with a stamp has it
  abbrev pub HaveStamps : (ℕ → List A) → Type 0
  HaveStamps f = (s : ℕ) → Each (λ x. stamp_of x ≡ s) (f s)

  -- the first of a list, if there is one, hasn't this stamp
  record IsPast (s : ℕ) (xs : List A) : Type 0 where
    pub front : front_with stamp_of s xs ≡ []
    pub behind : behind_with stamp_of s xs ≡ xs

  past-other : (s t : ℕ) (xs ys : List A) → Each (λ x. stamp_of x ≡ t) xs → s < t → IsPast s ys → IsPast s (xs ++ ys)
  unfolding front_with behind_with
  past-other s t [] ys have lt past = past
  past-other s t (x ∷ xs) ys have lt past =
      let at : stamp_of x ≡ t = have.0 in
      let other : (stamp_of x == s) ≡ false = grind (arith, nat_tests) in
      record { front = rw other refl; behind = rw other refl }

  past-later : (n k s : ℕ) (f : ℕ → List A) → HaveStamps f → s ≤ n → IsPast s (by_stamp n k f)
  unfolding by_stamp front_with behind_with
  past-later n zero s f have le = record { front = refl; behind = refl }
  past-later n (suc k) s f have le =
      past-other s (suc n) (f (suc n)) (by_stamp (suc n) k f) (have (suc n)) (omega (arith, le)) (past-later (suc n) k s f have (omega (arith, le)))

  front-all : (s : ℕ) (xs ys : List A) → Each (λ x. stamp_of x ≡ s) xs → IsPast s ys → front_with stamp_of s (xs ++ ys) ≡ xs
  unfolding front_with
  front-all s [] ys have past = past.front
  front-all s (x ∷ xs) ys have past =
      let at : stamp_of x ≡ s = have.0 in
      let same : (stamp_of x == s) ≡ true = grind (arith, nat_tests) in
      rw same (ap (λ (l : List A). x ∷ l) (front-all s xs ys have.1 past))

  behind-all : (s : ℕ) (xs ys : List A) → Each (λ x. stamp_of x ≡ s) xs → IsPast s ys → behind_with stamp_of s (xs ++ ys) ≡ ys
  unfolding behind_with
  behind-all s [] ys have past = past.behind
  behind-all s (x ∷ xs) ys have past =
      let at : stamp_of x ≡ s = have.0 in
      let same : (stamp_of x == s) ≡ true = grind (arith, nat_tests) in
      rw same (behind-all s xs ys have.1 past)

  fronts : (n k : ℕ) (fs : List (ℕ → List A)) → Each HaveStamps fs → flat_map (front_with stamp_of (suc n)) (map (by_stamp n (suc k)) fs) ≡ side_by_side fs (suc n)
  unfolding by_stamp
  fronts n k [] have = refl
  fronts n k (f ∷ fs) have =
      ap (λ (l : List A). l ++ flat_map (front_with stamp_of (suc n)) (map (by_stamp n (suc k)) fs)) (front-all (suc n) (f (suc n)) (by_stamp (suc n) k f) (have.0 (suc n)) (past-later (suc n) k (suc n) f have.0 (omega arith)))
      ∙ ap (λ (l : List A). f (suc n) ++ l) (fronts n k fs have.1)

  behinds : (n k : ℕ) (fs : List (ℕ → List A)) → Each HaveStamps fs → map (behind_with stamp_of (suc n)) (map (by_stamp n (suc k)) fs) ≡ map (by_stamp (suc n) k) fs
  unfolding by_stamp
  behinds n k [] have = refl
  behinds n k (f ∷ fs) have =
      ap (λ (l : List A). l ∷ map (behind_with stamp_of (suc n)) (map (by_stamp n (suc k)) fs)) (behind-all (suc n) (f (suc n)) (by_stamp (suc n) k f) (have.0 (suc n)) (past-later (suc n) k (suc n) f have.0 (omega arith)))
      ∙ ap (λ (ls : List (List A)). by_stamp (suc n) k f ∷ ls) (behinds n k fs have.1)

  -- lists by stamp are merged by stamp, and with one stamp side by side
  pub merged_by_stamp : (n k : ℕ) (fs : List (ℕ → List A)) → Each HaveStamps fs → merged stamp_of n k (map (by_stamp n k) fs) ≡ by_stamp n k (side_by_side fs)
  unfolding merged by_stamp
  merged_by_stamp n zero fs have = refl
  merged_by_stamp n (suc k) fs have =
      ap (λ (l : List A). l ++ merged stamp_of (suc n) k (map (behind_with stamp_of (suc n)) (map (by_stamp n (suc k)) fs))) (fronts n k fs have)
      ∙ ap (λ (ls : List (List A)). side_by_side fs (suc n) ++ merged stamp_of (suc n) k ls) (behinds n k fs have)
      ∙ ap (λ (l : List A). side_by_side fs (suc n) ++ l) (merged_by_stamp (suc n) k fs have)

-- ---- effects by stamp, as they are told

module _ {A B : Type 0} (h : A → B) where
  map-by_stamp : (n k : ℕ) (f : ℕ → List A) → map h (by_stamp n k f) ≡ by_stamp n k (λ s. map h (f s))
  unfolding by_stamp
  map-by_stamp n zero f = refl
  map-by_stamp n (suc k) f = map-append h (f (suc n)) (by_stamp (suc n) k f) ∙ ap (λ (l : List B). map h (f (suc n)) ++ l) (map-by_stamp (suc n) k f)

  -- each as it is told
  abbrev each-told : List (ℕ → List A) → List (ℕ → List B)
  each-told fs = map (λ (f : ℕ → List A) (s : ℕ). map h (f s)) fs

  map-each : (n k : ℕ) (fs : List (ℕ → List A)) → map (λ f. map h (by_stamp n k f)) fs ≡ map (by_stamp n k) (each-told fs)
  map-each n k [] = refl
  map-each n k (f ∷ fs) =
      ap (λ (l : List B). l ∷ map (λ (f : ℕ → List A). map h (by_stamp n k f)) fs) (map-by_stamp n k f)
      ∙ ap (λ (ls : List (List B)). by_stamp n k (λ s. map h (f s)) ∷ ls) (map-each n k fs)

  map-side : (fs : List (ℕ → List A)) (s : ℕ) → side_by_side (each-told fs) s ≡ map h (side_by_side fs s)
  map-side [] s = refl
  map-side (f ∷ fs) s = ap (λ (l : List B). map h (f s) ++ l) (map-side fs s) ∙ sym (map-append h (f s) (side_by_side fs s))

by_stamp-same : {A : Type 0} (n k : ℕ) (f g : ℕ → List A) → ((s : ℕ) → f s ≡ g s) → by_stamp n k f ≡ by_stamp n k g
unfolding by_stamp
by_stamp-same n zero f g same = refl
by_stamp-same {A} n (suc k) f g same =
    ap (λ (l : List A). l ++ by_stamp (suc n) k f) (same (suc n)) ∙ ap (λ (l : List A). g (suc n) ++ l) (by_stamp-same (suc n) k f g same)

each-stamp : (tasks : List TaskNames) (s : ℕ) (effects : List Effect) → Each (λ e. e.stamp.0 ≡ s) effects → Each (λ p. p.stamp ≡ s) (map (piece_of tasks) effects)
each-stamp tasks s [] have = tt
each-stamp tasks s (e ∷ effects) have = (have.0, each-stamp tasks s effects have.1)

told-stamps : (tasks : List TaskNames) (fs : List (ℕ → List Effect)) → Each HaveTheirStamps fs → Each (HaveStamps (λ p. p.stamp)) (each-told (piece_of tasks) fs)
told-stamps tasks [] have = tt
told-stamps tasks (f ∷ fs) have = ((λ s. each-stamp tasks s (f s) (have.0 s)), told-stamps tasks fs have.1)

-- what lives tell by stamp, merged, is what their effects tell side by side
pub merged_told : (tasks : List TaskNames) (n k : ℕ) (fs : List (ℕ → List Effect)) (lists : List (List PieceValue)) → Each HaveTheirStamps fs
    → lists ≡ map (λ f. map (piece_of tasks) (by_stamp n k f)) fs
    → merged (λ p. p.stamp) n k lists ≡ map (piece_of tasks) (by_stamp n k (side_by_side fs))
merged_told tasks n k fs lists have are =
    let h = piece_of tasks in
    ap (merged (λ (p : PieceValue). p.stamp) n k) (are ∙ map-each h n k fs)
    ∙ merged_by_stamp (λ (p : PieceValue). p.stamp) n k (each-told h fs) (told-stamps tasks fs have)
    ∙ by_stamp-same n k (side_by_side (each-told h fs)) (λ s. map h (side_by_side fs s)) (map-side h fs)
    ∙ sym (map-by_stamp h n k (side_by_side fs))

-- and so the text that was told is that of the effects
pub told_text : (tasks : List TaskNames) (events : List EventValue) (t u : TopicsValue) (x y : List ℕ) (pieces : List PieceValue) (effects : List Effect) → Tells t x u y pieces
    → pieces ≡ map (piece_of tasks) effects → StandsFor events t → y ≡ x ++ text_behind tasks events effects
told_text tasks events t u x y pieces effects tells are stands =
    tells.lines events stands ∙ ap (λ (ps : List PieceValue). x ++ pieces_text events ps) are ∙ ap (λ (l : List ℕ). x ++ l) (text_told tasks events effects)

-- and the topics have their events
pub told_topics : (tasks : List TaskNames) (events : List EventValue) (t u : TopicsValue) (x y : List ℕ) (pieces : List PieceValue) (effects : List Effect) → Tells t x u y pieces
    → pieces ≡ map (piece_of tasks) effects → StandsFor events t → StandsFor (events ++ events_of effects) u
told_topics tasks events t u x y pieces effects tells are stands =
    subst (λ (es : List EventValue). StandsFor (events ++ es) u) (ap events_told are ∙ events_told_are tasks effects) (tells.takes events stands)
