-- Transitions that are added, one record behind the other.
use Rattle.std.proofs.Common.{◌≡◌, ◌⊎◌, inl, inr, ℕ, ◌+◌, ◌<◌, ◌≤◌, Bool, true, false, ◌&&◌, List, [], ◌∷◌, ◌++◌, length, map, min, Result, Ok, Err, true≢false, if◌then◌else◌, refl, sym, ap, subst, ◌∙◌, append-nil, append_assoc, length-append, ⊎_elim, arith}
use Rattle.std.specs.Prelude.{IsTrue, drop, take}
use Rattle.std.specs.Result.{is_err, is_ok}
use Rattle.std.specs.List.{AllByRecursion as Each}
use Rattle.std.proofs.lemmas.List.{length-take, map-append, take-append-drop}
use Rattle.kap_base.proofs.TestLaws.{first_of, second_of}
use Rattle.kap_io.specs.Disk.{Image}
use Rattle.store_records.specs.Held.{Held, are_next, is_next}
use Rattle.store_records.specs.Histories.{held}
use Rattle.store_records.specs.declared.rec.Rec.{Rec}
use Rattle.store_records.specs.declared.rec.Rec.TheVariants as kinds
use Rattle.store_kept.proofs.Keeping.{held_push}
use Rattle.topic_core.specs.declared.transition.Transition.{Transition}
use Rattle.topic_store.specs.Stores.{IsOn, Stands, StoreState}
use Rattle.topic_store.proofs.Adding.{image_stands}
use Rattle.engine_store.specs.Adding.{ArePieces, HasAdded, IsClosed, IsOnBehind, IsOver, StandsWithSome, joined}
use Rattle.engine_store.proofs.PassLaws.{each_append}

-- none were added
abbrev pub added_none : (rs : List Rec) → HasAdded rs [] rs
added_none rs = record {
  pieces = [];
  records = sym (append-nil rs);
  all = refl;
  cut = tt;
  tasks = refl;
  lives = refl;
  points = refl;
  transitions = sym (append-nil (held rs).transitions);
  snap = refl;
  changes = refl;
}

pub joined_append : (ps qs : List (List Transition)) → joined (ps ++ qs) ≡ joined ps ++ joined qs
joined_append [] qs = refl
joined_append (p ∷ ps) qs = ap (λ (l : List Transition). p ++ l) (joined_append ps qs) ∙ sym (append_assoc p (joined ps) (joined qs))

pub pieces_append : (ps qs : List (List Transition)) → ArePieces ps → Each IsOver ps → ArePieces qs → ArePieces (ps ++ qs)
pieces_append [] qs a over b = b
pieces_append (p ∷ ps) qs a over b = (record { some = a.0.some; closed = a.0.closed; over = inl over.0 }, pieces_append ps qs a.1 over.1 b)

-- some, whose records pass the limit, and then more
abbrev pub added_then : (rs mid new : List Rec) (ts us : List Transition) → (a : HasAdded rs ts mid) → Each IsOver a.pieces → HasAdded mid us new → HasAdded rs (ts ++ us) new
added_then rs mid new ts us a over b = record {
  pieces = a.pieces ++ b.pieces;
  records =
      b.records
      ∙ ap (λ (l : List Rec). l ++ map kinds.Trans b.pieces) a.records
      ∙ append_assoc rs (map kinds.Trans a.pieces) (map kinds.Trans b.pieces)
      ∙ ap (λ (l : List Rec). rs ++ l) (sym (map-append kinds.Trans a.pieces b.pieces));
  all = ap (λ (l : List Transition). l ++ us) a.all ∙ ap (λ (l : List Transition). joined a.pieces ++ l) b.all ∙ sym (joined_append a.pieces b.pieces);
  cut = pieces_append a.pieces b.pieces a.cut over b.cut;
  tasks = b.tasks ∙ a.tasks;
  lives = b.lives ∙ a.lives;
  points = b.points ∙ a.points;
  transitions = b.transitions ∙ ap (λ (l : List Transition). l ++ us) a.transitions ∙ append_assoc (held rs).transitions ts us;
  snap = b.snap ∙ a.snap;
  changes = b.changes ∙ a.changes;
}

-- a record of them
abbrev pub added_record : (rs : List Rec) (ts : List Transition) → 0 < length ts → IsClosed ts → HasAdded rs ts (rs ++ kinds.Trans ts ∷ [])
added_record rs ts some closed =
    let push = held_push rs (kinds.Trans ts) in
    let h = held rs in
    record {
      pieces = ts ∷ [];
      records = refl;
      all = sym (append-nil ts);
      cut = (record { some = some; closed = closed; over = inr refl }, tt);
      tasks = ap (λ (k : Held). k.tasks) push;
      lives = ap (λ (k : Held). k.lives) push ∙ append-nil h.lives;
      points = ap (λ (k : Held). k.points) push ∙ append-nil h.points;
      transitions = ap (λ (k : Held). k.transitions) push;
      snap = ap (λ (k : Held). k.snap) push;
      changes = ap (λ (k : Held). k.changes) push ∙ (let same : h.changes + 0 ≡ h.changes = omega arith in same);
    }

next-append : (before xs ys : List Transition) → are_next before (xs ++ ys) ≡ (are_next before xs && are_next (before ++ xs) ys)
next-append before [] ys = ap (λ (l : List Transition). are_next l ys) (sym (append-nil before))
next-append before (x ∷ xs) ys =
    ap (λ (b : Bool). is_next before x && b) (next-append (before ++ x ∷ []) xs ys ∙ ap (λ (l : List Transition). are_next (before ++ x ∷ []) xs && are_next l ys) (append_assoc before (x ∷ []) xs))
    ∙ turned (is_next before x) (are_next (before ++ x ∷ []) xs) (are_next (before ++ x ∷ xs) ys)
  where
    turned : (a b c : Bool) → (a && (b && c)) ≡ ((a && b) && c)
    turned true b c = refl
    turned false b c = refl

-- The next record takes the first of those that are left.
pub record IsCut (rest piece behind : List Transition) : Type 0 where
  pub split : rest ≡ piece ++ behind
  pub some : 0 < length piece
  pub closed : IsClosed piece
  pub over : 0 < length behind → IsOver piece

pub cut_at : (count : ℕ) (rest seen left piece behind : List Transition) → seen ≡ rest → left ≡ take count rest → piece ≡ left → behind ≡ drop count rest → 0 < length rest
    → (0 < length seen → 0 < count) → count ≤ length seen → IsClosed (take count seen) → (count < length seen → IsOver (take count seen)) → IsCut rest piece behind
cut_at count rest seen left piece behind seen_is left_is piece_is behind_is some more within closed over =
    let is : piece ≡ take count rest = piece_is ∙ left_is in
    let all : length seen ≡ length rest = ap length seen_is in
    let count_in : length (take count rest) ≡ min count (length rest) = length-take count rest in
    let len : length piece ≡ length (take count rest) = ap length is in
    let len_behind : length behind ≡ length (drop count rest) = ap length behind_is in
    let cut : length (take count rest) + length (drop count rest) ≡ length rest = sym (length-append (take count rest) (drop count rest)) ∙ ap length (take-append-drop count rest) in
    let any : 0 < count = more (omega (arith, all, some)) in
    record {
      split = sym (take-append-drop count rest) ∙ ap (λ (l : List Transition). l ++ drop count rest) (sym is) ∙ ap (λ (l : List Transition). piece ++ l) (sym behind_is);
      some = omega (arith, len, count_in, any, some);
      closed = subst IsClosed (sym is) (subst (λ (l : List Transition). IsClosed (take count l)) seen_is closed);
      over = λ lt. subst IsOver (sym is) (subst (λ (l : List Transition). IsOver (take count l)) seen_is (over (omega (arith, all, len_behind, cut, count_in, within, lt))));
    }

-- Of the transitions that are due some were added, and these are left.
pub record IsAdding (rs : List Rec) (due rest : List Transition) (seen : Image) (images : Image → Type 0) (store : StoreState) : Type 0 where
  pub passed : List Transition
  pub split : due ≡ passed ++ rest
  pub records : List Rec
  pub added : HasAdded rs passed records
  pub over : 0 < length rest → Each IsOver added.pieces
  pub on : IsOn records seen images store

pub adding_none : (rs : List Rec) (due : List Transition) (seen : Image) (images : Image → Type 0) (store : StoreState) → IsOn rs seen images store → IsAdding rs due due seen images store
adding_none rs due seen images store on = record { passed = []; split = refl; records = rs; added = added_none rs; over = λ lt. tt; on = on }

module _ (rs : List Rec) (due rest piece behind : List Transition) (seen : Image) (images : Image → Type 0) (store : StoreState) (a : IsAdding rs due rest seen images store) (cut : IsCut rest piece behind) where
  rest-some : 0 < length rest
  rest-some =
      let some : 0 < length piece = cut.some in
      let long : length rest ≡ length piece + length behind = ap length cut.split ∙ length-append piece behind in
      omega (arith, some, long)

  -- the next of them may be added
  pub next_may : IsTrue (are_next (held rs).transitions due) → IsTrue (are_next (held a.records).transitions piece)
  next_may may =
      let h = (held rs).transitions in
      let one : (are_next h a.passed && are_next (h ++ a.passed) rest) ≡ true = sym (next-append h a.passed rest) ∙ ap (are_next h) (sym a.split) ∙ may in
      let two : are_next (h ++ a.passed) rest ≡ true = second_of (are_next h a.passed) (are_next (h ++ a.passed) rest) one in
      let three : (are_next (h ++ a.passed) piece && are_next ((h ++ a.passed) ++ piece) behind) ≡ true = sym (next-append (h ++ a.passed) piece behind) ∙ ap (are_next (h ++ a.passed)) (sym cut.split) ∙ two in
      ap (λ (l : List Transition). are_next l piece) a.added.transitions ∙ first_of (are_next (h ++ a.passed) piece) (are_next ((h ++ a.passed) ++ piece) behind) three

  -- and where they are, these are left behind them
  pub adding_more : (seen' : Image) (images' : Image → Type 0) (store' : StoreState) → IsOn (a.records ++ kinds.Trans piece ∷ []) seen' images' store' → IsAdding rs due behind seen' images' store'
  adding_more seen' images' store' on = record {
    passed = a.passed ++ piece;
    split = a.split ∙ ap (λ (l : List Transition). a.passed ++ l) cut.split ∙ sym (append_assoc a.passed piece behind);
    records = a.records ++ kinds.Trans piece ∷ [];
    added = added_then rs a.records (a.records ++ kinds.Trans piece ∷ []) a.passed piece a.added (a.over rest-some) (added_record a.records piece cut.some cut.closed);
    over = λ lt. each_append IsOver a.added.pieces (piece ∷ []) (a.over rest-some) (cut.over lt, tt);
    on = on;
  }

  -- the files stand for the store with the first of them
  pub some_of : (files : Image) → StandsWithSome a.records piece files → StandsWithSome rs due files
  some_of files s = record {
    some = a.passed ++ s.some;
    others = s.others ++ behind;
    split = a.split ∙ ap (λ (l : List Transition). a.passed ++ l) (cut.split ∙ ap (λ (l : List Transition). l ++ behind) s.split ∙ append_assoc s.some s.others behind) ∙ sym (append_assoc a.passed s.some (s.others ++ behind));
    records = s.records;
    added = added_then rs a.records s.records a.passed s.some a.added (a.over rest-some) s.added;
    stands = s.stands;
  }

-- what came behind others, where that didn't fail, is there
pub came_behind : {T E : Type 0} (result : Result T E) (old more new : List Transition) → new ≡ (if is_ok result then old ++ more else old) → is_err result ≡ false → new ≡ old ++ more
came_behind (Ok x) old more new e fine = e
came_behind (Err x) old more new e fine = absurd (true≢false fine)

-- where nothing was added yet
pub none_yet : (rs : List Rec) (due : List Transition) (seen : Image) (images : Image → Type 0) (store : StoreState) → IsOn rs seen images store → (files : Image) → images files → StandsWithSome rs due files
none_yet rs due seen images store on files left = record { some = []; others = due; split = refl; records = rs; added = added_none rs; stands = image_stands rs seen images store on files left }

-- a record of them stands there or doesn't
pub before_or_after : (rs : List Rec) (ts : List Transition) (files : Image) → 0 < length ts → IsClosed ts → Stands rs files ⊎ Stands (rs ++ kinds.Trans ts ∷ []) files → StandsWithSome rs ts files
before_or_after rs ts files some closed e = ⊎_elim
    (λ (s : Stands rs files). record { some = []; others = ts; split = refl; records = rs; added = added_none rs; stands = s })
    (λ (s : Stands (rs ++ kinds.Trans ts ∷ []) files). record { some = ts; others = []; split = sym (append-nil ts); records = rs ++ kinds.Trans ts ∷ []; added = added_record rs ts some closed; stands = s })
    e

pub added_all : (rs : List Rec) (due rest : List Transition) (seen : Image) (images : Image → Type 0) (store : StoreState) → IsAdding rs due rest seen images store → rest ≡ [] → IsOnBehind rs due seen images store
added_all rs due rest seen images store a e = record {
  records = a.records;
  added = subst (λ (l : List Transition). HasAdded rs l a.records) (sym (a.split ∙ ap (λ (l : List Transition). a.passed ++ l) e ∙ append-nil a.passed)) a.added;
  on = a.on;
}
