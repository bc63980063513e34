-- What reading and writing make of a connection: laws that its drivers share, whatever kind of link they have.
use Rattle.std.proofs.Common.{◌≡◌, ◌≢◌, ℕ, List, [], ◌∷◌, ◌++◌, length, take, ◌≤◌, refl, sym, ap, subst, ◌∙◌, inl, inr, Option, Some, None, All, append-nil}
use Rattle.std.proofs.lemmas.List.{take-take}
use Rattle.std.specs.Io.KnownBytes.{Appends, Consumes, IsAtEnd}
use Rattle.std.proofs.KnownBytes.{Appends-nil, Appends-trans, Consumes-nil, Consumes-trans}
use Rattle.kap_http.specs.Calls.{Call, AddsCalls}
use Rattle.kap_http.specs.Requests.{Stop}
use Rattle.http_dialog.specs.declared.ending.LinkEnd.{LinkEnd}
use Rattle.http_dialog.specs.declared.ending.LinkEnd.TheVariants as ends
use Rattle.http_dialog.specs.declared.ending.DialogEnd.{DialogEnd}
use Rattle.http_dialog.specs.declared.ending.DialogEnd.TheVariants as stops
use Rattle.http_dialog.specs.Endings.{end_of, of_link}
use Rattle.http_dialog.specs.Dialogs.{Past, DialogValue, HasPast, Stands, Steps, Answered, no_past, with_piece, with_end, with_calls, with_gone}
use Rattle.http_dialog.specs.Links.{EndsAt, Goes, HasEnded, HasStopped, WasCut, Fate, Connected}
use Rattle.http_dialog.specs.Driving.{GoesOn, GoesLost, ComesOn, ComesTo}
use Rattle.http_dialog.proofs.NumberLaws.{Told, adds_none, adds_own, adds_others}
use Rattle.http_dialog.proofs.DialogLaws.{came_goes}

abbrev pub Known : Type 0
Known = Option (List ℕ)

-- ---- bytes that are told

appends_same : (a b c : Known) (x : List ℕ) → Appends a b x → Appends b c [] → Appends a c x
appends_same a b c x p q = subst (λ (y : List ℕ). Appends a c y) (append-nil x) (Appends-trans a b c x [] p q)

consumes_same : (a b c : Known) (x : List ℕ) → Consumes a b x → Consumes b c [] → Consumes a c x
consumes_same a b c x p q = subst (λ (y : List ℕ). Consumes a c y) (append-nil x) (Consumes-trans a b c x [] p q)

-- where no byte is left, none is read
end_read : (l a b : Known) (x y : List ℕ) → Consumes l a x → EndsAt l a → Consumes a b y → EndsAt l b
end_read None a b x y p e q = tt
end_read (Some xs) None b x y p e q = absurd p
end_read (Some xs) (Some ys) None x y p e q = absurd q
end_read (Some xs) (Some ys) (Some zs) x [] p e q = sym q ∙ e
end_read (Some xs) (Some ys) (Some zs) x (b ∷ y) p e q = absurd (cc (e, q))

ends_at : (l a : Known) → IsAtEnd a → EndsAt l a
ends_at None a e = tt
ends_at (Some xs) a e = e

-- what was taken of a front of the bytes that are due is a front of them
pub front_taken : (due piece : List ℕ) (count : ℕ) → piece ≡ take (length piece) due → count ≤ length piece → take count piece ≡ take count due
front_taken due piece count front within = ap (λ (x : List ℕ). take count x) front ∙ take-take count (length piece) due within

-- ---- steps

pub starts : (number : ℕ) (l : Known) (s : Told) (v : Known) (dialog : DialogValue) → HasPast number no_past dialog → Goes number l l s s v v dialog
starts number l s v dialog has = record {
  past = no_past;
  told = record { consumed = Consumes-nil l; at_end = λ e. absurd (cc e); told = adds_none number s; wrote = Appends-nil v };
  has = has;
}

pub same_on : (m w : Known) (dialog : DialogValue) → GoesOn m m w w dialog dialog
same_on m w dialog number l v s t g = g

pub goes_more : (a b c v w x : Known) (old mid new : DialogValue) → GoesOn a b v w old mid → GoesOn b c w x mid new → GoesOn a c v x old new
goes_more a b c v w x old mid new p q number l o s t g = q number l o s t (p number l o s t g)

-- what stays goes on
pub keeps_on : (m n w x : Known) (dialog : DialogValue) → Consumes m n [] → Appends w x [] → GoesOn m n w x dialog dialog
keeps_on m n w x dialog k j number l v s t g = record {
  past = g.past;
  told = record {
    consumed = consumes_same l m n g.past.came g.told.consumed k;
    at_end = λ e. end_read l m n g.past.came [] g.told.consumed (g.told.at_end e) k;
    told = g.told.told;
    wrote = appends_same v w x g.past.gone g.told.wrote j;
  };
  has = g.has;
}

-- bytes were written
pub wrote_on : (m n w x : Known) (old new : DialogValue) (piece : List ℕ) → Consumes m n [] → Appends w x piece
    → ((number : ℕ) (past : Past) → HasPast number past old → HasPast number (with_gone piece past) new) → GoesOn m n w x old new
wrote_on m n w x old new piece k a step number l v s t g = record {
  past = with_gone piece g.past;
  told = record {
    consumed = consumes_same l m n g.past.came g.told.consumed k;
    at_end = λ e. end_read l m n g.past.came [] g.told.consumed (g.told.at_end e) k;
    told = g.told.told;
    wrote = Appends-trans v w x g.past.gone piece g.told.wrote a;
  };
  has = step number g.past g.has;
}

-- bytes came
pub came_on : (m n w x : Known) (old new : DialogValue) (piece : List ℕ) → Consumes m n piece → Appends w x []
    → ((number : ℕ) (past : Past) → HasPast number past old → HasPast number (with_piece piece past) new) → GoesOn m n w x old new
came_on m n w x old new piece c j step number l v s t g = record {
  past = with_piece piece g.past;
  told = record {
    consumed = Consumes-trans l m n g.past.came piece g.told.consumed c;
    at_end = λ e. end_read l m n g.past.came piece g.told.consumed (g.told.at_end e) c;
    told = g.told.told;
    wrote = appends_same v w x g.past.gone g.told.wrote j;
  };
  has = step number g.past g.has;
}

-- the end of the bytes was seen
pub over_on : (m n w x : Known) (old new : DialogValue) (piece : List ℕ) → piece ≡ [] → Consumes m n piece → IsAtEnd n → Appends w x []
    → ((number : ℕ) (past : Past) → HasPast number past old → HasPast number (with_end past) new) → GoesOn m n w x old new
over_on m n w x old new piece none c e j step number l v s t g = record {
  past = with_end g.past;
  told = record {
    consumed = subst (λ (y : List ℕ). Consumes l n y) (ap (λ (y : List ℕ). g.past.came ++ y) none ∙ append-nil g.past.came) (Consumes-trans l m n g.past.came piece g.told.consumed c);
    at_end = λ _. ends_at l n e;
    told = g.told.told;
    wrote = appends_same v w x g.past.gone g.told.wrote j;
  };
  has = step number g.past g.has;
}

-- bytes that came and were lost
pub lost_on : (m n w x : Known) (old : DialogValue) (piece : List ℕ) → old.ending ≡ None → Consumes m n piece → Appends w x [] → GoesLost m n w x old
lost_on m n w x old piece is c j number l v s t g =
    let new : DialogValue = record { held = old.held ++ piece; left = old.left; due = old.due; ending = None } in
    (new, refl, refl, came_on m n w x old new piece c j (λ k past has. came_goes k past old new piece is refl refl refl refl has) number l v s t g)

-- a request was answered, or none
pub stepped : (number : ℕ) (l m : Known) (s t u : Told) (v w : Known) (old new : DialogValue) → Goes number l m s t v w old → Steps number old new t u → Goes number l m s u v w new
stepped number l m s t u v w old new g step = record {
  past = with_calls step.calls g.past;
  told = record {
    consumed = g.told.consumed;
    at_end = g.told.at_end;
    told = adds_own number s t u g.past.calls step.calls g.told.told step.told step.numbers;
    wrote = g.told.wrote;
  };
  has = step.goes g.past g.has;
}

-- others were served
pub others_on : (number : ℕ) (l m v w : Known) (s t u : Told) (dialog : DialogValue) (more : List Call) → Goes number l m s t v w dialog
    → AddsCalls t u more → All (λ k. k.number ≢ number) more → Goes number l m s u v w dialog
others_on number l m v w s t u dialog more g told others = record {
  past = g.past;
  told = record {
    consumed = g.told.consumed;
    at_end = g.told.at_end;
    told = adds_others number s t u g.past.calls more g.told.told told others;
    wrote = g.told.wrote;
  };
  has = g.has;
}

-- ---- ends

by_end : (past : Past) (stop : Stop) (ending : DialogEnd) → ending ≡ end_of stop → HasEnded past (of_link ending) → Fate past (of_link ending)
by_end past stop stops.Closed e h = h
by_end past stop stops.Limit e h = h
by_end past stop stops.Refused e h = h

-- where a connection stands with nothing due
stands_quiet : (past : Past) (dialog : DialogValue) (texts : List ℕ) (ending : Option DialogEnd) → dialog.ending ≡ ending → dialog.due ≡ []
    → Stands past dialog.held dialog.left texts (past.gone ++ dialog.due) dialog.ending → Stands past dialog.held dialog.left texts (past.gone ++ []) ending
stands_quiet past dialog texts ending is quiet s =
    subst (λ (e : Option DialogEnd). Stands past dialog.held dialog.left texts (past.gone ++ []) e) is
    (subst (λ (d : List ℕ). Stands past dialog.held dialog.left texts (past.gone ++ d) dialog.ending) quiet s)

pub ends_so : (number : ℕ) (l m : Known) (s t : Told) (v w : Known) (dialog : DialogValue) (ending : DialogEnd) → Goes number l m s t v w dialog → dialog.ending ≡ Some ending → dialog.due ≡ []
    → Connected number l m s t v w (of_link ending)
ends_so number l m s t v w dialog ending g is quiet =
    let past = g.past in
    let o = stands_quiet past dialog g.has.texts (Some ending) is quiet g.has.stands in
    record {
      past = past;
      told = g.told;
      numbers = g.has.numbers;
      fate = by_end past o.stop ending o.ending_is (record {
        stop = o.stop;
        requests = o.requests;
        all = o.final;
        texts = g.has.texts;
        answered = g.has.answered;
        wrote = sym (append-nil past.gone) ∙ o.whole;
        ending_is = ap of_link o.ending_is;
      });
    }

stopped : (number : ℕ) (past : Past) (dialog : DialogValue) → HasPast number past dialog → dialog.ending ≡ None → dialog.due ≡ [] → HasStopped past
stopped number past dialog has is quiet =
    let o = stands_quiet past dialog has.texts None is quiet has.stands in
    record {
      rest = dialog.held;
      begun = o.begun;
      answered = subst (λ (x : List ℕ). Answered 1000 past.calls x) (sym (sym (append-nil past.gone) ∙ o.whole)) has.answered;
    }

pub read_fault : (number : ℕ) (l m : Known) (s t : Told) (v w : Known) (dialog : DialogValue) → Goes number l m s t v w dialog → dialog.ending ≡ None → dialog.due ≡ []
    → Connected number l m s t v w ends.ReadFault
read_fault number l m s t v w dialog g is quiet =
    record { past = g.past; told = g.told; numbers = g.has.numbers; fate = stopped number g.past dialog g.has is quiet }

pub no_memory : (number : ℕ) (l m : Known) (s t : Told) (v w : Known) (dialog : DialogValue) → Goes number l m s t v w dialog → dialog.ending ≡ None → dialog.due ≡ []
    → Connected number l m s t v w ends.NoMemory
no_memory number l m s t v w dialog g is quiet =
    record { past = g.past; told = g.told; numbers = g.has.numbers; fate = stopped number g.past dialog g.has is quiet }

cut : (past : Past) (held : List ℕ) (left : ℕ) (texts more : List ℕ) (ending : Option DialogEnd) → Answered 1000 past.calls texts → Stands past held left texts (past.gone ++ more) ending → WasCut past
cut past held left texts more None a s = record { texts = texts; more = more; answered = a; due = inl s.whole; requests = inl (held, s.begun) }
cut past held left texts more (Some ending) a s = record { texts = texts; more = more; answered = a; due = inr (s.stop, s.requests, s.whole); requests = inr (s.stop, s.requests) }

pub write_fault : (number : ℕ) (l m : Known) (s t : Told) (v w : Known) (dialog : DialogValue) → Goes number l m s t v w dialog → Connected number l m s t v w ends.WriteFault
write_fault number l m s t v w dialog g =
    record { past = g.past; told = g.told; numbers = g.has.numbers; fate = cut g.past dialog.held dialog.left g.has.texts dialog.due dialog.ending g.has.answered g.has.stands }

-- ---- the connection with a number

pub comes_none : (number : ℕ) (m : Known) (s : Told) (w : Known) (dialog : DialogValue) → ComesOn number m m s s w w dialog dialog
comes_none number m s w dialog l v r g = g

pub comes_more : (number : ℕ) (a b c : Known) (s t u : Told) (v w x : Known) (old mid new : DialogValue) → ComesOn number a b s t v w old mid → ComesOn number b c t u w x mid new
    → ComesOn number a c s u v x old new
comes_more number a b c s t u v w x old mid new p q l k r g = q l k r (p l k r g)

pub comes_moved : (number : ℕ) (a b c : Known) (s t : Told) (v w x : Known) (old mid new : DialogValue) → ComesOn number a b s t v w old mid → GoesOn b c w x mid new
    → ComesOn number a c s t v x old new
comes_moved number a b c s t v w x old mid new p q l k r g = q number l k r t (p l k r g)

pub comes_stepped : (number : ℕ) (a b : Known) (s t u : Told) (v w : Known) (old mid new : DialogValue) → ComesOn number a b s t v w old mid → Steps number mid new t u
    → ComesOn number a b s u v w old new
comes_stepped number a b s t u v w old mid new p step l k r g = stepped number l b r t u k w mid new (p l k r g) step

pub comes_end : (number : ℕ) (a b : Known) (s t : Told) (v w : Known) (old new : DialogValue) (ending : DialogEnd) → ComesOn number a b s t v w old new → new.ending ≡ Some ending → new.due ≡ []
    → ComesTo number a b s t v w old (of_link ending)
comes_end number a b s t v w old new ending p is quiet l k r g = ends_so number l b r t k w new ending (p l k r g) is quiet

pub comes_memory : (number : ℕ) (a b : Known) (s t : Told) (v w : Known) (old new : DialogValue) → ComesOn number a b s t v w old new → new.ending ≡ None → new.due ≡ []
    → ComesTo number a b s t v w old ends.NoMemory
comes_memory number a b s t v w old new p is quiet l k r g = no_memory number l b r t k w new (p l k r g) is quiet

pub comes_cut : (number : ℕ) (a b : Known) (s t : Told) (v w : Known) (old new : DialogValue) → ComesOn number a b s t v w old new → ComesTo number a b s t v w old ends.WriteFault
comes_cut number a b s t v w old new p l k r g = write_fault number l b r t k w new (p l k r g)

pub comes_lost : (number : ℕ) (a b c : Known) (s t : Told) (v w x : Known) (old new : DialogValue) → ComesOn number a b s t v w old new → GoesLost b c w x new → new.due ≡ []
    → ComesTo number a c s t v x old ends.ReadFault × ComesTo number a c s t v x old ends.NoMemory
comes_lost number a b c s t v w x old new p lost quiet = (λ l k r g. reads l k r (p l k r g), λ l k r g. lacks l k r (p l k r g))
  where
    reads : (l k : Known) (r : Told) → Goes number l b r t k w new → Connected number l c r t k x ends.ReadFault
    reads l k r g = let o = lost number l k r t g in read_fault number l c r t k x o.0 o.3 o.1 (o.2 ∙ quiet)

    lacks : (l k : Known) (r : Told) → Goes number l b r t k w new → Connected number l c r t k x ends.NoMemory
    lacks l k r g = let o = lost number l k r t g in no_memory number l c r t k x o.0 o.3 o.1 (o.2 ∙ quiet)

pub comes_from_start : (number : ℕ) (a b : Known) (s t : Told) (v w : Known) (dialog : DialogValue) (ending : LinkEnd) → HasPast number no_past dialog → ComesTo number a b s t v w dialog ending
    → Connected number a b s t v w ending
comes_from_start number a b s t v w dialog ending has p = p a v s (starts number a s v dialog has)
