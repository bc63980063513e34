-- Steps of a connection.
use Rattle.std.proofs.Common.{◌≡◌, ◌≢◌, ℕ, zero, suc, ◌+◌, ◌-◌, ◌<◌, ◌≤◌, Bool, true, false, ◌||◌, ◌==◌, List, [], ◌∷◌, ◌++◌, length, take, drop, min, refl, sym, ap, subst, ◌∙◌, arith, inl, inr, Option, Some, None, Ok, Err, All, if◌then◌else◌, append_assoc, append-nil, length-append, zero-add}
use Rattle.std.proofs.lemmas.List.{map-append, length-map, take-append-drop}
use Rattle.std.proofs.lemmas.Bool.Decides.{nat_tests}
use Rattle.std.proofs.lemmas.List.Elements.{All-cons, All-nil, All-append}
use Rattle.http_dialog.specs.declared.ending.DialogEnd.{DialogEnd}
use Rattle.http_dialog.specs.declared.ending.DialogEnd.TheVariants as ends
use Rattle.http_dialog.specs.Endings.{end_of, ending_after}
use Rattle.http_dialog.specs.Dialogs.{Past, DialogValue, HasPast, IsOf, Stands, IsOpen, Steps, Answered, IsPrinted, requests_of, refusal, no_past, fresh, reach_of, reach, room, with_piece, with_end, with_calls, with_gone}
use Rattle.kap_http.specs.declared.fault.HttpFault.{HttpFault}
use Rattle.kap_http.specs.Calls.{Call, AddsCall}
use Rattle.kap_http.specs.Reading.{Gives}
use Rattle.kap_http.specs.RequestValues.{RequestValue}
use Rattle.kap_http.specs.ReplyValues.{ReplyValue}
use Rattle.kap_http.specs.Replies.{reply_text, fault_reply}
use Rattle.kap_http.specs.Requests.{Stop, behind_last, behind_most, at_fault, StopsAt, BehindIt, Requests, BeginsWith}
use Rattle.http_dialog.proofs.NumberLaws.{Told, calls_none}
use Rattle.kap_http.proofs.StreamLaws.{begun_more, begun_next, begun_then}

pub begins : (number : ℕ) (dialog : DialogValue) → dialog ≡ fresh → HasPast number no_past dialog
begins number dialog is = rw is (record {
  numbers = All-nil (IsOf number);
  texts = [];
  answered = refl;
  stands = record { begun = refl; count = refl; some = omega arith; whole = refl };
})

-- what stands is of what came and was asked alone
stands_gone : (past : Past) (held : List ℕ) (left : ℕ) (texts all now : List ℕ) (ending : Option DialogEnd) (piece : List ℕ) → now ≡ all
    → Stands past held left texts all ending → Stands (with_gone piece past) held left texts now ending
stands_gone past held left texts all now None piece same s = record { begun = s.begun; count = s.count; some = s.some; whole = same ∙ s.whole }
stands_gone past held left texts all now (Some ending) piece same s =
    record { stop = s.stop; requests = s.requests; final = s.final; ending_is = s.ending_is; whole = same ∙ s.whole }

pub sent_goes : (number : ℕ) (past : Past) (old new : DialogValue) (n : ℕ) → new.held ≡ old.held → new.left ≡ old.left → new.ending ≡ old.ending → new.due ≡ drop n old.due
    → HasPast number past old → HasPast number (with_gone (take n old.due) past) new
sent_goes number past old new n held left ending due t =
    let same : (past.gone ++ take n old.due) ++ drop n old.due ≡ past.gone ++ old.due =
    append_assoc past.gone (take n old.due) (drop n old.due) ∙ ap (λ (x : List ℕ). past.gone ++ x) (take-append-drop n old.due) in
    record {
      numbers = t.numbers;
      texts = t.texts;
      answered = t.answered;
      stands = rw (held, left, ending, due) (stands_gone past old.held old.left t.texts (past.gone ++ old.due) ((past.gone ++ take n old.due) ++ drop n old.due) old.ending (take n old.due) same t.stands);
    }

pub came_goes : (number : ℕ) (past : Past) (old new : DialogValue) (piece : List ℕ) → old.ending ≡ None → new.ending ≡ None → new.held ≡ old.held ++ piece → new.left ≡ old.left → new.due ≡ old.due
    → HasPast number past old → HasPast number (with_piece piece past) new
came_goes number past old new piece was is held left due t =
    let s : IsOpen past old.held old.left t.texts (past.gone ++ old.due) = subst (Stands past old.held old.left t.texts (past.gone ++ old.due)) was t.stands in
    record {
      numbers = t.numbers;
      texts = t.texts;
      answered = t.answered;
      stands = rw (is, held, left, due) (record { begun = begun_more past.came piece (requests_of past.calls) old.held s.begun; count = s.count; some = s.some; whole = s.whole });
    }

-- the requests so far, and the stop behind them
ends_so : (came : List ℕ) (calls : List Call) (rest : List ℕ) (left : ℕ) (stop : Stop) → BeginsWith came (requests_of calls) rest → length calls + left ≡ 1000 → 0 < left → StopsAt rest stop
    → Requests 1000 came (requests_of calls) stop
ends_so came calls rest zero stop begun count some stops = absurd (omega arith)
ends_so came calls rest (suc left) stop begun count some stops =
    let sized : length (requests_of calls) + suc left ≡ 1000 = omega (arith, count, length-map calls (λ (c : Call). c.request)) in
    let all = begun_then came (requests_of calls) rest (suc left) [] stop begun stops in
    subst (λ (n : ℕ). Requests n came (requests_of calls) stop) sized (subst (λ (rs : List RequestValue). Requests (length (requests_of calls) + suc left) came rs stop) (append-nil (requests_of calls)) all)

-- the stop where no more bytes come
pub over_goes : (number : ℕ) (past : Past) (old new : DialogValue) (ending : DialogEnd) (stop : Stop) → old.ending ≡ None → new.ending ≡ Some ending → new.due ≡ old.due
    → ending ≡ end_of stop → refusal stop ≡ [] → StopsAt old.held stop → HasPast number past old → HasPast number (with_end past) new
over_goes number past old new ending stop was is due end quiet stops t =
    let s : IsOpen past old.held old.left t.texts (past.gone ++ old.due) = subst (Stands past old.held old.left t.texts (past.gone ++ old.due)) was t.stands in
    record {
      numbers = t.numbers;
      texts = t.texts;
      answered = t.answered;
      stands = rw (is, due) (record {
        stop = stop;
        requests = ends_so past.came past.calls old.held old.left stop s.begun s.count s.some stops;
        final = inr refl;
        ending_is = end;
        whole = s.whole ∙ sym (append-nil t.texts) ∙ ap (λ (x : List ℕ). t.texts ++ x) (sym quiet);
      });
    }

-- ---- steps

stands_none : (past : Past) (held : List ℕ) (left : ℕ) (texts all : List ℕ) (ending : Option DialogEnd) → Stands past held left texts all ending → Stands (with_calls [] past) held left texts all ending
stands_none past held left texts all None s = record {
  begun = subst (λ (cs : List Call). BeginsWith past.came (requests_of cs) held) (sym (append-nil past.calls)) s.begun;
  count = subst (λ (cs : List Call). length cs + left ≡ 1000) (sym (append-nil past.calls)) s.count;
  some = s.some;
  whole = s.whole;
}
stands_none past held left texts all (Some ending) s = record {
  stop = s.stop;
  requests = subst (λ (cs : List Call). Requests 1000 past.came (requests_of cs) s.stop) (sym (append-nil past.calls)) s.requests;
  final = s.final;
  ending_is = s.ending_is;
  whole = s.whole;
}

pub no_calls : (number : ℕ) (past : Past) (dialog : DialogValue) → HasPast number past dialog → HasPast number (with_calls [] past) dialog
no_calls number past dialog t = record {
  numbers = subst (λ (cs : List Call). All (IsOf number) cs) (sym (append-nil past.calls)) t.numbers;
  texts = t.texts;
  answered = subst (λ (cs : List Call). Answered 1000 cs t.texts) (sym (append-nil past.calls)) t.answered;
  stands = stands_none past dialog.held dialog.left t.texts (past.gone ++ dialog.due) dialog.ending t.stands;
}

pub stays : (number : ℕ) (dialog : DialogValue) (s : Told) → Steps number dialog dialog s s
stays number dialog s = record {
  calls = [];
  told = calls_none s;
  numbers = All-nil (IsOf number);
  goes = λ past h. no_calls number past dialog h;
}

answered_more : (n : ℕ) (calls : List Call) (out : List ℕ) (c : Call) (text : List ℕ) (left : ℕ) → length calls + left ≡ n → Answered n calls out
    → IsPrinted (c.request.last || left == 1) c.reply text → Answered n (calls ++ c ∷ []) (out ++ text)
answered_more n [] out c text left count done printed =
    let same : left ≡ n = sym (zero-add left) ∙ count in
    (text, [], ap (λ (x : List ℕ). x ++ text) done ∙ sym (append-nil text), subst (λ (m : ℕ). IsPrinted (c.request.last || m == 1) c.reply text) same printed, refl)
answered_more n (d ∷ calls) out c text left count done printed = (
  done.0,
  done.1 ++ text,
  ap (λ (x : List ℕ). x ++ text) done.2 ∙ append_assoc done.0 done.1 text,
  done.3,
  answered_more (n - 1) calls done.1 c text left (omega arith) done.4 printed,
)

abbrev call_of : ℕ → RequestValue → ReplyValue → Call
call_of number r reply = record { number = number; request = r; reply = reply }

-- the requests and one more, which is the last that is taken
last_one : (came : List ℕ) (calls : List Call) (held : List ℕ) (left : ℕ) (c : Call) (len : ℕ) (stop : Stop) → BeginsWith came (requests_of calls) held → length calls + suc left ≡ 1000
    → Gives held (Ok (Some (c.request, len))) → BehindIt c.request.last [] stop (Requests left (drop len held) [] stop) → Requests 1000 came (requests_of (calls ++ c ∷ [])) stop
last_one came calls held left c len stop begun count gives behind =
    let sized : length (requests_of calls) + suc left ≡ 1000 = omega (arith, count, length-map calls (λ (k : Call). k.request)) in
    let all = begun_then came (requests_of calls) held (suc left) (c.request ∷ []) stop begun (len, gives, behind) in
    subst (λ (k : ℕ). Requests k came (requests_of (calls ++ c ∷ [])) stop) sized
    (subst (λ (rs : List RequestValue). Requests (length (requests_of calls) + suc left) came rs stop) (sym (map-append (λ (k : Call). k.request) calls (c ∷ []))) all)

-- the texts and one more
joined : (gone due text texts : List ℕ) → gone ++ due ≡ texts → gone ++ (due ++ text) ≡ texts ++ text
joined gone due text texts whole = sym (append_assoc gone due text) ∙ ap (λ (x : List ℕ). x ++ text) whole

-- where a connection stands behind one more request
stands_served : (past : Past) (held : List ℕ) (left : ℕ) (texts due text : List ℕ) (c : Call) (len : ℕ) → IsOpen past held left texts (past.gone ++ due) → Gives held (Ok (Some (c.request, len)))
    → (last : Bool) → c.request.last ≡ last → Stands (with_calls (c ∷ []) past) (drop len held) (left - 1) (texts ++ text) (past.gone ++ (due ++ text)) (ending_after last left)
stands_served past held zero texts due text c len s gives last is = absurd (let some = s.some in omega arith)
stands_served past held (suc left) texts due text c len s gives true is = record {
  stop = behind_last;
  requests = last_one past.came past.calls held left c len behind_last s.begun s.count gives (subst (λ (b : Bool). BehindIt b [] behind_last (Requests left (drop len held) [] behind_last)) (sym is) (refl, refl));
  final = inl tt;
  ending_is = refl;
  whole = joined past.gone due text texts s.whole ∙ sym (append-nil (texts ++ text));
}
stands_served past held (suc zero) texts due text c len s gives false is = record {
  stop = behind_most;
  requests = last_one past.came past.calls held zero c len behind_most s.begun s.count gives (subst (λ (b : Bool). BehindIt b [] behind_most (Requests zero (drop len held) [] behind_most)) (sym is) refl);
  final = inl tt;
  ending_is = refl;
  whole = joined past.gone due text texts s.whole ∙ sym (append-nil (texts ++ text));
}
stands_served past held (suc (suc left)) texts due text c len s gives false is =
    let apart : (suc (suc left) == 1) ≡ false = grind (arith, nat_tests) in
    subst (λ (b : Bool). Stands (with_calls (c ∷ []) past) (drop len held) (suc (suc left) - 1) (texts ++ text) (past.gone ++ (due ++ text)) (if b then Some ends.Limit else None)) (sym apart) (record {
      begun = subst (λ (rs : List RequestValue). BeginsWith past.came rs (drop len held)) (sym (map-append (λ (k : Call). k.request) past.calls (c ∷ []))) (begun_next past.came (requests_of past.calls) held c.request len s.begun gives is);
      count = omega (arith, s.count, length-append past.calls (c ∷ []));
      some = omega arith;
      whole = joined past.gone due text texts s.whole;
    })

-- what an open connection stands for
stands_open : (past : Past) (dialog : DialogValue) (texts : List ℕ) → dialog.ending ≡ None → Stands past dialog.held dialog.left texts (past.gone ++ dialog.due) dialog.ending
    → IsOpen past dialog.held dialog.left texts (past.gone ++ dialog.due)
stands_open past dialog texts is s = subst (λ (e : Option DialogEnd). Stands past dialog.held dialog.left texts (past.gone ++ dialog.due) e) is s

-- a request was answered
pub served : (number : ℕ) (old new : DialogValue) (s t : Told) (r : RequestValue) (len : ℕ) → old.ending ≡ None → Gives old.held (Ok (Some (r, len)))
    → ((reply : ReplyValue) × (text : List ℕ) × AddsCall s t number r reply × IsPrinted (r.last || old.left == 1) reply text × (new.due ≡ old.due ++ text))
    → new.held ≡ drop len old.held → new.left ≡ old.left - 1 → new.ending ≡ ending_after r.last old.left → Steps number old new s t
served number old new s t r len is gives a held left ending =
    let c = call_of number r a.0 in
    let own = All-cons (IsOf number) c [] refl (All-nil (IsOf number)) in
    record {
      calls = c ∷ [];
      told = a.2;
      numbers = own;
      goes = λ past h.
          let o = stands_open past old h.texts is h.stands in
          record {
            numbers = All-append (IsOf number) past.calls (c ∷ []) h.numbers own;
            texts = h.texts ++ a.1;
            answered = answered_more 1000 past.calls h.texts c a.1 old.left o.count h.answered a.3;
            stands = rw (held, left, a.4, ending) (stands_served past old.held old.left h.texts old.due a.1 c len o gives r.last refl);
          };
    }

-- bytes that hold no request were refused
pub refused : (number : ℕ) (old new : DialogValue) (s : Told) (fault : HttpFault) → old.ending ≡ None → Gives old.held (Err fault)
    → new.due ≡ old.due ++ reply_text (fault_reply fault) → new.ending ≡ Some ends.Refused → Steps number old new s s
refused number old new s fault is gives due ending = record {
  calls = [];
  told = calls_none s;
  numbers = All-nil (IsOf number);
  goes = λ past h.
      let o = stands_open past old h.texts is h.stands in
      no_calls number past new (record {
        numbers = h.numbers;
        texts = h.texts;
        answered = h.answered;
        stands = rw (due, ending) (record {
          stop = at_fault fault;
          requests = ends_so past.came past.calls old.held old.left (at_fault fault) o.begun o.count o.some gives;
          final = inl tt;
          ending_is = refl;
          whole = joined past.gone old.due (reply_text (fault_reply fault)) h.texts o.whole;
        });
      });
}

-- ---- steps that change nothing

-- a connection that holds the same is the same
pub same_dialog : (old new : DialogValue) → new.held ≡ old.held → new.left ≡ old.left → new.due ≡ old.due → new.ending ≡ old.ending → new ≡ old
same_dialog old new held left due ending =
    let one : List ℕ → DialogValue = λ h. record { held = h; left = new.left; due = new.due; ending = new.ending } in
    let two : ℕ → DialogValue = λ n. record { held = old.held; left = n; due = new.due; ending = new.ending } in
    let three : List ℕ → DialogValue = λ d. record { held = old.held; left = old.left; due = d; ending = new.ending } in
    let four : Option DialogEnd → DialogValue = λ e. record { held = old.held; left = old.left; due = old.due; ending = e } in
    ap one held ∙ ap two left ∙ ap three due ∙ ap four ending

pub stays_by : (number : ℕ) (old new : DialogValue) (s : Told) → new.held ≡ old.held → new.left ≡ old.left → new.due ≡ old.due → new.ending ≡ old.ending → Steps number old new s s
stays_by number old new s held left due ending =
    subst (λ (d : DialogValue). Steps number old d s s) (sym (same_dialog old new held left due ending)) (stays number old s)

-- ---- how much further a connection can go

-- there is less room behind a request, whatever is due then
less_served : (last : Bool) (left held rest due : ℕ) → 0 < left → held ≤ 8404992
    → reach_of (ending_after last left) (left - 1) rest + min 1 due < reach_of None left held
less_served true left held rest due some short = omega arith
less_served false left held rest due some short = by_count (left == 1) refl
  where
    by_count : (b : Bool) → (left == 1) ≡ b → reach_of (if b then Some ends.Limit else None) (left - 1) rest + min 1 due < reach_of None left held
    by_count true e = omega arith
    by_count false e = let some_more : 1 < left = grind (arith, nat_tests) in omega arith

pub served_room : (old new : DialogValue) (last : Bool) → old.ending ≡ None → 0 < old.left → length old.held ≤ 8404992 → new.left ≡ old.left - 1 → new.ending ≡ ending_after last old.left
    → room new < room old
served_room old new last is some short left ending =
    let less = less_served last old.left (length old.held) (length new.held) (length new.due) some short in
    rw (is, left, ending) (omega (arith, less))

more_by : (r n : ℕ) → 0 < n → r < r + min 1 n
more_by r n some = omega arith

some_long : (due : List ℕ) → due ≢ [] → 0 < length due
some_long [] ne = absurd (ne refl)
some_long (b ∷ due) ne = omega arith

-- bytes that are due count as a step
pub room_due : (dialog : DialogValue) → dialog.due ≢ [] → reach dialog < room dialog
room_due dialog ne = more_by (reach dialog) (length dialog.due) (some_long dialog.due ne)

-- an open connection can go on
pub room_open : (dialog : DialogValue) → dialog.ending ≡ None → 0 < room dialog
room_open dialog is = rw is (omega arith)
