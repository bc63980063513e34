use Rattle.std.proofs.Common.{rules, ◌≡◌, ◌∷◌, [], List, subst, sym, ◌∙◌, arith}
use Rattle.std.specs.List.{All, sum_by}
use Rattle.std.proofs.lemmas.List.Elements.{All-head, All-push, All-tail}
use Rattle.std.proofs.lemmas.List.Sums.{sum_by-append}
use Rattle.topic_board.specs.Values.{IsNew, Looks}
use Rattle.kap_service.specs.Kept.{IsNewSeat}
use Rattle.kap_service.specs.Values.{Seats}
use Rattle.kap_service.proofs.shared.seats_of.Goals as goal

pub seats-preserved : goal.seats-preserved
seats-preserved g c =
    let i = c.seats.invariant in
    let items = sym c.in_ok-push.ensures.items in
    let rest = c.next.new.self.rest.items in
    let looks = subst (λ (xs : List Looks). All IsNew xs) c.in-Some.ensures.steps.0 i.looks in
    let look : IsNew c.in-Some.look = All-head IsNew c.in-Some.look rest looks in
    let seat = c.new-seat.result in
    let is_new : IsNewSeat seat = record {
      changes = c.new-seat.ensures.shares.0 ∙ c.split_off.ensures.amount;
      faults = c.new-seat.ensures.shares.1 ∙ c.split_off-in-seats.ensures.amount;
      answers = c.new-seat.ensures.none.0;
      status = c.new-seat.ensures.none.1;
      shown = c.new-seat.ensures.shown;
      known = c.new-seat.ensures.look.0 ∙ look.0;
      aways = c.new-seat.ensures.look.1 ∙ look.1;
    } in
    let told : seat.told ≡ c.args.told.now = c.new-seat.ensures.told ∙ c.again.ensures in
    record {
      count = search rules;
      looks = All-tail IsNew c.in-Some.look rest looks;
      first_parts = search rules;
      second_parts = search rules;
      first_amount = search rules;
      second_amount = search rules;
      new = subst (λ (xs : List Seats). All IsNewSeat xs) items (All-push IsNewSeat c.seats.seats.items seat i.new is_new);
      told = subst (λ (xs : List Seats). All (λ (s : Seats). s.told ≡ c.args.told.now) xs) items
          (All-push (λ (s : Seats). s.told ≡ c.args.told.now) c.seats.seats.items seat i.told told);
      changes = subst (λ (xs : List Seats). sum_by (λ (s : Seats). s.changes) xs ≡ 0) items
          (sum_by-append (λ (s : Seats). s.changes) c.seats.seats.items (seat ∷ [])
          ∙ (let a = i.changes in let b = is_new.changes in omega arith));
      faults = subst (λ (xs : List Seats). sum_by (λ (s : Seats). s.faults) xs ≡ 0) items
          (sum_by-append (λ (s : Seats). s.faults) c.seats.seats.items (seat ∷ [])
          ∙ (let a = i.faults in let b = is_new.faults in omega arith));
    }
