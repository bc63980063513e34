use Rattle.std.proofs.Common.{◌∙◌, ℕ, List, ◌++◌, IsTrue, ap, drop, length, rules, subst, sym}
use Rattle.std.specs.Str.{is_utf8}
use Rattle.kap_base.proofs.TextLaws.{both_are_text}
use Rattle.kap_base.proofs.short_text.ShortText.append.Goals as goal

pub invariant_of-self : goal.invariant_of-self
invariant_of-self c =
    let front = c.split_at_mut-rest.result.0.now in
    let tail = drop (length c.as_bytes.result.now) c.split_at_mut-rest.result.1.now in
    let there : IsTrue (is_utf8 front) = subst (λ (l : List ℕ). IsTrue (is_utf8 l)) (sym c.split_at_mut-rest.ensures.front) c.self.invariant.1 in (
      search rules,
      both_are_text front c.args.more.now tail c.copy_front.new.cells c.self.inside.len c.split_at_mut-rest.ensures.front_len
          (c.copy_front.ensures ∙ ap (λ (l : List ℕ). l ++ tail) c.as_bytes.ensures.value) there c.utf8.more,
    )
