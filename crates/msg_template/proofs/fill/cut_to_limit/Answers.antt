use Rattle.std.proofs.Common.{ℕ, List, length, ap, ◌∙◌, subst, IfOk}
use Rattle.std.proofs.lemmas.Result.{IfOk-weaker}
use Rattle.msg_template.specs.Filling.{IsCutTo}
use Rattle.msg_template.proofs.FillLaws.{cut_at_border}
use Rattle.msg_template.proofs.fill.cut_to_limit.Goals as goal

pub returns : goal.returns
returns c =
    subst (λ (whole : List ℕ). IfOk c.from_str.result (λ cut. IsCutTo 65536 whole cut)) c.as_str-text.ensures.value
    (IfOk-weaker c.from_str.result _ _
    (λ t e. cut_at_border 65536 c.floor_char_boundary.result c.as_str-text.result.now t c.as_str-text.utf8 (e ∙ c.split_at.ensures.front) (ap (λ (l : List ℕ). length l) e ∙ c.split_at.ensures.front_len) c.floor_char_boundary.ensures.bound c.floor_char_boundary.ensures.boundary c.floor_char_boundary.ensures.nearest)
    c.from_str.ensures.text)
