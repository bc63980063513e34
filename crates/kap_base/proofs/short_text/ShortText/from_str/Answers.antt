use Rattle.kap_base.proofs.TextLaws.{front_is_text}
use Rattle.kap_base.proofs.short_text.ShortText.from_str.Goals as goal

pub invariant_of-result : goal.invariant_of-result
invariant_of-result c = (c.requires, front_is_text c.args.text.now _ _ _ c.as_bytes.ensures.value c.copy_front.ensures c.utf8.text)
