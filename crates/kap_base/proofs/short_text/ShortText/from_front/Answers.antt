use Rattle.kap_base.specs.declared.short_text.TheConstants.{SHORT_LIMIT}
use Rattle.kap_base.proofs.TextLaws.{front_of_front_is_text}
use Rattle.kap_base.proofs.short_text.ShortText.from_front.Goals as goal

pub invariant_of-result : goal.invariant_of-result
invariant_of-result c = (c.requires.short, front_of_front_is_text c.args.line.now _ _ c.copy_from_slice.new.self c.args.len SHORT_LIMIT c.copy_from_slice.ensures.after c.split_at.ensures.front c.as_bytes.ensures.value c.requires.short c.utf8.line c.requires.boundary)
