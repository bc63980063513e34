use Rattle.std.proofs.Common.{refl}
use Rattle.std.specs.Fmt.{digits}
use Rattle.kap_http.specs.Replies.{reply_text}
use Rattle.kap_http.proofs.reply.bad_text.Goals as goal

pub returns : goal.returns
unfolding reply_text digits
returns c = refl
