use Rattle.std.proofs.Common.{◌≡◌, ◌++◌, ◌∷◌, [], codes, rules}
use Rattle.json.specs.Token.{end_object, key, string}
use Rattle.reply_bodies.proofs.PutLaws.{three_puts}
use Rattle.reply_bodies.proofs.tasks.put_status.Goals as goal

pub returns-clause-tokens : goal.returns-clause-tokens
returns-clause-tokens c =
    let ends : c.end_object.new.self.tokens ≡ c.put_text-2.new.writer.tokens ++ end_object ∷ [] = search rules in
    three_puts c.args.writer.now.tokens c.put_text.new.writer.tokens c.put_text-2.new.writer.tokens c.end_object.new.self.tokens
    (key (codes "status") ∷ string c.args.word.now ∷ []) (key (codes "type") ∷ string (codes "stream") ∷ []) (end_object ∷ [])
    c.in_ok-put_text.ensures.tokens c.in_ok-put_text-2.ensures.tokens ends
