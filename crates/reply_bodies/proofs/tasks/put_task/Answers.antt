use Rattle.std.proofs.Common.{◌≡◌, ◌++◌, ◌∷◌, [], codes, rules}
use Rattle.std.proofs.lemmas.Result.{on_ok_weaker}
use Rattle.json.specs.Token.{begin_object, end_object, key, string}
use Rattle.reply_bodies.proofs.PutLaws.{three_puts, two_puts}
use Rattle.reply_bodies.proofs.tasks.put_task.Goals as goal

pub returns-clause-tokens : goal.returns-clause-tokens
returns-clause-tokens c =
    let begins : c.begin_object.new.self.tokens ≡ c.args.writer.now.tokens ++ begin_object ∷ [] = search rules in
    let id = key (codes "id") ∷ string c.args.id.now ∷ [] in
    let script = key (codes "script") ∷ string c.args.script.now ∷ [] in
    let rest = key (codes "status") ∷ string c.args.word.now ∷ key (codes "type") ∷ string (codes "stream") ∷ end_object ∷ [] in
    let named : c.put_text.new.writer.tokens ≡ c.begin_object.new.self.tokens ++ id = search rules in
    let scripted : c.put_text-2.new.writer.tokens ≡ c.put_text.new.writer.tokens ++ script = search rules in
    on_ok_weaker c.put_status.result (λ ends. two_puts c.args.writer.now.tokens c.begin_object.new.self.tokens c.put_status.new.writer.tokens
    (begin_object ∷ []) (id ++ (script ++ rest)) begins
    (three_puts c.begin_object.new.self.tokens c.put_text.new.writer.tokens c.put_text-2.new.writer.tokens c.put_status.new.writer.tokens id script rest
    named scripted ends))
    c.put_status.ensures.tokens
