use Rattle.std.proofs.Common.{◌≡◌, ◌≤◌, ◌+◌, ◌-◌, ◌++◌, ℕ, List, length, drop, ap, ◌∙◌, arith}
use Rattle.http_dialog.specs.Outputs.{OutputValue, tail_bytes}
use Rattle.http_dialog.proofs.OutputLaws.{went_second, tail_within}
use Rattle.http_dialog.proofs.output.Output.pass.Goals as goal

pub returns : goal.returns
returns c =
    let xs = c.self.inside.joined in
    let ys = tail_bytes c.self.inside.tail in
    let gone = c.self.inside.gone in
    let tail_gone = c.self.inside.tail_gone in
    let count = c.args.count in
    let due : drop gone xs ++ drop tail_gone ys ≡ c.args.self.now.due = ap (λ (o : OutputValue). o.due) c.self.view_is in
    let long = ap (λ (x : List ℕ). length x) due in
    let most : count ≤ length (drop gone xs ++ drop tail_gone ys) = omega (arith, c.requires) in
    let size = ap (λ (x : List ℕ). length x) c.bytes-len.ensures in
    let first = c.len.ensures in
    let all : length xs - gone ≤ count = let more = c.if-count-rest.false in omega arith in
    let fits = tail_within xs ys gone count tail_gone c.self.invariant.0 c.self.invariant.1 most all in
    let now : length c.bytes-len.result.now - (length c.bytes-len.result.now - tail_gone - (count - (c.len.result - gone))) ≡ tail_gone + (count - (length xs - gone)) = omega arith in
    ap (λ (n : ℕ). drop n xs ++ drop (length c.bytes-len.result.now - (length c.bytes-len.result.now - tail_gone - (count - (c.len.result - gone)))) ys) c.len-self-inside.ensures
    ∙ went_second xs ys gone count tail_gone (length c.bytes-len.result.now - (length c.bytes-len.result.now - tail_gone - (count - (c.len.result - gone)))) c.self.invariant.0 all now
    ∙ ap (λ (x : List ℕ). drop count x) due
