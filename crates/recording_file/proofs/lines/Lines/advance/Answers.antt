use Rattle.std.proofs.Common.{◌≡◌, ◌+◌, length, sym, ap, subst, arith}
use Rattle.recording_file.specs.Finding.{ReadPlace}
use Rattle.recording_file.specs.Feeds.{ShowFeeds}
use Rattle.recording_file.proofs.HeldLaws.{count_passed, shows_passed}
use Rattle.recording_file.proofs.lines.Lines.advance.Goals as goal

pub invariant_of-self : goal.invariant_of-self
invariant_of-self c =
    let old = c.self.invariant in
    let feeds = old.4 in
    let b = c.self.inside.window in
    let p = c.self.inside.passed in
    let n = c.min-count.result in
    let held : b ≡ c.args.self.now.bytes = ap (λ (a : ReadPlace). a.bytes) c.self.view_is in
    let size : length b ≡ length c.args.self.now.bytes = ap length held in
    let passed : p ≡ c.args.self.now.passed = ap (λ (a : ReadPlace). a.passed) c.self.view_is in (
      grind arith,
      omega arith,
      grind arith,
      λ still. count_passed b c.skip.new.self c.args.self.now.bytes n c.args.size held c.skip.ensures c.requires.ends (grind arith) (grind arith) _ c.self.inside.line (old.3 still),
      subst (λ l. ShowFeeds (p + n) l c.self.inside.feeds) (sym c.skip.ensures) (record {
        last = shows_passed 1 p n b _ feeds.last;
        second = shows_passed 2 p n b _ feeds.second;
        third = shows_passed 3 p n b _ feeds.third;
      }),
    )
