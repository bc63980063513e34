use Rattle.std.proofs.Common.{◌≡◌, ◌≤◌, length, string_bytes, ◌-◌, ◌++◌}
use denote.Text.{Utf8}
use denote.Shadow.{shadow}
use Rattle.lambda_fns.proofs.ReplaceLaws.{with_places}
use Rattle.lambda_fns.proofs.replace.replace_matches.Given as goal

abbrev pub invariant-replacing : goal.invariant-replacing
invariant-replacing l = record {
  text : shadow (Utf8 l.rest);
  same : string_bytes l.made ++ with_places (l.fn.count - l.counter) l.fn.from l.fn.to l.rest ≡ with_places l.fn.count l.fn.from l.fn.to l.fn.text;
  short : length (string_bytes l.made) ≤ 65536;
}
