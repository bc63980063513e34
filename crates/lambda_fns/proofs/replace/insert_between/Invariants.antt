use Rattle.std.proofs.Common.{◌≡◌, ◌≤◌, length, string_bytes, ◌++◌}
use Rattle.std.specs.Str.{chars, IsUtf8}
use Rattle.lambda_fns.proofs.ReplaceLaws.{between}
use Rattle.lambda_fns.proofs.replace.insert_between.Given as goal

abbrev pub invariant-inserting : goal.invariant-inserting
invariant-inserting l = record {
  text : IsUtf8 l.character-iterator.rest.now;
  same : string_bytes l.made ++ between l.left l.fn.to (chars l.character-iterator.rest.now) ≡ between l.fn.count l.fn.to (chars l.fn.text);
  short : length (string_bytes l.made) ≤ 65536;
}
