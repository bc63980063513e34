use Rattle.std.proofs.Common.{◌≡◌, ◌++◌, ◌∷◌, take}
use Rattle.std.specs.List.{flat_map}
use Rattle.line_points.specs.Parts.{comma}
use Rattle.line_points.specs.Print.{field_text}
use Rattle.line_points.proofs.print.put_more_fields.Given as goal

abbrev pub invariant-fields : goal.invariant-fields
invariant-fields l = l.out ≡ l.fn.out ++ flat_map (λ g. comma ∷ field_text g) (take l.field-index l.fields)
