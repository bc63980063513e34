use Rattle.std.proofs.Common.{◌≡◌, ◌++◌, drop, map}
use Rattle.tick_vars.specs.Nodes.{prop_tree}
use Rattle.tick_compile.specs.Typing.{setting_of}
use Rattle.tick_compile.proofs.untyped.untyped_props.Given as goal

abbrev pub invariant-copying : goal.invariant-copying
invariant-copying l = l.settings ++ map setting_of (map prop_tree (drop l.prop-index l.props)) ≡ map setting_of (map prop_tree l.props)
