use Rattle.std.proofs.Common.{◌≡◌, true, take}
use Rattle.std.specs.List.{list_all}
use Rattle.tree_meaning.specs.Scopes.{declared_in}
use Rattle.arm_meaning.specs.Patterns.{is_known_in_arm}
use Rattle.arm_meaning.proofs.patterns.are_known_in_arm.Given as goal

abbrev pub invariant-loop-part : goal.invariant-loop-part
invariant-loop-part l = list_all (λ x. is_known_in_arm l.spec (declared_in l.scope) x.now) (take l.part-index l.parts) ≡ true
