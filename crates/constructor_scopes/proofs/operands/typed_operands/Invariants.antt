use Rattle.std.proofs.Common.{◌≡◌, map, take}
use Rattle.tree_meaning.specs.Scopes.{declared_in}
use Rattle.constructor_scopes.specs.Bodies.{typed_operands}
use Rattle.constructor_scopes.proofs.operands.typed_operands.Given as goal

abbrev pub invariant-loop-number : goal.invariant-loop-number
invariant-loop-number l = map (λ n. (n.0.now, n.1)) l.found.items ≡ typed_operands (declared_in l.scope) (take l.number l.operands)
