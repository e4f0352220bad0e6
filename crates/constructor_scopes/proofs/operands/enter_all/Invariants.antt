use Rattle.std.proofs.Common.{◌≡◌, map, take}
use Rattle.tree_meaning.specs.declared.scope.Meaning.TheVariants as meaning
use Rattle.tree_meaning.specs.Scopes.{declared_in}
use Rattle.constructor_scopes.proofs.operands.enter_all.Given as goal

abbrev pub invariant-loop-named : goal.invariant-loop-named
invariant-loop-named l = declared_in l.scope ≡ record (declared_in l.fn.scope) {
  local_names = map (λ n. n.0.now) (take l.named-index l.typed);
  local_meanings = map (λ n. meaning.Operand n.1) (take l.named-index l.typed);
}
