use Rattle.std.proofs.Common.{◌≡◌, true, take}
use Rattle.std.specs.List.{list_all}
use Rattle.tree_meaning.specs.Parts as of
use Rattle.tree_meaning.specs.Scopes.{declared_in}
use Rattle.tree_meaning.proofs.checks.numbers_fit.Given as goal

abbrev pub invariant-loop-part : goal.invariant-loop-part
invariant-loop-part l = list_all (λ x. of.part_fits l.tokens (declared_in l.scope) x.now) (take l.part-index l.parts) ≡ true
