use Rattle.std.proofs.Common.{◌≡◌, map, take}
use Rattle.constructor_scopes.specs.Makings.{one_for_each}
use Rattle.constructor_scopes.specs.Views.{made_for}
use Rattle.constructor_scopes.proofs.members.one_for_each.Given as goal

abbrev pub invariant-loop-i : goal.invariant-loop-i
invariant-loop-i l = map made_for l.found.items ≡ one_for_each (take l.i (map (λ x. x.now) l.names)) (take l.i l.patterns)
