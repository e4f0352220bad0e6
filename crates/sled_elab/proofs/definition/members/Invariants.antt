use Rattle.std.proofs.Common.{◌≡◌, map, take}
use Rattle.sled_elab.specs.Declarations.{members}
use Rattle.sled_elab.proofs.definition.members.Given as goal

abbrev pub invariant-loop-i : goal.invariant-loop-i
invariant-loop-i l = map (λ m. (m.0.now, m.1.now)) l.found.items ≡ members (take l.i l.items) (take l.i l.patterns)
