use Rattle.std.proofs.Common.{◌≡◌, map, take}
use Rattle.sled_elab.proofs.definition.copies.Given as goal

abbrev pub invariant-loop-member : goal.invariant-loop-member
invariant-loop-member l = l.copied ≡ map (λ m. m.1.now) (take l.member-index l.members)
