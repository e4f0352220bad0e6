use Rattle.std.proofs.Common.{◌≡◌, map, take}
use Rattle.constructor_scopes.proofs.members.member_names.Given as goal

abbrev pub invariant-loop-member : goal.invariant-loop-member
invariant-loop-member l = map (λ x. x.now) l.names.items ≡ map (λ m. m.name.now) (take l.member-index l.members)
