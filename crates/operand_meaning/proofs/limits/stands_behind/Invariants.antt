use Rattle.std.proofs.Common.{◌≡◌, map, drop}
use Rattle.std.specs.List.{list_any}
use Rattle.operand_meaning.specs.Limits as of
use Rattle.operand_meaning.proofs.limits.stands_behind.Given as goal

abbrev pub invariant-loop-i : goal.invariant-loop-i
invariant-loop-i l = list_any (of.same_atom l.term) (drop l.i (map (λ x. x.now) l.terms)) ≡ list_any (of.same_atom l.term) (drop l.at (map (λ x. x.now) l.terms))
