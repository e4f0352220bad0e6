use Rattle.std.proofs.Common.{◌≡◌, ◌++◌, map, take}
use Rattle.operand_meaning.proofs.terms.push_sum.Given as goal

abbrev pub invariant-loop-term : goal.invariant-loop-term
invariant-loop-term l = map (λ x. x.now) l.terms.items ≡ map (λ x. x.now) l.initial.terms.items ++ take l.term-index l.sum
