use Rattle.std.proofs.Common.{◌≡◌, map, take}
use Rattle.std.specs.List.{filter_map}
use Rattle.operand_meaning.specs.Terms as of
use Rattle.operand_meaning.proofs.terms.names_of.Given as goal

abbrev pub invariant-loop-term : goal.invariant-loop-term
invariant-loop-term l = map (λ x. x.now) l.names.items ≡ filter_map of.term_name (map (λ x. x.now) (take l.term-index l.terms))
