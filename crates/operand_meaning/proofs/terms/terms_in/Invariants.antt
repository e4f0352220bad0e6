use Rattle.std.proofs.Common.{◌≡◌, map, take}
use Rattle.std.specs.List.{flat_map}
use Rattle.operand_meaning.specs.Terms as of
use Rattle.operand_meaning.proofs.terms.terms_in.Given as goal

abbrev pub invariant-loop-equation : goal.invariant-loop-equation
invariant-loop-equation l = map (λ x. x.now) l.terms.items ≡ flat_map of.equation_terms (take l.equation-index l.equations)
