use Rattle.std.proofs.Common.{subst, sym, pos, ◌+◌, ◌^◌, ◌∙◌, w64, FitsSigned, rules}
use Rattle.std.proofs.lemmas.Int.{to_z-of_z}
use Rattle.sled_model.specs.Equations.{IsBetween}
use Rattle.eq_solver.proofs.Halves.{half_between}
use Rattle.eq_solver.proofs.ranges.field_half.Goals as goal

pub returns-clause-within : goal.returns-clause-within
returns-clause-within c =
    let f : FitsSigned w64 c.half.result = search rules in
    subst (IsBetween (pos 1) (pos (2 ^ 31 + 1))) (sym (to_z-of_z w64 c.half.result f ∙ c.half.ensures)) (half_between c.args.tokens.now c.args.number c.requires.sound)
