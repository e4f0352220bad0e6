use Rattle.std.proofs.Common.{◌∙◌, sym}
use Rattle.eq_solver.proofs.Halves.{half_shifted}
use Rattle.eq_solver.proofs.cells.half.Goals as goal

pub returns-in-Some : goal.returns-in-Some
returns-in-Some c = half_shifted c.args.tokens.now c.args.field c.in-Some.field c.requires (sym c.field.ensures ∙ c.in-Some.is)
