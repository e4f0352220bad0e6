use Rattle.std.proofs.Common.{arith}
use Rattle.std.proofs.lemmas.Int.{ints}
use Rattle.eq_solver.proofs.Roots.{below_zero}
use Rattle.eq_solver.proofs.starts.unsigned.Goals as goal

pub returns-then-value-lt0 : goal.returns-then-value-lt0
returns-then-value-lt0 c = below_zero c.args.half c.args.value _ (omega (arith, ints)) (omega (arith, ints)) (omega (arith, ints))
