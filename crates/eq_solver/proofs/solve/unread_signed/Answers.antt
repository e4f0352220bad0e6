use Rattle.std.proofs.Common.{arith}
use Rattle.std.proofs.lemmas.Int.{ints}
use Rattle.eq_solver.proofs.Roots.{below_zero}
use Rattle.eq_solver.proofs.solve.unread_signed.Goals as goal

pub returns-then-read-lt0 : goal.returns-then-read-lt0
returns-then-read-lt0 c = below_zero c.args.half c.args.read _ (omega (arith, ints)) (omega (arith, ints)) (omega (arith, ints))
