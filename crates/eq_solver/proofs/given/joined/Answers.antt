use Rattle.std.proofs.Common.{subst, sym, ◌∙◌, ap, Fits, FitsSigned, w64, to_z, pos, rules}
use Rattle.eq_solver.proofs.SlicesWritten.{joined_sum, joined_below, fits_32, signed_32, read_32}
use Rattle.eq_solver.proofs.given.joined.Goals as goal

pub overflow_add-result : goal.overflow_add-result
overflow_add-result c =
    subst (Fits w64) (sym (joined_sum c.args.high c.args.low c.args.width c.requires.width c.requires.high c.requires.low c.ranges.high c.ranges.low)) (fits_32 _ (joined_below c.args.high c.args.low c.args.width c.requires.width c.requires.high c.requires.low))

pub overflow_cast-result-4 : goal.overflow_cast-result-4
overflow_cast-result-4 c =
    subst (λ n. FitsSigned w64 (pos n)) (sym (joined_sum c.args.high c.args.low c.args.width c.requires.width c.requires.high c.requires.low c.ranges.high c.ranges.low))
    (signed_32 _ (joined_below c.args.high c.args.low c.args.width c.requires.width c.requires.high c.requires.low))

pub returns : goal.returns
returns c =
    ap (to_z w64) (joined_sum c.args.high c.args.low c.args.width c.requires.width c.requires.high c.requires.low c.ranges.high c.ranges.low)
    ∙ read_32 _ (joined_below c.args.high c.args.low c.args.width c.requires.width c.requires.high c.requires.low)
