use Rattle.std.proofs.Common.{◌≡◌, w64, to_z, of_z, int_rem, int_div}
use Rattle.eq_solver.specs.Steps.{IsQuotient}
use Rattle.eq_solver.proofs.Quotients.{quotient_is, no_quotient, read_back}
use Rattle.eq_solver.proofs.solve.quotient.Goals as goal

pub returns-then-total-coefficient-ne0 : goal.returns-then-total-coefficient-ne0
returns-then-total-coefficient-ne0 c x e =
    read_back (λ a d. (of_z w64 (int_rem a d) ≡ 0 → ⊥) → ⊥) c.args.total c.args.coefficient c.ranges.total c.ranges.coefficient (λ h. no_quotient c.args.total c.args.coefficient x h e) c.if-total-coefficient-ne0.true

pub returns : goal.returns
returns c =
    read_back (λ a d. of_z w64 (int_rem a d) ≡ 0 → IsQuotient c.args.coefficient c.args.total (to_z w64 (of_z w64 (int_div a d)))) c.args.total c.args.coefficient c.ranges.total c.ranges.coefficient
    (quotient_is c.args.total c.args.coefficient c.requires.total c.requires.nonzero) c.if-total-coefficient-ne0.false
