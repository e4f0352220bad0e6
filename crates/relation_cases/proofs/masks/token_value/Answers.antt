use Rattle.std.proofs.Common.{◌+◌, ◌*◌, ◌^◌, ap, arith}
use Rattle.std.proofs.Math.Nat.{pow-le-pow_right}
use Rattle.relation_cases.proofs.FieldBits.{value_fits}
use Rattle.relation_cases.proofs.masks.token_value.Goals as goal

pub overflow_cast-result-2 : goal.overflow_cast-result-2
overflow_cast-result-2 c =
    let a = c.args in let h = value_fits a.field.lo a.field.hi a.block.free c.requires.order c.requires.block.free a.block.top c.requires.block.top in
    let same = ap (λ x. x * 2 ^ (a.field.lo + a.block.free)) c.from.ensures in
    omega (arith, pow-le-pow_right {n = 2} (omega arith) {i = a.field.hi + 1} {j = 32} (omega arith))
