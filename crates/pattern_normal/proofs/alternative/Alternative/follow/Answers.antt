use Rattle.std.proofs.Common.{refl, arith}
use Rattle.pattern_normal.proofs.Rows.{apart_joined, both_from, joined_both, seen_joined}
use Rattle.pattern_normal.proofs.alternative.Alternative.follow.Goals as goal

pub returns-in_default-clause-joined : goal.returns-in_default-clause-joined
returns-in_default-clause-joined c = λ tokens w. apart_joined tokens w c.args.self.now c.args.other.now c.in_default.ensures.apart

pub returns-clause-joined : goal.returns-clause-joined
returns-clause-joined c = λ tokens w.
    let a = c.args.self.now in let b = c.args.other.now in
    joined_both tokens w a b (record { bits = c.in-Some.bits; loose = b.loose; spots = c.in_ok-both_spots.field-0 })
    (both_from tokens w a b (record { bits = c.in-Some.bits; loose = b.loose; spots = c.in_ok-both_spots.field-0 }) (c.in-Some.ensures.met w))
    (seen_joined tokens w a b c.in-Some.bits b.loose c.in_ok-both_spots.field-0 c.in_ok-both_spots.ensures (omega (arith, c.in-Some.ensures.len)) refl)
