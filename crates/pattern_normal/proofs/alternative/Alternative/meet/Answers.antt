use Rattle.std.proofs.Common.{◌≡◌, ◌&&◌, sym, ap, ◌∙◌}
use Rattle.pattern_normal.proofs.Rows.{disagree, apart, both_from, met_both, seen_met}
use Rattle.pattern_normal.proofs.alternative.Alternative.meet.Goals as goal
use Rattle.pattern_normal.proofs.alternative.Alternative.meet.Goals.{then-self, else-self}

pub returns-then-not-agrees-clause-met : goal.returns-then-not-agrees-clause-met
returns-then-not-agrees-clause-met c = λ tokens w. disagree tokens w c.args.self.now c.args.other.now (sym (c.agrees.ensures tokens w) ∙ c.if-not-agrees.true)

pub returns-in_default-clause-met : goal.returns-in_default-clause-met
returns-in_default-clause-met c = λ tokens w. apart tokens w c.args.self.now c.args.other.now c.in_default.ensures.apart

pub returns-clause-met : goal.returns-clause-met
returns-clause-met c = λ tokens w.
    let a = c.args.self.now in let b = c.args.other.now in
    let loose : c.if-self.result ≡ (a.loose && b.loose) = elim c.if-self.branch
    [ then-self x ↦ x.result-is ∙ ap (λ t. t && b.loose) (sym x.if-self.true) | else-self x ↦ x.result-is ∙ x.if-self.false ∙ ap (λ t. t && b.loose) (sym x.if-self.false) ] in
    met_both tokens w a b (record { bits = c.in-Some.bits; loose = c.if-self.result; spots = c.in_ok-both_spots.field-0 })
    (both_from tokens w a b (record { bits = c.in-Some.bits; loose = c.if-self.result; spots = c.in_ok-both_spots.field-0 }) (c.in-Some.ensures.met w)) (sym (c.agrees.ensures tokens w) ∙ c.if-not-agrees.false)
    (seen_met tokens w a b c.in-Some.bits c.if-self.result c.in_ok-both_spots.field-0 c.in_ok-both_spots.ensures c.in-Some.ensures.len loose)
