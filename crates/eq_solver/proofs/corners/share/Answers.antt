use Rattle.std.proofs.Common.{◌≡◌, ◌+ℤ◌, ◌*ℤ◌, ◌∙◌, ap, to_z, of_z, w64, arith, rules, FitsSigned, get_or, pos}
use Rattle.std.proofs.lemmas.Int.{ints}
use Rattle.sled_model.specs.declared.constructor.Atom.TheVariants.{Name}
use Rattle.sled_model.specs.declared.constructor.Term.{Term}
use Rattle.eq_solver.proofs.Bounds.{bound_step, product_read}
use Rattle.eq_solver.proofs.Most.{share_step}
use Rattle.eq_solver.proofs.corners.share.Goals as goal

pub loop-term-preserved : goal.loop-term-preserved
loop-term-preserved c =
    let i = c.loop-term.invariant.bound in
    let e : to_z w64 (of_z w64 (to_z w64 c.loop-term.total-bits +ℤ to_z w64 (of_z w64 c.scaled-total.result))) ≡ to_z w64 c.loop-term.total-bits +ℤ c.scaled-total.result = omega (arith, ints) in
    let none : Term = record { coefficient = pos 0; atom = Name 0 } in
    let f : FitsSigned w64 (get_or c.args.terms.now c.loop-term.term-index none).coefficient = search rules in
    let g : FitsSigned w64 c.part.result = search rules in
    let at = (get_or c.args.terms.now c.loop-term.term-index none).atom in
    let p = c.part.ensures.is in
    let q = product_read _ _ _ g f c.scaled-total.ensures.is ∙ ap (λ z. (get_or c.args.terms.now c.loop-term.term-index none).coefficient *ℤ z) p in
    record { value = share_step (to_z w64 (of_z w64 c.args.half)) c.args.cell (to_z w64 (of_z w64 c.args.value)) c.args.terms.now c.loop-term.term-index none _ _ _ _ e c.loop-term-test.true c.loop-term.invariant.value q; bound = bound_step _ _ _ _ e i c.scaled-total.ensures.within }
