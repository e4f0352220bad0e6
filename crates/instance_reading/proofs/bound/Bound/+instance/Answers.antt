use Rattle.std.proofs.Common.{◌≡◌, ◌≤◌, length, slice_get, rules, get_or, pos, FitsSigned, w64, subst, sym, ap, ◌∙◌}
use Rattle.std.proofs.lemmas.List.{take_all}
use Rattle.sled_model.specs.declared.constructor.Constructor.{Constructor}
use Rattle.instance_reading.specs.Bound.{entries_of}
use Rattle.instance_reading.specs.Operands.{AreNumbersOf, AreOperandsFrom}
use Rattle.instance_reading.proofs.Numbered.{able, apart, fields_are}
use Rattle.instance_reading.proofs.Operands.{operand_more, they_mean}
use Rattle.instance_reading.proofs.Bodies.{some_same}
use Rattle.eq_solver.specs.Sums.{at}
use Rattle.std.proofs.lemmas.Int.{to_z-of_z}
use Rattle.instance_reading.proofs.bound.Bound.+instance.Goals as goal

pub operands-loop-operand-preserved : goal.operands-loop-operand-preserved
operands-loop-operand-preserved t c = λ d s.
    let b = c.args.self.now in let i = c.loop-operand.operand in let held = c.as_slice-kinds.result.now in let numbers = c.as_slice-numbers.result.now in
    let same : c.declared.result.now ≡ d = some_same (slice_get b.place.spec.now.constructors b.constructor.0) c.declared.result.now d c.declared.ensures s in
    let kinds : held ≡ d.operands = c.as_slice-kinds.ensures ∙ ap (λ (d : Constructor). d.operands) same in
    let fits : FitsSigned w64 (get_or numbers i (pos 0)) = search rules in
    operand_more b.place.spec.now b.place.location d (entries_of b) numbers i held _ c.loop-operand.operands c.push.new.self c.in_ok-read.read _ kinds c.loop-operand-test.true (c.loop-operand.invariant d s)
    (c.in_ok-read.ensures d s) (to_z-of_z w64 (at numbers i) fits) c.in_ok-push.ensures.ok

pub operands-returns : goal.operands-returns
operands-returns t c =
    let b = c.args.self.now in let r = c.requires.result in let d = c.declared.result.now in let s = c.declared.ensures in
    let numbers = c.as_slice-numbers.result.now in let os = c.loop-operand.operands in let i = c.loop-operand.operand in
    let given = subst (AreNumbersOf b.place.spec.now.tokens d b.place.location (entries_of b)) (sym c.as_slice-numbers.ensures) (c.in_ok-numbers.ensures d s) in
    let past : length d.operands ≤ i = subst (λ kinds. length kinds ≤ i) c.as_slice-kinds.ensures c.loop-operand-test.false in
    they_mean b.place.spec.now b.place.location d (entries_of b) numbers
    (able b.place.spec.now c.requires.readable b.constructor (entries_of b) r d s) (apart b.place.spec.now c.requires.readable b.constructor (entries_of b) r d s) (fields_are b.place.spec.now c.requires.readable b.constructor (entries_of b) r d s)
    given b.constructor os s
    (subst (λ kinds. AreOperandsFrom b.place.spec.now b.place.location d (entries_of b) numbers 0 kinds os) (take_all i d.operands past) (c.loop-operand.invariant d s))
