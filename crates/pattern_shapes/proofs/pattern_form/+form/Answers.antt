use Rattle.std.proofs.Common.{◌≡◌, ◌+◌, true, [], ◌∷◌, ◌++◌, ◌&&◌, map, take, sym, ap, ◌∙◌, subst, arith}
use Rattle.std.specs.List.{list_all}
use Rattle.std.proofs.lemmas.List.{take_more}
use Rattle.std.proofs.lemmas.Result.{IfOk-weaker}
use Rattle.sled_model.specs.Shapes.{shapes, are_closed, are_one_shape}
use Rattle.pattern_shapes.specs.Forms.{operand_context, IsFormOf, IsFormOfBoth, IsFormOfAny, IsFormOfChain}
use Rattle.pattern_shapes.proofs.FormLemmas.{operand_form, both_next, any_next, chain_next, ended_next, closed_of_form, label_form_of, both_form_of, either_form_of, chain_form_of, loose_form_of}
use Rattle.pattern_shapes.proofs.pattern_form.+form.Goals as goal
use Rattle.pattern_shapes.proofs.pattern_form.+form.Goals.{chain_form-then-before, chain_form-else-before}

pub both_form-loop-part-preserved : goal.both_form-loop-part-preserved
both_form-loop-part-preserved t c =
    let cx = operand_context c.args.tokens.now c.args.operands.now in let i = c.loop-part.invariant in let q = c.part-item.result in
    let rest = c.in-Some.rest.now in let k = c.loop-part.part-index in let e = c.in_ok-form-2.ensures in
    let more : take (k + 1) rest ≡ take k rest ++ q ∷ [] = take_more rest k q (omega arith) ∙ ap (λ x. take k rest ++ x ∷ []) (sym c.part-item.is) in (
      i.0,
      i.1,
      subst (λ ps. IsFormOfBoth cx (i.0 ∷ ps) c.in_ok-form-2.form) (sym more)
          (both_next cx i.0 (take k rest) q c.loop-part.form c.in_ok-next.next c.in_ok-form-2.form i.2 c.in_ok-next.ensures e.shapes e.agree e.closed e.alike),
    )

pub either_form-loop-part-preserved : goal.either_form-loop-part-preserved
either_form-loop-part-preserved t c =
    let cx = operand_context c.args.tokens.now c.args.operands.now in let q = c.part-item.result in
    let parts = c.args.parts.now in let k = c.loop-part.part-index in let e = c.in_ok-form.ensures in
    let more : take (k + 1) parts ≡ take k parts ++ q ∷ [] = take_more parts k q (omega arith) ∙ ap (λ x. take k parts ++ x ∷ []) (sym c.part-item.is) in
    subst (λ ps. IsFormOfAny cx ps c.in_ok-form.form) (sym more)
    (any_next cx (take k parts) q c.loop-part.form c.in_ok-next.next c.in_ok-form.form c.loop-part.invariant c.in_ok-next.ensures e.shapes e.agree e.closed e.alike)

pub chain_form-loop-part-preserved : goal.chain_form-loop-part-preserved
chain_form-loop-part-preserved t c =
    let cx = operand_context c.args.tokens.now c.args.operands.now in let i = c.loop-part.invariant in let q = c.part-item.result in
    let rest = c.in-Some.rest.now in let k = c.loop-part.part-index in let e = c.in_ok-form-2.ensures in
    let before = c.loop-part.before in let last = are_closed c.in_ok-next.next.shapes in
    let more : take (k + 1) rest ≡ take k rest ++ q ∷ [] = take_more rest k q (omega arith) ∙ ap (λ x. take k rest ++ x ∷ []) (sym c.part-item.is) in
    let whole : c.if-before.whole ≡ (before && last) =
    elim c.if-before.branch [
      | chain_form-then-before w ↦ w.whole-is ∙ w.is_closed-whole.ensures.value ∙ ap (λ b. b && last) (sym w.if-before.true)
      | chain_form-else-before w ↦ cc (ap (λ b. b && last) w.if-before.false)
    ] in (
      i.0,
      i.1,
      subst (λ ps. IsFormOfChain cx (i.0 ∷ ps) c.in_ok-form-2.form) (sym more)
          (chain_next cx i.0 (take k rest) q c.loop-part.form c.in_ok-next.next c.in_ok-form-2.form before i.3 i.2 c.in_ok-next.ensures e.shapes e.agree e.closed e.alike),
      whole
          ∙ ended_next cx i.0 (take k rest) q before last i.3 (closed_of_form cx q c.in_ok-next.next c.in_ok-next.ensures)
          ∙ ap (λ ps. list_all are_closed (map (shapes cx) (i.0 ∷ ps))) (sym more),
    )

pub form_of-returns-in-Label : goal.form_of-returns-in-Label
form_of-returns-in-Label t c =
    let cx = operand_context c.args.tokens.now c.args.operands.now in let p = c.in-Label.inner in
    IfOk-weaker c.form_of.result (IsFormOf cx c.get.result.now) (IsFormOf cx c.args.pattern.now)
    (λ form h. subst (λ w. IsFormOf cx w form) (sym c.in-Label.is) (label_form_of cx c.in-Label.field-0 p form (subst (λ w. IsFormOf cx w form) c.get.ensures h)))
    c.form_of.ensures

pub form_of-returns-in-Both : goal.form_of-returns-in-Both
form_of-returns-in-Both t c =
    let cx = operand_context c.args.tokens.now c.args.operands.now in let ps = c.in-Both.parts in
    IfOk-weaker c.both_form.result (IsFormOfBoth cx c.as_slice.result.now) (IsFormOf cx c.args.pattern.now)
    (λ form h. subst (λ w. IsFormOf cx w form) (sym c.in-Both.is) (both_form_of cx ps form (subst (λ us. IsFormOfBoth cx us form) c.as_slice.ensures h)))
    c.both_form.ensures

pub form_of-returns-in-Chain : goal.form_of-returns-in-Chain
form_of-returns-in-Chain t c =
    let cx = operand_context c.args.tokens.now c.args.operands.now in let ps = c.in-Chain.parts in
    IfOk-weaker c.chain_form.result (IsFormOfChain cx c.as_slice-in-Chain.result.now) (IsFormOf cx c.args.pattern.now)
    (λ form h. subst (λ w. IsFormOf cx w form) (sym c.in-Chain.is) (chain_form_of cx ps form (subst (λ us. IsFormOfChain cx us form) c.as_slice-in-Chain.ensures h)))
    c.chain_form.ensures

pub form_of-returns-in_ok-form-in-Either : goal.form_of-returns-in_ok-form-in-Either
form_of-returns-in_ok-form-in-Either t c =
    let cx = operand_context c.args.tokens.now c.args.operands.now in let form = c.in_ok-form-in-Either.form in
    let any = subst (λ us. IsFormOfAny cx us form) c.as_slice-in-Either.ensures c.in_ok-form-in-Either.ensures in
    let whole = record form { alike = form.alike && are_one_shape form.shapes } in
    subst (IsFormOf cx c.args.pattern.now) (sym c.asked_alike.ensures)
    (subst (λ w. IsFormOf cx w whole) (sym c.in-Either.is) (either_form_of cx c.in-Either.parts form any))

pub form_of-returns-in_ok-loose-in-Loose : goal.form_of-returns-in_ok-loose-in-Loose
form_of-returns-in_ok-loose-in-Loose t c =
    let cx = operand_context c.args.tokens.now c.args.operands.now in let p = c.in-Loose.inner in let form = c.in_ok-form-in-Loose.form in let e = c.in_ok-loose-in-Loose.ensures in
    let inner = subst (λ w. IsFormOf cx w form) c.get-in-Loose.ensures c.in_ok-form-in-Loose.ensures in
    subst (λ w. IsFormOf cx w c.in_ok-loose-in-Loose.loose) (sym c.in-Loose.is)
    (loose_form_of cx p form c.in_ok-loose-in-Loose.loose inner e.shapes e.agree e.closed e.alike)

pub form_of-returns-in_ok-operand_shapes-in-Operand : goal.form_of-returns-in_ok-operand_shapes-in-Operand
form_of-returns-in_ok-operand_shapes-in-Operand t c =
    let cx = operand_context c.args.tokens.now c.args.operands.now in let found = c.in_ok-operand_shapes-in-Operand.field-0 in
    subst (IsFormOf cx c.args.pattern.now) (sym c.plain-in-Operand.ensures)
    (subst (λ w. IsFormOf cx w (record { shapes = found; agree = true; closed = true; alike = true })) (sym c.in-Operand.is)
    (operand_form cx c.in-Operand.k found c.in_ok-operand_shapes-in-Operand.ensures))
