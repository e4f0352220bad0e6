use Rattle.std.proofs.Common.{◌≡◌, ◌+◌, ◌<◌, map, take, sum_by, slice_get, Some, sym, ap, subst, ◌∙◌, arith}
use Rattle.std.proofs.lemmas.Option.{slice_get_within, get_or_from_slice_get}
use Rattle.sled_model.specs.declared.pattern.Pattern.TheVariants.{Both, Either, Chain, Label, Loose}
use Rattle.pattern_normal.proofs.Nodes.{nodes, body_nodes, nodes-Both, nodes-Either, nodes-Chain, nodes-Label, nodes-Loose, nodes_of_body}
use Rattle.pattern_normal.proofs.NoChoices.{barren_apply, operand_none, operand_kind, type_none_other, type_none_made, number_unknown, number_none}
use Rattle.std.proofs.lemmas.List.{take_all}
use Rattle.std.proofs.lemmas.Bool.{eqb-true}
use Rattle.sled_model.specs.Measures.{limit_weight, width_at}
use Rattle.sled_model.specs.Results.{results}
use Rattle.pattern_normal.specs.Surroundings.{around, context_of}
use Rattle.pattern_normal.specs.Barren.{HasNoResults, SomeHasNone, AllHaveNone}
use Rattle.pattern_normal.proofs.Barrenness.{some_at, all_more, barren_limit, barren_label, barren_loose, barren_both, barren_chain, barren_either}
use Rattle.pattern_normal.proofs.barren.+barren.Goals as goal

pub all_barren-returns : goal.all_barren-returns
all_barren-returns t c = λ e.
    subst (λ zs. AllHaveNone (map (results (context_of (around c.args.near.now))) zs)) (take_all c.loop-part.part-index c.args.parts.now (omega arith)) c.loop-part.invariant

pub all_barren-loop-part-preserved : goal.all_barren-loop-part-preserved
all_barren-loop-part-preserved t c =
    all_more (results (context_of (around c.args.near.now))) c.args.parts.now c.loop-part.part-index c.part-item.result (omega arith) c.part-item.is c.loop-part.invariant
    (c.is_barren.ensures c.if-not-is_barren.false)

pub any_barren-returns-then-is_barren : goal.any_barren-returns-then-is_barren
any_barren-returns-then-is_barren t c = λ e.
    some_at (results (context_of (around c.args.near.now))) c.args.parts.now c.loop-part.part-index c.part-item.result (omega arith) c.part-item.is (c.is_barren.ensures c.if-is_barren.true)

pub is_barren-returns-in-Limit : goal.is_barren-returns-in-Limit
is_barren-returns-in-Limit t c = λ e. let near = around c.args.near.now in
    let zero : limit_weight (width_at near.tokens c.in-Limit.field) c.in-Limit.relation c.in-Limit.value ≡ 0 =
    ap (λ w. limit_weight w c.in-Limit.relation c.in-Limit.value) (sym c.field_width.ensures.value) ∙ sym c.limit_weight.ensures.value ∙ eqb-true c.limit_weight.result 0 e in
    subst (λ p. HasNoResults (results (context_of near) p)) (sym c.in-Limit.is) (barren_limit near c.in-Limit.field c.in-Limit.relation c.in-Limit.value zero)

pub is_barren-returns-in-Label : goal.is_barren-returns-in-Label
is_barren-returns-in-Label t c = λ e. let near = around c.args.near.now in
    subst (λ p. HasNoResults (results (context_of near) p)) (sym c.in-Label.is)
    (barren_label near c.in-Label.field-0 c.in-Label.inner (subst (λ p. HasNoResults (results (context_of near) p)) c.get.ensures (c.is_barren.ensures e)))

pub is_barren-returns-in-Loose : goal.is_barren-returns-in-Loose
is_barren-returns-in-Loose t c = λ e. let near = around c.args.near.now in
    subst (λ p. HasNoResults (results (context_of near) p)) (sym c.in-Loose.is)
    (barren_loose near c.in-Loose.inner (subst (λ p. HasNoResults (results (context_of near) p)) c.get-in-Loose.ensures (c.is_barren-in-Loose.ensures e)))

pub is_barren-returns-in-Both : goal.is_barren-returns-in-Both
is_barren-returns-in-Both t c = λ e. let near = around c.args.near.now in
    subst (λ p. HasNoResults (results (context_of near) p)) (sym c.in-Both.is)
    (barren_both near c.in-Both.parts (subst (λ ps. SomeHasNone (map (results (context_of near)) ps)) c.as_slice.ensures (c.any_barren.ensures e)))

pub is_barren-returns-in-Either : goal.is_barren-returns-in-Either
is_barren-returns-in-Either t c = λ e. let near = around c.args.near.now in
    subst (λ p. HasNoResults (results (context_of near) p)) (sym c.in-Either.is)
    (barren_either near c.in-Either.parts (subst (λ ps. AllHaveNone (map (results (context_of near)) ps)) c.as_slice-in-Either.ensures (c.all_barren.ensures e)))

pub is_barren-returns-in-Chain : goal.is_barren-returns-in-Chain
is_barren-returns-in-Chain t c = λ e. let near = around c.args.near.now in
    subst (λ p. HasNoResults (results (context_of near) p)) (sym c.in-Chain.is)
    (barren_chain near c.in-Chain.parts (subst (λ ps. SomeHasNone (map (results (context_of near)) ps)) c.as_slice-in-Chain.ensures (c.any_barren-in-Chain.ensures e)))

pub is_barren-returns-in-Operand : goal.is_barren-returns-in-Operand
is_barren-returns-in-Operand t c = λ e. let near = around c.args.near.now in
    subst (λ p. HasNoResults (results (context_of near) p)) (sym c.in-Operand.is) (c.is_barren_operand.ensures e)

pub is_barren-returns-in-Apply : goal.is_barren-returns-in-Apply
is_barren-returns-in-Apply t c = λ e. let near = around c.args.near.now in
    subst (λ p. HasNoResults (results (context_of near) p)) (sym c.in-Apply.is)
    (barren_apply near c.in-Apply.constructor c.in-Apply._arguments (c.is_barren_number.ensures e))

-- ---- smaller patterns

pub is_barren-is_barren-requires : goal.is_barren-is_barren-requires
is_barren-is_barren-requires t c =
    let smaller = ap nodes (c.in-Label.is ∙ ap (Label c.in-Label.field-0) (sym c.get.ensures)) ∙ nodes-Label c.in-Label.field-0 c.get.result.now in
    let m : body_nodes c.args.near.now.constructors.now + nodes c.get.result.now < t = omega (arith, smaller, c.decreases) in
    (m, c.requires)

pub is_barren-is_barren-requires-in-Loose : goal.is_barren-is_barren-requires-in-Loose
is_barren-is_barren-requires-in-Loose t c =
    let smaller = ap nodes (c.in-Loose.is ∙ ap Loose (sym c.get-in-Loose.ensures)) ∙ nodes-Loose c.get-in-Loose.result.now in
    let m : body_nodes c.args.near.now.constructors.now + nodes c.get-in-Loose.result.now < t = omega (arith, smaller, c.decreases) in
    (m, c.requires)

pub is_barren-any_barren-requires : goal.is_barren-any_barren-requires
is_barren-any_barren-requires t c =
    let smaller = ap nodes (c.in-Both.is ∙ ap Both (sym c.as_slice.ensures)) ∙ nodes-Both c.as_slice.result.now in
    let m : body_nodes c.args.near.now.constructors.now + 1 + sum_by nodes c.as_slice.result.now < t = omega (arith, smaller, c.decreases) in
    (m, c.requires)

pub is_barren-all_barren-requires : goal.is_barren-all_barren-requires
is_barren-all_barren-requires t c =
    let smaller = ap nodes (c.in-Either.is ∙ ap Either (sym c.as_slice-in-Either.ensures)) ∙ nodes-Either c.as_slice-in-Either.result.now in
    let m : body_nodes c.args.near.now.constructors.now + 1 + sum_by nodes c.as_slice-in-Either.result.now < t = omega (arith, smaller, c.decreases) in
    (m, c.requires)

pub is_barren-any_barren-requires-in-Chain : goal.is_barren-any_barren-requires-in-Chain
is_barren-any_barren-requires-in-Chain t c =
    let smaller = ap nodes (c.in-Chain.is ∙ ap Chain (sym c.as_slice-in-Chain.ensures)) ∙ nodes-Chain c.as_slice-in-Chain.result.now in
    let m : body_nodes c.args.near.now.constructors.now + 1 + sum_by nodes c.as_slice-in-Chain.result.now < t = omega (arith, smaller, c.decreases) in
    (m, c.requires)

pub is_barren_number-is_barren_body-requires : goal.is_barren_number-is_barren_body-requires
is_barren_number-is_barren_body-requires t c =
    let cs = c.args.near.now.constructors.now in let k = c.args.number in let d = c.in-Some.constructor.now in
    let e : slice_get cs k ≡ Some d = sym c.in-Some.ensures in
    let n = nodes_of_body cs k d (slice_get_within cs k d e) (sym (get_or_from_slice_get cs k d d e)) in
    let m : body_nodes (take k cs) + 1 + nodes d.body < t = omega (arith, n, c.decreases) in
    (m, c.requires)

-- ---- operands and applications

pub is_barren_operand-returns-in-Some : goal.is_barren_operand-returns-in-Some
is_barren_operand-returns-in-Some t c = λ e. operand_kind (around c.args.near.now) c.args.k c.in-Some.kind.now (sym c.in-Some.ensures) (c.is_barren_kind.ensures e)

pub is_barren_operand-returns-in-None : goal.is_barren_operand-returns-in-None
is_barren_operand-returns-in-None t c = λ e. operand_none (around c.args.near.now) c.args.k (sym c.in-None.ensures)

pub is_barren_type-loop-k-preserved-then-not-makes : goal.is_barren_type-loop-k-preserved-then-not-makes
is_barren_type-loop-k-preserved-then-not-makes t c =
    let near = c.args.near.now in
    type_none_other near.tokens.now near.constructors.now c.loop-k.k c.constructor-item.result c.args.made c.loop-k-test.true c.constructor-item.is (sym c.if-not-makes.ensures) c.loop-k.invariant

pub is_barren_type-loop-k-preserved : goal.is_barren_type-loop-k-preserved
is_barren_type-loop-k-preserved t c =
    let near = c.args.near.now in
    type_none_made near.tokens.now near.constructors.now c.loop-k.k c.constructor-item.result c.args.made c.loop-k-test.true c.constructor-item.is (sym c.makes.ensures ∙ c.if-not-makes.false)
    c.loop-k.invariant (c.is_barren_body.ensures c.if-not-is_barren_body.false)

pub is_barren_number-returns-in-None : goal.is_barren_number-returns-in-None
is_barren_number-returns-in-None t c = λ e arguments. number_unknown (around c.args.near.now) c.args.number arguments (sym c.in-None.ensures)

pub is_barren_number-returns-in-Some : goal.is_barren_number-returns-in-Some
is_barren_number-returns-in-Some t c = λ e arguments. number_none (around c.args.near.now) c.args.number c.in-Some.constructor.now arguments (sym c.in-Some.ensures) (c.is_barren_body.ensures e)
