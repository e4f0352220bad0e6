use Rattle.std.proofs.Common.{◌≡◌, ◌+◌, ◌<◌, true, [], get_or, take, sum_by, sym, ap, ◌∙◌, arith}
use Rattle.std.proofs.Math.Nat.{min_comm}
use Rattle.std.proofs.lemmas.Option.{slice_get_past}
use Rattle.std.specs.Option.{option_map_or}
use Rattle.sled_model.specs.declared.pattern.Pattern.TheVariants.{Both, Either, Chain, Label, Loose}
use Rattle.sled_model.specs.Measures.{capped, each_from, weighed, kind_weight, operand_weight, type_weight, weight}
use Rattle.sled_model.specs.Results.{makes}
use Rattle.sled_model.proofs.MeasureLaws as law
use Rattle.pattern_normal.specs.Operands.{operand_weights}
use Rattle.pattern_normal.proofs.Nodes.{nodes, body_nodes, nodes-Both, nodes-Either, nodes-Chain, nodes-Label, nodes-Loose}
use Rattle.pattern_normal.proofs.Measured.{weight_more_made, weight_more_other, given_past, found_at, sum_capped}
use Rattle.pattern_normal.proofs.weights.+weight.Goals as goal

pub weight_at-weight_at-requires : goal.weight_at-weight_at-requires
weight_at-weight_at-requires t c =
    let smaller = ap nodes (c.in-Label.is ∙ ap (Label c.in-Label.field-0) (sym c.get.ensures)) ∙ nodes-Label c.in-Label.field-0 c.get.result.now in
    let m : body_nodes c.args.before.now + nodes c.get.result.now < t = omega (arith, smaller, c.decreases) in
    (m, (c.requires.tokens, c.requires.plain))

pub weight_at-weight_at-requires-in-Loose : goal.weight_at-weight_at-requires-in-Loose
weight_at-weight_at-requires-in-Loose t c =
    let smaller = ap nodes (c.in-Loose.is ∙ ap Loose (sym c.get-in-Loose.ensures)) ∙ nodes-Loose c.get-in-Loose.result.now in
    let m : body_nodes c.args.before.now + nodes c.get-in-Loose.result.now < t = omega (arith, smaller, c.decreases) in
    (m, (c.requires.tokens, c.requires.plain))

pub weight_at-weight_product-requires : goal.weight_at-weight_product-requires
weight_at-weight_product-requires t c =
    let smaller = ap nodes (c.in-Both.is ∙ ap Both (sym c.as_slice.ensures)) ∙ nodes-Both c.as_slice.result.now in
    let m : body_nodes c.args.before.now + 1 + sum_by nodes c.as_slice.result.now < t = omega (arith, smaller, c.decreases) in
    (m, (c.requires.tokens, c.requires.plain))

pub weight_at-weight_sum-requires : goal.weight_at-weight_sum-requires
weight_at-weight_sum-requires t c =
    let smaller = ap nodes (c.in-Either.is ∙ ap Either (sym c.as_slice-in-Either.ensures)) ∙ nodes-Either c.as_slice-in-Either.result.now in
    let m : body_nodes c.args.before.now + 1 + sum_by nodes c.as_slice-in-Either.result.now < t = omega (arith, smaller, c.decreases) in
    (m, (c.requires.tokens, c.requires.plain))

pub weight_at-weight_product-requires-in-Chain : goal.weight_at-weight_product-requires-in-Chain
weight_at-weight_product-requires-in-Chain t c =
    let smaller = ap nodes (c.in-Chain.is ∙ ap Chain (sym c.as_slice-in-Chain.ensures)) ∙ nodes-Chain c.as_slice-in-Chain.result.now in
    let m : body_nodes c.args.before.now + 1 + sum_by nodes c.as_slice-in-Chain.result.now < t = omega (arith, smaller, c.decreases) in
    (m, (c.requires.tokens, c.requires.plain))

pub weight_at-returns-in-Label : goal.weight_at-returns-in-Label
weight_at-returns-in-Label t c = let f = operand_weights c.args.tokens.now c.args.given.now c.args.before.now c.args.kinds.now in
    let m = weight c.args.tokens.now [] f in
    c.weight_at.ensures ∙ ap (λ p. capped (m p)) c.get.ensures ∙ ap capped (sym (law.weight-Label c.args.tokens.now [] f c.in-Label.field-0 c.in-Label.inner) ∙ ap m (sym c.in-Label.is))

pub operand_weight-returns-in-Some : goal.operand_weight-returns-in-Some
unfolding operand_weights
operand_weight-returns-in-Some t c =
    let kept = operand_weight (each_from (weighed c.args.tokens.now) [] c.args.before.now) c.args.kinds.now c.args.operand in
    let e : c.in-Some.weight.now ≡ get_or c.args.given.now c.args.operand kept = c.in-Some.ensures.lookup.3.1 kept in
    c.min.ensures ∙ min_comm c.in-Some.weight.now 1000000 ∙ ap capped e

pub operand_weight-returns-in-Some-get : goal.operand_weight-returns-in-Some-get
unfolding operand_weights
operand_weight-returns-in-Some-get t c =
    let known = each_from (weighed c.args.tokens.now) [] c.args.before.now in let kinds = c.args.kinds.now in let k = c.args.operand in
    let looked = c.in-Some-get.ensures.lookup in
    c.kind_weight.ensures ∙ ap capped (sym (given_past c.args.given.now k (operand_weight known kinds k) c.in-None.ensures.lookup.3
    ∙ ap (λ o. option_map_or (kind_weight known) o 0) (found_at kinds k c.in-Some-get.kind.now looked.3.0 looked.1)))

pub operand_weight-returns-in-None-get : goal.operand_weight-returns-in-None-get
unfolding operand_weights
operand_weight-returns-in-None-get t c =
    let known = each_from (weighed c.args.tokens.now) [] c.args.before.now in let kinds = c.args.kinds.now in let k = c.args.operand in
    ap capped (sym (given_past c.args.given.now k (operand_weight known kinds k) c.in-None.ensures.lookup.3
    ∙ ap (λ o. option_map_or (kind_weight known) o 0) (slice_get_past kinds k c.in-None-get.ensures.lookup.3)))

pub type_weight-loop-k-preserved-then-not-makes : goal.type_weight-loop-k-preserved-then-not-makes
type_weight-loop-k-preserved-then-not-makes t c =
    c.loop-k.invariant ∙ ap capped (sym (weight_more_other c.args.tokens.now c.args.before.now c.loop-k.k c.index-before-k.result c.args.made
    c.loop-k-test.true c.index-before-k.is (sym c.if-not-makes.ensures)))

pub type_weight-loop-k-preserved : goal.type_weight-loop-k-preserved
type_weight-loop-k-preserved t c =
    let known = each_from (weighed c.args.tokens.now) [] (take c.loop-k.k c.args.before.now) in
    let before = type_weight known c.args.made in let here = (weighed c.args.tokens.now known c.index-before-k.result).weight in
    let made : makes c.args.made c.index-before-k.result.result ≡ true = sym c.makes.ensures ∙ c.if-not-makes.false in
    c.capped_sum-all.ensures ∙ ap (λ a. capped (a + c.constructor_weight.result)) c.loop-k.invariant ∙ ap (λ b. capped (capped before + b)) c.constructor_weight.ensures
    ∙ sum_capped before here
    ∙ ap capped (sym (weight_more_made c.args.tokens.now c.args.before.now c.loop-k.k c.index-before-k.result c.args.made c.loop-k-test.true c.index-before-k.is made))

pub constructor_weight-returns : goal.constructor_weight-returns
unfolding operand_weights
constructor_weight-returns t c = let known = each_from (weighed c.args.tokens.now) [] c.args.before.now in
    c.weight_at.ensures ∙ ap (λ kinds. capped (weight c.args.tokens.now [] (operand_weight known kinds) c.args.constructor.now.body)) c.as_slice.ensures
    ∙ ap capped (law.weight_unapplied c.args.tokens.now [] known (operand_weight known c.args.constructor.now.operands) c.args.constructor.now.body c.requires.body)
