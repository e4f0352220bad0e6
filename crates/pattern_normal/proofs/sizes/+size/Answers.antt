use Rattle.std.proofs.Common.{◌≡◌, ◌+◌, ◌<◌, max, true, [], get_or, take, sum_by, sym, ap, ◌∙◌, arith}
use Rattle.std.proofs.Math.Nat.{min_comm}
use Rattle.std.proofs.lemmas.Option.{slice_get_past}
use Rattle.std.specs.Option.{option_map_or}
use Rattle.sled_model.specs.declared.pattern.Pattern.TheVariants.{Both, Either, Chain, Label, Loose}
use Rattle.sled_model.specs.Measures.{capped, each_from, sized, kind_size, operand_size, type_size, number_size, size}
use Rattle.sled_model.specs.Results.{makes}
use Rattle.sled_model.proofs.MeasureLaws as law
use Rattle.pattern_normal.specs.Operands.{operand_sizes}
use Rattle.pattern_normal.proofs.Nodes.{nodes, body_nodes, nodes-Both, nodes-Either, nodes-Chain, nodes-Label, nodes-Loose}
use Rattle.pattern_normal.proofs.Measured.{size_more_made, size_more_other, given_past, found_at, greatest_capped, one_more, max_told}
use Rattle.pattern_normal.proofs.sizes.+size.Goals as goal

pub size_at-size_at-requires : goal.size_at-size_at-requires
size_at-size_at-requires t c =
    let smaller = ap nodes (c.in-Label.is ∙ ap (Label c.in-Label.field-0) (sym c.get.ensures)) ∙ nodes-Label c.in-Label.field-0 c.get.result.now in
    let m : body_nodes c.args.before.now + nodes c.get.result.now < t = omega (arith, smaller, c.decreases) in
    (m, c.requires)

pub size_at-size_at-requires-in-Loose : goal.size_at-size_at-requires-in-Loose
size_at-size_at-requires-in-Loose t c =
    let smaller = ap nodes (c.in-Loose.is ∙ ap Loose (sym c.get-in-Loose.ensures)) ∙ nodes-Loose c.get-in-Loose.result.now in
    let m : body_nodes c.args.before.now + nodes c.get-in-Loose.result.now < t = omega (arith, smaller, c.decreases) in
    (m, c.requires)

pub size_at-size_sum-requires : goal.size_at-size_sum-requires
size_at-size_sum-requires t c =
    let smaller = ap nodes (c.in-Both.is ∙ ap Both (sym c.as_slice.ensures)) ∙ nodes-Both c.as_slice.result.now in
    let m : body_nodes c.args.before.now + 1 + sum_by nodes c.as_slice.result.now < t = omega (arith, smaller, c.decreases) in
    (m, c.requires)

pub size_at-greatest_size-requires : goal.size_at-greatest_size-requires
size_at-greatest_size-requires t c =
    let smaller = ap nodes (c.in-Either.is ∙ ap Either (sym c.as_slice-in-Either.ensures)) ∙ nodes-Either c.as_slice-in-Either.result.now in
    let m : body_nodes c.args.before.now + 1 + sum_by nodes c.as_slice-in-Either.result.now < t = omega (arith, smaller, c.decreases) in
    (m, c.requires)

pub size_at-size_sum-requires-in-Chain : goal.size_at-size_sum-requires-in-Chain
size_at-size_sum-requires-in-Chain t c =
    let smaller = ap nodes (c.in-Chain.is ∙ ap Chain (sym c.as_slice-in-Chain.ensures)) ∙ nodes-Chain c.as_slice-in-Chain.result.now in
    let m : body_nodes c.args.before.now + 1 + sum_by nodes c.as_slice-in-Chain.result.now < t = omega (arith, smaller, c.decreases) in
    (m, c.requires)

pub size_at-returns-in-Label : goal.size_at-returns-in-Label
size_at-returns-in-Label t c = let f = operand_sizes c.args.given.now c.args.before.now c.args.kinds.now in
    let m = size [] f in
    c.capped_sum.ensures ∙ ap (λ n. capped (1 + n)) (c.size_at.ensures ∙ ap (λ p. capped (m p)) c.get.ensures) ∙ one_more (m c.in-Label.inner)
    ∙ ap capped (sym (law.size-Label [] f c.in-Label.field-0 c.in-Label.inner) ∙ ap m (sym c.in-Label.is))

pub operand_size-returns-in-Some : goal.operand_size-returns-in-Some
unfolding operand_sizes
operand_size-returns-in-Some t c =
    let kept = operand_size (each_from sized [] c.args.before.now) c.args.kinds.now c.args.operand in
    let e : c.in-Some.size.now ≡ get_or c.args.given.now c.args.operand kept = c.in-Some.ensures.lookup.3.1 kept in
    c.min.ensures ∙ min_comm c.in-Some.size.now 1000000 ∙ ap capped e

pub operand_size-returns-in-Some-get : goal.operand_size-returns-in-Some-get
unfolding operand_sizes
operand_size-returns-in-Some-get t c =
    let known = each_from sized [] c.args.before.now in let kinds = c.args.kinds.now in let k = c.args.operand in
    let looked = c.in-Some-get.ensures.lookup in
    c.kind_size.ensures ∙ ap capped (sym (given_past c.args.given.now k (operand_size known kinds k) c.in-None.ensures.lookup.3
    ∙ ap (λ o. option_map_or (kind_size known) o 0) (found_at kinds k c.in-Some-get.kind.now looked.3.0 looked.1)))

pub operand_size-returns-in-None-get : goal.operand_size-returns-in-None-get
unfolding operand_sizes
operand_size-returns-in-None-get t c =
    let known = each_from sized [] c.args.before.now in let kinds = c.args.kinds.now in let k = c.args.operand in
    ap capped (sym (given_past c.args.given.now k (operand_size known kinds k) c.in-None.ensures.lookup.3
    ∙ ap (λ o. option_map_or (kind_size known) o 0) (slice_get_past kinds k c.in-None-get.ensures.lookup.3)))

pub type_size-loop-k-preserved-then-not-makes : goal.type_size-loop-k-preserved-then-not-makes
type_size-loop-k-preserved-then-not-makes t c =
    c.loop-k.invariant ∙ ap capped (sym (size_more_other c.args.before.now c.loop-k.k c.index-before-k.result c.args.made
    c.loop-k-test.true c.index-before-k.is (sym c.if-not-makes.ensures)))

pub type_size-loop-k-preserved : goal.type_size-loop-k-preserved
type_size-loop-k-preserved t c =
    let known = each_from sized [] (take c.loop-k.k c.args.before.now) in
    let before = type_size known c.args.made in let here = (sized known c.index-before-k.result).size in
    let made : makes c.args.made c.index-before-k.result.result ≡ true = sym c.makes.ensures ∙ c.if-not-makes.false in
    c.max-all.ensures ∙ max_told c.loop-k.all c.constructor_size.result
    ∙ ap (λ a. max a c.constructor_size.result) c.loop-k.invariant ∙ ap (λ b. max (capped before) b) c.constructor_size.ensures ∙ greatest_capped before here
    ∙ ap capped (sym (size_more_made c.args.before.now c.loop-k.k c.index-before-k.result c.args.made c.loop-k-test.true c.index-before-k.is made))

pub constructor_size-returns : goal.constructor_size-returns
unfolding operand_sizes
constructor_size-returns t c =
    let known = each_from sized [] c.args.before.now in let all = c.args.constructor.now.operands in
    let body : c.size_at-body.result ≡ capped (size known (operand_size known all) c.args.constructor.now.body) =
    c.size_at-body.ensures ∙ ap (λ kinds. capped (size [] (operand_size known kinds) c.args.constructor.now.body)) c.as_slice-kinds.ensures
    ∙ ap capped (law.size_unapplied [] known (operand_size known all) c.args.constructor.now.body c.requires.body) in
    let numbers : c.number_sizes.result ≡ capped (sum_by number_size all) = c.number_sizes.ensures ∙ ap (λ kinds. capped (sum_by number_size kinds)) c.as_slice-kinds.ensures in
    omega (arith, body, numbers, c.capped_sum.ensures, c.capped_sum-2.ensures)
