use Rattle.std.proofs.Common.{◌≡◌, ◌+◌, ◌*◌, ◌<◌, ◌≤◌, ◌^◌, ◌++◌, [], List, true, Some, slice_get, take, length, max, map, filter, sum, sum_by, sym, ap, subst, ◌∙◌, arith}
use Rattle.std.proofs.lemmas.Result.{IfOk-weaker}
use Rattle.std.proofs.lemmas.List.{length-take-le}
use Rattle.std.proofs.lemmas.Option.{slice_get_within, get_or_from_slice_get}
use Rattle.sled_model.specs.declared.pattern.Pattern.TheVariants.{Both, Either, Chain, Label, Loose}
use Rattle.sled_model.specs.Admitted.{applied}
use Rattle.sled_model.specs.Measures.{product, application_weight, application_len}
use Rattle.sled_model.specs.Results.{both, either, chain, makes}
use Rattle.pattern_normal.specs.declared.alternative.Alternative.{Alternative}
use Rattle.pattern_normal.specs.Alternatives.{StandFor, StandForPattern, choice_alternative, is_admitted, ArePairs, AreFollowed, label_alternative, loose_alternative}
use Rattle.pattern_normal.proofs.Standing.{StandsAfter, stand_both, stand_either, stand_chain, next_after, all_after, product_folded, sum_folded}
use Rattle.pattern_normal.specs.Surroundings.{around, known_of, open_weights, lens_of}
use Rattle.pattern_normal.proofs.Nodes.{nodes, body_nodes, nodes-Both, nodes-Either, nodes-Chain, nodes-Label, nodes-Loose, nodes_of_body}
use Rattle.pattern_normal.proofs.Choosing.{of_apply, of_operand, applied_none, applied_some, StandForType, type_other, type_made}
use Rattle.pattern_normal.proofs.Barrenness.{none_of_both, none_of_chain}
use Rattle.pattern_normal.proofs.Pairs.{followed_more}
use Rattle.pattern_normal.proofs.Patterns.{of_both, of_either, of_chain, of_label, of_loose}
use Rattle.pattern_normal.proofs.expand.+expand.Goals as goal

pub expand-returns-in_ok-alternatives-in-Label : goal.expand-returns-in_ok-alternatives-in-Label
expand-returns-in_ok-alternatives-in-Label t c =
    let a = c.args in let cs = c.in_ok-alternatives-in-Label.alternatives in
    IfOk-weaker c.labelled.result _ (StandForPattern (around a.near.now) a.pattern.now a.at)
    (λ ds is. of_label (around a.near.now) a.at a.pattern.now c.in-Label.inner c.get.result.now cs ds c.in-Label.label c.in-Label.is c.get.ensures
    (is ∙ ap (map (label_alternative c.in-Label.label a.at)) c.as_slice.ensures) c.in_ok-alternatives-in-Label.ensures) c.labelled.ensures

pub expand-returns-in_ok-alternatives-in-Loose : goal.expand-returns-in_ok-alternatives-in-Loose
expand-returns-in_ok-alternatives-in-Loose t c =
    let a = c.args in let cs = c.in_ok-alternatives-in-Loose.alternatives in
    IfOk-weaker c.loosened.result _ (StandForPattern (around a.near.now) a.pattern.now a.at)
    (λ ds is. of_loose (around a.near.now) a.at a.pattern.now c.in-Loose.inner c.get-in-Loose.result.now cs ds c.in-Loose.is c.get-in-Loose.ensures
    (is ∙ ap (map loose_alternative) c.as_slice-in-Loose.ensures) c.in_ok-alternatives-in-Loose.ensures) c.loosened.ensures

pub expand-returns-in-Both : goal.expand-returns-in-Both
expand-returns-in-Both t c = let a = c.args in
    IfOk-weaker c.expand_both.result _ (StandForPattern (around a.near.now) a.pattern.now a.at)
    (λ cs s. of_both (around a.near.now) a.at a.pattern.now c.in-Both.parts c.as_slice-in-Both.result.now cs c.in-Both.is c.as_slice-in-Both.ensures s) c.expand_both.ensures

pub expand-returns-in-Either : goal.expand-returns-in-Either
expand-returns-in-Either t c = let a = c.args in
    IfOk-weaker c.expand_either.result _ (StandForPattern (around a.near.now) a.pattern.now a.at)
    (λ cs s. of_either (around a.near.now) a.at a.pattern.now c.in-Either.parts c.as_slice-in-Either.result.now cs c.in-Either.is c.as_slice-in-Either.ensures s) c.expand_either.ensures

pub expand-returns-in-Chain : goal.expand-returns-in-Chain
expand-returns-in-Chain t c = let a = c.args in
    IfOk-weaker c.expand_chain.result _ (StandForPattern (around a.near.now) a.pattern.now a.at)
    (λ cs s. of_chain (around a.near.now) a.at a.pattern.now c.in-Chain.parts c.as_slice-in-Chain.result.now cs c.in-Chain.is c.as_slice-in-Chain.ensures s) c.expand_chain.ensures

pub expand_both-loop-part-preserved : goal.expand_both-loop-part-preserved
expand_both-loop-part-preserved t c =
    let a = c.args in let fs = c.loop-part.alternatives in let ss = c.in_ok-seconds.seconds in let cs = c.in_ok-alternatives-2.alternatives in
    let pairs : ArePairs fs ss cs = subst (λ zs. ArePairs zs ss cs) c.as_slice.ensures (subst (λ zs. ArePairs c.as_slice.result.now zs cs) c.as_slice-in-loop-part.ensures c.in_ok-alternatives-2.ensures) in
    next_after (around a.near.now) both (λ m n. m * n) max a.at a.parts.now c.in-Some.rest.now c.loop-part.part-index c.part-item.result fs cs (omega arith) c.part-item.is c.loop-part.invariant
    (stand_both a.near.now.tokens.now a.at _ _ _ _ _ _ fs ss c.loop-part.invariant.stands c.in_ok-seconds.ensures cs pairs)

pub expand_chain-loop-part-preserved : goal.expand_chain-loop-part-preserved
expand_chain-loop-part-preserved t c =
    let a = c.args in let fs = c.loop-part.alternatives in let cs = c.in_ok-alternatives-2.alternatives in
    let pairs : AreFollowed (around a.near.now) c.part-item.result fs cs = subst (λ zs. AreFollowed (around a.near.now) c.part-item.result zs cs) c.as_slice.ensures c.in_ok-alternatives-2.ensures in
    next_after (around a.near.now) chain (λ m n. m * n) (λ m n. m + n) a.at a.parts.now c.in-Some.rest.now c.loop-part.part-index c.part-item.result fs cs (omega arith) c.part-item.is c.loop-part.invariant
    (stand_chain (around a.near.now) a.at _ _ _ fs c.loop-part.invariant.stands c.part-item.result cs pairs)

pub expand_chain-returns : goal.expand_chain-returns
expand_chain-returns t c =
    let a = c.args in
    all_after (around a.near.now) chain (λ m n. m * n) (λ m n. m + n) a.at a.parts.now c.in-Some.rest.now c.loop-part.part-index c.loop-part.alternatives (omega arith) product sum product_folded sum_folded c.loop-part.invariant

pub expand_either-loop-part-preserved : goal.expand_either-loop-part-preserved
expand_either-loop-part-preserved t c =
    let a = c.args in let fs = c.loop-part.alternatives in let ss = c.in_ok-expand.field-0 in
    subst (λ zs. StandsAfter (around a.near.now) either (λ m n. m + n) max a.at a.parts.now c.in-Some.rest.now (c.loop-part.part-index + 1) zs) (sym c.in_ok-append.ensures)
    (next_after (around a.near.now) either (λ m n. m + n) max a.at a.parts.now c.in-Some.rest.now c.loop-part.part-index c.part-item.result fs (fs ++ ss) (omega arith) c.part-item.is c.loop-part.invariant
    (stand_either a.near.now.tokens.now a.at _ _ _ _ _ _ fs ss c.loop-part.invariant.stands c.in_ok-expand.ensures))

pub follow_all-loop-first-preserved : goal.follow_all-loop-first-preserved
follow_all-loop-first-preserved t c =
    let a = c.args in let item = c.first-item.result in
    let stands : StandForPattern (around a.near.now) a.part.now item.bits.len c.as_slice.result.now = subst (λ zs. StandForPattern (around a.near.now) a.part.now item.bits.len zs) (sym c.as_slice.ensures) c.in_ok-seconds.ensures in
    followed_more a.firsts.now c.loop-first.first-index item (omega arith) c.first-item.is (around a.near.now) a.part.now c.as_slice.result.now c.loop-first.pairs c.push_following.new.pairs
    c.loop-first.invariant stands c.in_ok-push_following.ensures.shown c.in_ok-push_following.ensures.ends c.in_ok-push_following.ensures.count

pub expand_both-returns-then-any_barren : goal.expand_both-returns-then-any_barren
expand_both-returns-then-any_barren t c =
    let a = c.args in rw c.new.ensures (none_of_both (around a.near.now) a.parts.now _ _ a.at (c.any_barren.ensures c.if-any_barren.true))

pub expand_chain-returns-then-any_barren : goal.expand_chain-returns-then-any_barren
expand_chain-returns-then-any_barren t c =
    let a = c.args in rw c.new.ensures (none_of_chain (around a.near.now) a.parts.now _ _ a.at (c.any_barren.ensures c.if-any_barren.true))

pub expand-returns-in-Operand : goal.expand-returns-in-Operand
expand-returns-in-Operand t c = let a = c.args in
    IfOk-weaker c.expand_operand.result _ (StandForPattern (around a.near.now) a.pattern.now a.at)
    (λ cs s. of_operand (around a.near.now) a.at a.pattern.now c.in-Operand.k cs c.in-Operand.is s) c.expand_operand.ensures

pub expand-returns-in-Apply : goal.expand-returns-in-Apply
expand-returns-in-Apply t c = let a = c.args in
    IfOk-weaker c.expand_application.result _ (StandForPattern (around a.near.now) a.pattern.now a.at)
    (λ cs s. of_apply (around a.near.now) a.at a.pattern.now c.in-Apply.constructor c.in-Apply.arguments c.as_slice-in-Apply.result.now cs c.in-Apply.is c.as_slice-in-Apply.ensures s) c.expand_application.ensures

-- ---- smaller patterns

pub expand-expand-requires : goal.expand-expand-requires
expand-expand-requires t c =
    let smaller = ap nodes (c.in-Label.is ∙ ap (Label c.in-Label.label) (sym c.get.ensures)) ∙ nodes-Label c.in-Label.label c.get.result.now in
    let m : body_nodes c.args.near.now.constructors.now + nodes c.get.result.now < t = omega (arith, smaller, c.decreases) in
    (m, (c.requires.tokens, (c.requires.few, c.requires.at)))

pub expand-expand-requires-in-Loose : goal.expand-expand-requires-in-Loose
expand-expand-requires-in-Loose t c =
    let smaller = ap nodes (c.in-Loose.is ∙ ap Loose (sym c.get-in-Loose.ensures)) ∙ nodes-Loose c.get-in-Loose.result.now in
    let m : body_nodes c.args.near.now.constructors.now + nodes c.get-in-Loose.result.now < t = omega (arith, smaller, c.decreases) in
    (m, (c.requires.tokens, (c.requires.few, c.requires.at)))

pub expand-expand_both-requires : goal.expand-expand_both-requires
expand-expand_both-requires t c =
    let smaller = ap nodes (c.in-Both.is ∙ ap Both (sym c.as_slice-in-Both.ensures)) ∙ nodes-Both c.as_slice-in-Both.result.now in
    let m : body_nodes c.args.near.now.constructors.now + 2 + sum_by nodes c.as_slice-in-Both.result.now < t = omega (arith, smaller, c.decreases) in
    (m, (c.requires.tokens, (c.requires.few, c.requires.at)))

pub expand-expand_either-requires : goal.expand-expand_either-requires
expand-expand_either-requires t c =
    let smaller = ap nodes (c.in-Either.is ∙ ap Either (sym c.as_slice-in-Either.ensures)) ∙ nodes-Either c.as_slice-in-Either.result.now in
    let m : body_nodes c.args.near.now.constructors.now + 2 + sum_by nodes c.as_slice-in-Either.result.now < t = omega (arith, smaller, c.decreases) in
    (m, (c.requires.tokens, (c.requires.few, c.requires.at)))

pub expand-expand_chain-requires : goal.expand-expand_chain-requires
expand-expand_chain-requires t c =
    let smaller = ap nodes (c.in-Chain.is ∙ ap Chain (sym c.as_slice-in-Chain.ensures)) ∙ nodes-Chain c.as_slice-in-Chain.result.now in
    let m : body_nodes c.args.near.now.constructors.now + 2 + sum_by nodes c.as_slice-in-Chain.result.now < t = omega (arith, smaller, c.decreases) in
    (m, (c.requires.tokens, (c.requires.few, c.requires.at)))

pub expand_application-expand_body-requires : goal.expand_application-expand_body-requires
expand_application-expand_body-requires t c =
    let cs = c.args.near.now.constructors.now in let k = c.args.k.0 in let d = c.in-Some.constructor.now in
    let e : slice_get cs k ≡ Some d = sym c.in-Some.ensures in
    let l = slice_get_within cs k d e in let n = nodes_of_body cs k d l (sym (get_or_from_slice_get cs k d d e)) in
    let long = length-take-le k cs (omega (arith, l)) in let all = c.requires.few in
    let m : body_nodes (take k cs) + 1 + nodes d.body < t = omega (arith, n, c.decreases) in
    let few : length (take k cs) ≤ 2 ^ 32 = omega (arith, l, long, all) in
    (m, (c.requires.tokens, (few, c.requires.at)))

-- ---- operands and applications

pub expand_application-returns-in-None : goal.expand_application-returns-in-None
expand_application-returns-in-None t c =
    let a = c.args in rw c.new.ensures (applied_none (around a.near.now) a.at a.k.0 a.arguments.now (sym c.in-None.ensures))

pub expand_application-returns-in_ok-bodies-in-Some : goal.expand_application-returns-in_ok-bodies-in-Some
expand_application-returns-in_ok-bodies-in-Some t c =
    let a = c.args in let near = around a.near.now in let d = c.in-Some.constructor.now in
    let kept = λ (bs : List Alternative). map (choice_alternative a.k.0 a.arguments.now) (filter (is_admitted near d a.arguments.now) bs) in
    let P = StandFor near.tokens (applied (known_of near) a.k.0 a.arguments.now) (application_weight (open_weights near.tokens near.constructors) a.k.0 []) (application_len (lens_of near.tokens near.constructors) a.k.0) a.at in
    IfOk-weaker c.admitted_choices.result _ P
    (λ cs is. subst P (sym (is ∙ ap kept c.as_slice.ensures)) (applied_some near a.at a.k.0 a.arguments.now d c.in_ok-bodies-in-Some.bodies (sym c.in-Some.ensures) c.in_ok-bodies-in-Some.ensures)) c.admitted_choices.ensures

pub expand_type-loop-k-preserved-then-not-makes : goal.expand_type-loop-k-preserved-then-not-makes
expand_type-loop-k-preserved-then-not-makes t c =
    let a = c.args in let near = a.near.now in
    type_other near.tokens.now near.constructors.now a.made a.at c.loop-k.k c.constructor-item.result c.loop-k.alternatives c.loop-k-test.true c.constructor-item.is c.loop-k.invariant (sym c.if-not-makes.ensures)

pub expand_type-loop-k-preserved : goal.expand_type-loop-k-preserved
expand_type-loop-k-preserved t c =
    let a = c.args in let near = a.near.now in let T = near.tokens.now in let cs = near.constructors.now in let k = c.loop-k.k in let item = c.constructor-item.result in
    let made : makes a.made item.result ≡ true = sym c.makes.ensures ∙ c.if-not-makes.false in
    subst (StandForType T cs a.made a.at (k + 1))
    (sym (c.in_ok-append.ensures ∙ ap (λ z. c.loop-k.alternatives ++ z) (c.in_ok-chosen.ensures ∙ ap (map (choice_alternative k [])) c.as_slice.ensures)))
    (type_made T cs a.made a.at k item c.loop-k.alternatives c.loop-k-test.true c.constructor-item.is c.loop-k.invariant c.in_ok-bodies.bodies made c.in_ok-bodies.ensures)
