use Rattle.std.proofs.Common.{◌≡◌, ◌+◌, ◌≤◌, length, ◌++◌, map, filter, take, ap, sym, ◌∙◌, arith}
use Rattle.std.proofs.lemmas.Result.{IfOk-weaker}
use Rattle.std.proofs.lemmas.List.Elements.{All-append}
use Rattle.std.specs.List.{flat_map, fold}
use Rattle.sled_model.specs.declared.raw.Match.{Match}
use Rattle.sled_model.specs.Results.{results as results_of, label_match, chain_match, both_match, agrees, both}
use Rattle.sled_model.specs.PatternContexts.{context_in}
use Rattle.sled_model.specs.Admitted.{applied}
use Rattle.sled_model.proofs.AdmittedLaws.{results-Apply}
use Rattle.sled_model.proofs.Equations.{results-Label}
use Rattle.sled_model.proofs.Lists.{flat_map_take, fold_take}
use Rattle.sled_model.proofs.Within.{Within, Within-label, Within-loose, Within-chain, Within-both_all}
use Rattle.sled_model.proofs.plain.+results.Goals as goal

pub results_among-returns-in_ok-found-in-Label-clause-value : goal.results_among-returns-in_ok-found-in-Label-clause-value
results_among-returns-in_ok-found-in-Label-clause-value t c =
    let a = c.args in let w = a.near.now.window.now in let cx = context_in a.near.now in
    let e : map (label_match c.in-Label.label a.at) c.as_slice.result.now ≡ results_of cx a.pattern.now w a.at =
    ap (map (label_match c.in-Label.label a.at)) (c.as_slice.ensures ∙ c.in_ok-found-in-Label.ensures.value ∙ ap (λ p. results_of cx p w a.at) c.get.ensures)
    ∙ sym (results-Label cx w a.at c.in-Label.label c.in-Label.inner) ∙ ap (λ p. results_of cx p w a.at) (sym c.in-Label.is) in
    IfOk-weaker c.labelled.result _ _ (λ found is. is ∙ e) c.labelled.ensures

pub results_among-returns-in_ok-found-in-Label-clause-within : goal.results_among-returns-in_ok-found-in-Label-clause-within
results_among-returns-in_ok-found-in-Label-clause-within t c =
    let a = c.args in let n = length a.near.now.window.now in
    let h : Within n a.at c.as_slice.result.now = rw c.as_slice.ensures c.in_ok-found-in-Label.ensures.within in
    IfOk-weaker c.labelled.result _ (Within n a.at) (λ found is. rw is (Within-label n a.at c.in-Label.label c.as_slice.result.now h)) c.labelled.ensures

pub results_among-returns-in_ok-found-in-Loose-clause-within : goal.results_among-returns-in_ok-found-in-Loose-clause-within
results_among-returns-in_ok-found-in-Loose-clause-within t c =
    let a = c.args in let n = length a.near.now.window.now in
    let h : Within n a.at c.as_slice-in-Loose.result.now = rw c.as_slice-in-Loose.ensures c.in_ok-found-in-Loose.ensures.within in
    IfOk-weaker c.loosened.result _ (Within n a.at) (λ found is. rw is (Within-loose n a.at c.as_slice-in-Loose.result.now h)) c.loosened.ensures

pub all_chained-loop-a-preserved : goal.all_chained-loop-a-preserved
all_chained-loop-a-preserved t c =
    let a = c.args in let n = length a.near.now.window.now in
    let f = λ (b : Match). map (chain_match b) (results_of (context_in a.near.now) a.part.now a.near.now.window.now (a.at + b.len)) in
    let told : c.push_chained.new.found ≡ c.loop-a.found ++ map (chain_match c.a-item.result) c.as_slice.result.now = c.in_ok-push_chained.ensures in
    record {
      value = told ∙ ap (λ z. z ++ map (chain_match c.a-item.result) c.as_slice.result.now) c.loop-a.invariant.value
          ∙ ap (λ z. flat_map f (take c.loop-a.a-index a.firsts.now) ++ map (chain_match c.a-item.result) z) (c.as_slice.ensures ∙ c.in_ok-seconds.ensures.value)
          ∙ sym (flat_map_take f a.firsts.now c.loop-a.a-index c.a-item.result (omega arith) c.a-item.is);
      within = rw told (All-append (λ x. a.at + x.len ≤ n) c.loop-a.found (map (chain_match c.a-item.result) c.as_slice.result.now) c.loop-a.invariant.within
          (Within-chain n a.at c.a-item.result c.as_slice.result.now (rw c.as_slice.ensures c.in_ok-seconds.ensures.within)));
    }

pub both_results-loop-part-preserved : goal.both_results-loop-part-preserved
both_results-loop-part-preserved t c =
    let a = c.args in let n = length a.near.now.window.now in let m = results_of (context_in a.near.now) in let i = c.loop-part.invariant in
    let firsts : c.as_slice.result.now ≡ c.loop-part.found = c.as_slice.ensures in
    let seconds : c.as_slice-in-loop-part.result.now ≡ c.in_ok-seconds.seconds = c.as_slice-in-loop-part.ensures in (
      i.0,
      (
        i.1.0,
        c.in_ok-found-2.ensures
            ∙ ap (λ fs. flat_map (λ x. map (both_match x) (filter (agrees x) c.as_slice-in-loop-part.result.now)) fs) (firsts ∙ i.1.1)
            ∙ ap (λ ss. flat_map (λ x. map (both_match x) (filter (agrees x) ss)) (fold both (m i.0) (map m (take c.loop-part.part-index c.in-Some.rest.now)) a.near.now.window.now a.at)) (seconds ∙ c.in_ok-seconds.ensures.value)
            ∙ ap (λ z. z a.near.now.window.now a.at) (sym (fold_take both m (m i.0) c.in-Some.rest.now c.loop-part.part-index c.part-item.result (omega arith) c.part-item.is)),
        rw c.in_ok-found-2.ensures (Within-both_all n a.at c.as_slice.result.now c.as_slice-in-loop-part.result.now (rw firsts i.1.2) (rw seconds c.in_ok-seconds.ensures.within)),
      ),
    )

pub results_among-returns-in-Apply-clause-value : goal.results_among-returns-in-Apply-clause-value
results_among-returns-in-Apply-clause-value t c =
    let a = c.args in let w = a.near.now.window.now in let cx = context_in a.near.now in let k = c.in-Apply.constructor in
    let e : applied cx.known k.0 c.as_slice-in-Apply.result.now w a.at ≡ results_of cx a.pattern.now w a.at =
    ap (λ arguments. applied cx.known k.0 arguments w a.at) c.as_slice-in-Apply.ensures ∙ sym (results-Apply cx k c.in-Apply.arguments w a.at) ∙ ap (λ p. results_of cx p w a.at) (sym c.in-Apply.is) in
    IfOk-weaker c.application_results.result _ _ (λ found is. is ∙ e) c.application_results.ensures.value
