use Rattle.std.proofs.Common.{◌≡◌, ◌∙◌, ◌+◌, ◌++◌, ◌∷◌, [], ◌<◌, ℕ, List, Bor, ap, map, take, get_or, length, sym, Some, min, subst, arith}
use Rattle.std.proofs.lemmas.List.{length-map}
use Rattle.sled_model.specs.declared.pattern.Pattern.{Pattern}
use Rattle.constructor_scopes.specs.Makings.{Made, one_for_each}
use Rattle.constructor_scopes.proofs.NewLemmas.{each_step, each_all}
use Rattle.constructor_scopes.proofs.members.one_for_each.Goals as goal

pub loop-i-preserved : goal.loop-i-preserved
loop-i-preserved c =
    let i = c.loop-i.i in let d : Bor (List ℕ) = record { ref_ptr = (0, 0); now = [] } in
    let xs = c.args.names.now in let ps = c.args.patterns.now in
    let p : Pattern = c.index-patterns-i.result in
    let made : Made = record { name = (get_or xs i d).now; member = Some p } in
    c.in_ok-push_member.ensures ∙ ap (λ ms. ms ++ made ∷ []) c.loop-i.invariant
    ∙ sym (each_step xs ps i d p (omega (arith, c.min-count.ensures, c.loop-i-test.true)) (omega (arith, c.min-count.ensures, c.loop-i-test.true)) c.index-patterns-i.is)

pub returns : goal.returns
returns c =
    let n = c.min-count.result in let names = map (λ (x : Bor (List ℕ)). x.now) c.args.names.now in
    let same : c.loop-i.i ≡ n = omega (arith, c.loop-i-test.false, c.loop-i.auto) in
    let len : n ≡ min (length names) (length c.args.patterns.now) = c.min-count.ensures ∙ sym (ap (λ m. min m (length c.args.patterns.now)) (length-map c.args.names.now (λ (x : Bor (List ℕ)). x.now))) in
    c.loop-i.invariant ∙ ap (λ k. one_for_each (take k names) (take k c.args.patterns.now)) same ∙ each_all n names c.args.patterns.now len
