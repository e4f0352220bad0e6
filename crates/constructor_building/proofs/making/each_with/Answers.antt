use Rattle.std.proofs.Common.{◌≡◌, ◌∙◌, ◌++◌, ◌∷◌, [], ℕ, List, Bor, ap, map, take, get_or, length, sym, min, arith}
use Rattle.std.proofs.lemmas.List.{length-map}
use Rattle.sled_model.specs.declared.constructor.Constructor.{Constructor}
use Rattle.sled_model.specs.declared.pattern.Pattern.{Pattern}
use Rattle.tree_meaning.specs.Scopes.{Declared, declared_in}
use Rattle.constructor_meaning.specs.Constructing.{Constructing, constructing}
use Rattle.constructor_building.specs.Building.{constructor_with, each_with}
use Rattle.constructor_building.proofs.MadeLemmas.{each_step, each_all}
use Rattle.constructor_building.proofs.making.each_with.Goals as goal

pub loop-i-preserved : goal.loop-i-preserved
loop-i-preserved c =
    let i = c.loop-i.i in let d : Bor (List ℕ) = record { ref_ptr = (0, 0); now = [] } in
    let xs = c.args.names.now in let ps = c.args.bodies.now in
    let declared : Declared = declared_in c.args.scope.now in let t : Constructing = constructing c.args.tree.now in let r = c.args.result_type in
    let p : Pattern = c.index-bodies-i.result in
    let made : Constructor = constructor_with declared t r (get_or xs i d).now p in
    c.in_ok-push.ensures.ok ∙ ap (λ k. c.loop-i.made ++ k ∷ []) c.in_ok-constructor_with.ensures ∙ ap (λ ks. ks ++ made ∷ []) c.loop-i.invariant
    ∙ sym (each_step declared t r xs ps i d p (omega (arith, c.min-count.ensures, c.loop-i-test.true)) (omega (arith, c.min-count.ensures, c.loop-i-test.true)) c.index-bodies-i.is)

pub returns : goal.returns
returns c =
    let n = c.min-count.result in let names = map (λ (x : Bor (List ℕ)). x.now) c.args.names.now in
    let declared : Declared = declared_in c.args.scope.now in let t : Constructing = constructing c.args.tree.now in let r = c.args.result_type in
    let same : c.loop-i.i ≡ n = omega (arith, c.loop-i-test.false, c.loop-i.auto) in
    let len : n ≡ min (length names) (length c.args.bodies.now) = c.min-count.ensures ∙ sym (ap (λ m. min m (length c.args.bodies.now)) (length-map c.args.names.now (λ (x : Bor (List ℕ)). x.now))) in
    c.loop-i.invariant ∙ ap (λ k. each_with declared t r (take k names) (take k c.args.bodies.now)) same ∙ each_all declared t r n names c.args.bodies.now len
