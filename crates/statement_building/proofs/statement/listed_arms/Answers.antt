use Rattle.std.proofs.Common.{◌≡◌, ℕ, ◌+◌, None, sym, ap, subst, ◌∙◌}
use Rattle.std.specs.Prelude.{All}
use Rattle.std.proofs.lemmas.List.Elements.{All-push}
use Rattle.sled_model.specs.declared.statement.Arm.{Arm}
use Rattle.sled_model.specs.Measures.{pattern_weight}
use Rattle.match_meaning.specs.Matchable.{IsMatchableArm}
use Rattle.matchable_arms.proofs.Arms.{arm_matchable}
use Rattle.tree_meaning.specs.Scopes.{declared_in}
use Rattle.statement_building.specs.Conditions.{arm_unmet, tree_weight}
use Rattle.statement_building.specs.Statements.{arm_of}
use Rattle.statement_building.proofs.ArmLemmas.{still_light, arm_within}
use Rattle.statement_building.proofs.StatementLemmas.{arms_unmet-past, made_more}
use Rattle.statement_building.proofs.statement.listed_arms.Goals as goal

pub loop-i-preserved : goal.loop-i-preserved
loop-i-preserved c =
    let spec = c.args.spec.now in let d = declared_in c.args.scope.now in let trees = c.args.trees.now in
    let i = c.loop-i.i in let before = c.loop-i.before in
    let tree = c.index-trees-i.result in let made = c.in-Ok.made in
    let told : made.weight ≡ tree_weight spec d tree = c.in-Ok.ensures.weight ∙ ap (λ (a : Arm). pattern_weight spec a.pattern) c.in-Ok.ensures.made in
    let matchable : IsMatchableArm spec made.arm =
    arm_matchable spec made.arm c.requires.sound.spec c.requires.readings c.requires.once c.in-Ok.ensures.lengths c.in-Ok.ensures.action in
    record {
      light = still_light before made.weight _ told (arm_within spec d before tree c.in-Ok.ensures.met);
      made = c.in_ok-push-in-Ok.ensures.ok ∙ made_more (arm_of spec d) trees i tree c.loop-i-test.true c.index-trees-i.is c.loop-i.arms made.arm c.loop-i.invariant.made c.in-Ok.ensures.made;
      matchable = subst (All (IsMatchableArm spec)) (sym c.in_ok-push-in-Ok.ensures.ok)
          (All-push (IsMatchableArm spec) c.loop-i.arms made.arm c.loop-i.invariant.matchable matchable);
      met = λ skip. c.loop-i.invariant.met skip
          ∙ arms_unmet-past (arm_unmet spec d) (tree_weight spec d) trees i tree c.loop-i-test.true c.index-trees-i.is (i + 1) before made.weight skip c.in-Ok.ensures.met told;
    }
