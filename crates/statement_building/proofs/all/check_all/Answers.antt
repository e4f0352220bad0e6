use Rattle.std.proofs.Common.{◌≡◌, ℕ, ◌+◌, List, [], take, None, sym, subst, ◌∙◌, arith}
use Rattle.std.specs.Prelude.{All}
use Rattle.std.proofs.lemmas.List.{take_all}
use Rattle.std.proofs.lemmas.List.Elements.{All-get_or, All-push}
use Rattle.sled_model.specs.declared.statement.Arm.{Arm}
use Rattle.matchable_arms.specs.Arms.{AppliesInside, HasLengths}
use Rattle.tree_meaning.proofs.ListLemmas.{take-here}
use Rattle.statement_building.specs.Conditions.{made_unmet, arm_weight}
use Rattle.statement_building.proofs.ArmLemmas.{IsFormed, forms_met, lengths_of, still_light, weight_told, weight_within}
use Rattle.statement_building.proofs.StatementLemmas.{arms_unmet-past}
use Rattle.statement_building.proofs.all.check_all.Goals as goal

pub loop-i-preserved : goal.loop-i-preserved
loop-i-preserved c =
    let spec = c.args.spec.now in let arms = c.args.arms.now in let i = c.loop-i.i in let before = c.loop-i.before in
    let arm = c.index-arms-i.result in
    let weight = c.in_ok-measures.measures.weight in
    let met : made_unmet spec before arm ≡ None = sym (c.unmet_made.ensures arm c.in_ok-measures.ensures) ∙ c.in_default.is in
    let formed : IsFormed spec before arm.pattern = forms_met spec before arm.pattern [] met in
    let told = weight_told spec before arm.pattern weight formed c.in_ok-measures.ensures.weight in
    let applies : AppliesInside arm = subst AppliesInside (sym c.index-arms-i.is) (All-get_or AppliesInside arms i arm c.loop-i-test.true c.requires.applies) in
    record {
      light = still_light before weight _ told (weight_within spec before arm.pattern formed).1;
      lengths = subst (All (HasLengths spec)) (sym (take-here arms i arm c.loop-i-test.true c.index-arms-i.is))
          (All-push (HasLengths spec) (take i arms) arm c.loop-i.invariant.lengths (lengths_of spec before arm.pattern applies formed));
      met = λ skip. c.loop-i.invariant.met skip
          ∙ arms_unmet-past (made_unmet spec) (arm_weight spec) arms i arm c.loop-i-test.true c.index-arms-i.is (i + 1) before weight skip met told;
    }

pub returns-clause-lengths : goal.returns-clause-lengths
returns-clause-lengths c =
    subst (All (HasLengths c.args.spec.now)) (take_all c.loop-i.i c.args.arms.now c.loop-i-test.false) c.loop-i.invariant.lengths
