use Rattle.std.proofs.Common.{◌≡◌, ◌≤◌, ℕ, List, length, map, sym, subst, All, arith}
use Rattle.std.proofs.lemmas.Result.{IfOk-weaker}
use Rattle.sled_model.specs.Results.{results, arm_context}
use Rattle.sled_model.specs.Measures.{pattern_len, pattern_weight}
use Rattle.pattern_normal.specs.declared.case.Case.{Case}
use Rattle.pattern_normal.specs.Surroundings.{around}
use Rattle.pattern_normal.specs.Arms.{HasWholeWeight, open_pattern_weight}
use Rattle.pattern_normal.specs.Alternatives.{IsBytes, StandForPattern}
use Rattle.pattern_normal.specs.Cases.{told_by_met, binds_and_len}
use Rattle.pattern_normal.proofs.Told.{cases_tell, cases_end, cases_few}
use Rattle.pattern_normal.proofs.Counting.{open_below}
use Rattle.pattern_normal.proofs.case.cases_of.Goals as goal
use Rattle.pattern_normal.proofs.case.cases_of.Goals.{After-all_cases}

no_more : {a b c : ℕ} → a ≤ b → b ≤ c → a ≤ c
no_more p q = omega (arith, p, q)

stands : (c : After-all_cases) → StandForPattern (around c.arm_surroundings-near.result) c.args.pattern.now 0 c.as_slice.result.now
stands c = subst (λ z. StandForPattern (around c.arm_surroundings-near.result) c.args.pattern.now 0 z) (sym c.as_slice.ensures) c.in_ok-alternatives.ensures

pub returns-clause-results : goal.returns-clause-results
returns-clause-results c =
    let spec = c.args.spec.now in let p = c.args.pattern.now in let at = goal.at.returns-clause-results c in let known = c.arm_surroundings-near.ensures in
    IfOk-weaker c.all_cases.result _ (λ cases. (w : List ℕ) → IsBytes w → told_by_met spec.tokens w cases ≡ map binds_and_len (results (arm_context spec) p w 0))
    (λ cases is w bytes. subst (λ z. told_by_met spec.tokens w z ≡ map binds_and_len (results (arm_context spec) p w 0)) (sym is)
    (cases_tell spec p (around c.arm_surroundings-near.result) known.tokens known.kinds known.all c.requires.few c.as_slice.result.now (stands at.After-all_cases) c.requires.fits w bytes)) c.all_cases.ensures

pub returns-clause-lens : goal.returns-clause-lens
returns-clause-lens c =
    let spec = c.args.spec.now in let p = c.args.pattern.now in let at = goal.at.returns-clause-lens c in let known = c.arm_surroundings-near.ensures in
    IfOk-weaker c.all_cases.result _ (λ cases. All (λ (case : Case). case.bits.len ≤ pattern_len spec p) cases)
    (λ cases is. subst (λ z. All (λ (case : Case). case.bits.len ≤ pattern_len spec p) z) (sym is)
    (cases_end spec p (around c.arm_surroundings-near.result) known.tokens known.kinds known.all c.requires.few c.as_slice.result.now (stands at.After-all_cases))) c.all_cases.ensures

pub returns-clause-within : goal.returns-clause-within
returns-clause-within c =
    let spec = c.args.spec.now in let p = c.args.pattern.now in let at = goal.at.returns-clause-within c in let known = c.arm_surroundings-near.ensures in
    IfOk-weaker c.all_cases.result _ (λ cases. length cases ≤ open_pattern_weight spec p)
    (λ cases is. subst (λ z. length z ≤ open_pattern_weight spec p) (sym is)
    (cases_few spec p (around c.arm_surroundings-near.result) known.tokens known.kinds known.all c.requires.few c.as_slice.result.now (stands at.After-all_cases))) c.all_cases.ensures

pub returns-clause-count : goal.returns-clause-count
returns-clause-count c =
    let spec = c.args.spec.now in let p = c.args.pattern.now in let at = goal.at.returns-clause-count c in let known = c.arm_surroundings-near.ensures in
    IfOk-weaker c.all_cases.result _ (λ cases. HasWholeWeight spec p → length cases ≤ pattern_weight spec p)
    (λ cases is asks. subst (λ z. length z ≤ pattern_weight spec p) (sym is)
    (no_more (cases_few spec p (around c.arm_surroundings-near.result) known.tokens known.kinds known.all c.requires.few c.as_slice.result.now (stands at.After-all_cases)) (open_below spec p asks))) c.all_cases.ensures
