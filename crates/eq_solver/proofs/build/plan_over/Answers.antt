use Rattle.eq_solver.specs.declared.fault.PlanFault.TheVariants.{Partial}
use Rattle.eq_solver.proofs.Conditions.{same_err}
use Rattle.std.proofs.Common.{◌≢◌, AllPairs, ◌∙◌, sym, ap, subst, List, Bool, length, map, false, replicate}
use Rattle.sled_model.specs.declared.constructor.Equation.{Equation}
use Rattle.eq_solver.specs.declared.plan.Plan.{Plan}
use Rattle.eq_solver.specs.Determined.{IsPlan}
use Rattle.eq_solver.specs.Plans.{is_hidden_source}
use Rattle.eq_solver.proofs.Linears.{all_below, all_good, plan_is, equations_are, halves_are, sources_are, hidden_are, hidden_size}
use Rattle.eq_solver.proofs.OrderOfCells.{is_determined, determines}
use Rattle.eq_solver.proofs.Few.{few_fits}
use Rattle.eq_solver.proofs.Starting.{subst2}
use Rattle.eq_solver.proofs.build.plan_over.Goals as goal

pub solving_steps-requires-clause-fields : goal.solving_steps-requires-clause-fields
solving_steps-requires-clause-fields c =
    let k = c.args.constructor.now in
    let es = equations_are k c.args.fields.now c.as_slice.result.now c.in_ok-equations.equations c.requires.fields c.as_slice.ensures c.in_ok-equations.ensures in
    let ss = sources_are k c.args.fields.now c.as_slice-2.result.now c.in_ok-sources.sources c.requires.fields c.as_slice-2.ensures c.in_ok-sources.ensures in
    let hs = hidden_are k c.in_ok-sources.sources c.as_slice-3.result.now c.in_ok-hidden.hidden ss c.as_slice-3.ensures c.in_ok-hidden.ensures in
    all_below k (length c.as_slice-5.result.now) (ap length c.as_slice-5.ensures ∙ hidden_size k c.in_ok-hidden.hidden hs) c.args.tokens.now c.as_slice-4.result.now c.requires.linear (c.as_slice-4.ensures ∙ es)

pub solving_steps-requires-clause-good : goal.solving_steps-requires-clause-good
solving_steps-requires-clause-good c =
    let k = c.args.constructor.now in
    let es = equations_are k c.args.fields.now c.as_slice.result.now c.in_ok-equations.equations c.requires.fields c.as_slice.ensures c.in_ok-equations.ensures in
    let ss = sources_are k c.args.fields.now c.as_slice-2.result.now c.in_ok-sources.sources c.requires.fields c.as_slice-2.ensures c.in_ok-sources.ensures in
    let hs = hidden_are k c.in_ok-sources.sources c.as_slice-3.result.now c.in_ok-hidden.hidden ss c.as_slice-3.ensures c.in_ok-hidden.ensures in
    all_good k (length c.as_slice-5.result.now) (ap length c.as_slice-5.ensures ∙ hidden_size k c.in_ok-hidden.hidden hs) c.args.tokens.now c.as_slice-4.result.now c.requires.linear (c.as_slice-4.ensures ∙ es)

pub returns-in-Ok-given_values-clause-plan : goal.returns-in-Ok-given_values-clause-plan
returns-in-Ok-given_values-clause-plan c =
    let k = c.args.constructor.now in
    let es = equations_are k c.args.fields.now c.as_slice.result.now c.in_ok-equations.equations c.requires.fields c.as_slice.ensures c.in_ok-equations.ensures in
    let ss = sources_are k c.args.fields.now c.as_slice-2.result.now c.in_ok-sources.sources c.requires.fields c.as_slice-2.ensures c.in_ok-sources.ensures in
    let hh = halves_are c.args.tokens.now k c.args.fields.now c.in_ok-halves.halves c.requires.fields c.in_ok-halves.ensures in
    let plan : Plan = record { halves = c.in_ok-halves.halves; sources = c.in_ok-sources.sources; hidden = c.in_ok-hidden.hidden; equations = c.in_ok-equations.equations; steps = c.in-Ok.steps; values = c.in-Ok-given_values.given.values; slices = c.in-Ok-given_values.given.slices } in
    plan_is c.args.tokens.now k plan c.requires.tokens c.requires.linear hh ss (c.in_ok-hidden.ensures ∙ ap (map is_hidden_source) c.as_slice-3.ensures) es
    (λ halves. subst2 (λ (xs : List Equation) (bs : List Bool). IsPlan halves (length xs) xs (replicate (length xs) false) bs c.in-Ok.steps) c.as_slice-4.ensures c.as_slice-5.ensures (c.in-Ok.ensures.plan halves)) c.in-Ok-given_values.ensures.values

pub returns-in-Ok-given_values-clause-determined : goal.returns-in-Ok-given_values-clause-determined
returns-in-Ok-given_values-clause-determined c =
    let k = c.args.constructor.now in
    let es = equations_are k c.args.fields.now c.as_slice.result.now c.in_ok-equations.equations c.requires.fields c.as_slice.ensures c.in_ok-equations.ensures in
    let ss = sources_are k c.args.fields.now c.as_slice-2.result.now c.in_ok-sources.sources c.requires.fields c.as_slice-2.ensures c.in_ok-sources.ensures in
    let hs = hidden_are k c.in_ok-sources.sources c.as_slice-3.result.now c.in_ok-hidden.hidden ss c.as_slice-3.ensures c.in_ok-hidden.ensures in
    is_determined c.args.tokens.now k c.requires.linear c.as_slice-4.result.now c.as_slice-5.result.now (c.as_slice-4.ensures ∙ es) (c.as_slice-5.ensures ∙ hs) c.in-Ok.ensures.determined

pub returns-in-Err-clause-undetermined : goal.returns-in-Err-clause-undetermined
returns-in-Err-clause-undetermined c e d =
    let k = c.args.constructor.now in
    let es = equations_are k c.args.fields.now c.as_slice.result.now c.in_ok-equations.equations c.requires.fields c.as_slice.ensures c.in_ok-equations.ensures in
    let ss = sources_are k c.args.fields.now c.as_slice-2.result.now c.in_ok-sources.sources c.requires.fields c.as_slice-2.ensures c.in_ok-sources.ensures in
    let hs = hidden_are k c.in_ok-sources.sources c.as_slice-3.result.now c.in_ok-hidden.hidden ss c.as_slice-3.ensures c.in_ok-hidden.ensures in
    c.in-Err.ensures.undetermined (cc) (determines c.args.tokens.now k c.requires.linear c.as_slice-4.result.now c.as_slice-5.result.now (c.as_slice-4.ensures ∙ es) (c.as_slice-5.ensures ∙ hs) d)

pub celled_equations-requires-clause-few : goal.celled_equations-requires-clause-few
celled_equations-requires-clause-few c = few_fits c.args.fields.now c.type_inv.fields (subst (AllPairs (λ f g. f ≢ g)) (sym c.requires.fields) c.requires.linear.once)

pub returns-in-Err-given_values-clause-partial : goal.returns-in-Err-given_values-clause-partial
returns-in-Err-given_values-clause-partial c = λ e.
    let k = c.args.constructor.now in
    let es = equations_are k c.args.fields.now c.as_slice.result.now c.in_ok-equations.equations c.requires.fields c.as_slice.ensures c.in_ok-equations.ensures in
    let ss = sources_are k c.args.fields.now c.as_slice-2.result.now c.in_ok-sources.sources c.requires.fields c.as_slice-2.ensures c.in_ok-sources.ensures in
    let hs = hidden_are k c.in_ok-sources.sources c.as_slice-3.result.now c.in_ok-hidden.hidden ss c.as_slice-3.ensures c.in_ok-hidden.ensures in
    let d = is_determined c.args.tokens.now k c.requires.linear c.as_slice-4.result.now c.as_slice-5.result.now (c.as_slice-4.ensures ∙ es) (c.as_slice-5.ensures ∙ hs) c.in-Ok.ensures.determined in
    (d, λ s. c.in-Err-given_values.ensures.partial (same_err c.in-Err-given_values.fault Partial e) s)
