use Rattle.std.proofs.Common.{◌≡◌, ℕ, List, None, sym, ap, subst, ◌∙◌}
use Rattle.sled_model.specs.declared.pattern.Pattern.{Pattern}
use Rattle.sled_model.specs.declared.spec.Spec.{Spec}
use Rattle.sled_model.specs.Leaves.{AllLeaves}
use Rattle.sled_model.proofs.ShapeSpecs.{AppliesRightly}
use Rattle.sled_parser.specs.declared.tree.ArmTree.{ArmTree}
use Rattle.tree_meaning.specs.NameTables.{table_names}
use Rattle.tree_meaning.specs.Scopes.{Declared, declared_in}
use Rattle.constructor_meaning.specs.Unmet.{first_unmet}
use Rattle.arm_meaning.specs.Patterns as meaning
use Rattle.statement_building.specs.Conditions.{binding_conditions, forming_conditions}
use Rattle.statement_building.specs.Statements.{arm_names, arm_pattern}
use Rattle.statement_building.proofs.ArmLemmas.{IsFormed, arm_applies, forms_met, lengths_of, unmet_by_forming, weight_told}
use Rattle.statement_building.proofs.arm.make_arm.Goals as goal

-- the pattern of the names that are bound is the arm's
pattern_at : (spec : Spec) (d : Declared) (arm : ArmTree) (p : Pattern) (names : List (List ℕ)) → p ≡ meaning.arm_pattern spec d names arm.pattern → names ≡ arm_names d arm
    → p ≡ arm_pattern spec d arm
pattern_at spec d arm p names is bound = is ∙ ap (λ ns. meaning.arm_pattern spec d ns arm.pattern) bound

pub returns-in-Some-unmet_forming-clause-refused : goal.returns-in-Some-unmet_forming-clause-refused
returns-in-Some-unmet_forming-clause-refused c =
    let spec = c.args.spec.now in let d = declared_in c.args.scope.now in let arm = c.args.tree.now in
    let p = c.in_ok-pattern.pattern in
    let same : p ≡ arm_pattern spec d arm = pattern_at spec d arm p (table_names c.in_ok-bindings.bindings.names) c.in_ok-pattern.ensures c.in_ok-bindings.ensures.names in
    unmet_by_forming spec d c.args.before arm c.in-Some-unmet_forming.condition (sym c.in_default.ensures)
    (ap (λ q. first_unmet (forming_conditions spec d c.args.before arm.pattern q)) (sym same)
    ∙ sym (c.unmet_forming.ensures d arm.pattern p c.in_ok-bindings.ensures c.in_ok-measures.ensures) ∙ c.in-Some-unmet_forming.is)

pub returns-clause-weight : goal.returns-clause-weight
returns-clause-weight c =
    let spec = c.args.spec.now in let d = declared_in c.args.scope.now in let tree = c.args.tree.now.pattern in
    let p = c.in_ok-pattern.pattern in
    let formed : IsFormed spec c.args.before p =
    forms_met spec c.args.before p (binding_conditions d tree)
    (sym (c.unmet_forming.ensures d tree p c.in_ok-bindings.ensures c.in_ok-measures.ensures) ∙ c.in_default-unmet_forming.is) in
    weight_told spec c.args.before p c.in_ok-measures.measures.weight formed c.in_ok-measures.ensures.weight

pub returns-clause-lengths : goal.returns-clause-lengths
returns-clause-lengths c =
    let spec = c.args.spec.now in let d = declared_in c.args.scope.now in let tree = c.args.tree.now.pattern in
    let p = c.in_ok-pattern.pattern in
    let formed : IsFormed spec c.args.before p =
    forms_met spec c.args.before p (binding_conditions d tree)
    (sym (c.unmet_forming.ensures d tree p c.in_ok-bindings.ensures c.in_ok-measures.ensures) ∙ c.in_default-unmet_forming.is) in
    lengths_of spec c.args.before p
    (subst (AllLeaves AppliesRightly) (sym c.in_ok-pattern.ensures)
    (arm_applies spec d tree (table_names c.in_ok-bindings.bindings.names) c.requires.sound (sym c.in_default.ensures)))
    formed
