use Rattle.std.proofs.Common.{◌≤◌, map, length, refl, sym, ◌∙◌, arith}
use Rattle.std.proofs.lemmas.List.{length-map}
use Rattle.tree_meaning.specs.Names.{is_among}
use Rattle.tree_meaning.specs.NameTables.{table_names}
use Rattle.tree_meaning.specs.Scopes.{declared_in}
use Rattle.operand_meaning.specs.Limits as of
use Rattle.operand_meaning.proofs.LimitLaws.{terms_within}
use Rattle.operand_meaning.proofs.ListFacts.{all_behind}
use Rattle.operand_meaning.proofs.limits.terms_are_within.Goals as goal

pub returns-then-all_within : goal.returns-then-all_within
returns-then-all_within c =
    let d = declared_in c.args.scope.now in let lone = is_among (table_names c.args.lone.now) in let sliced = is_among (table_names c.args.sliced.now) in
    let ts = c.args.terms.now in let ms = map (λ x. x.now) ts in
    let few : length (map (λ x. x.now) ts) ≤ 16 = omega (arith, length-map ts (λ x. x.now)) in
    let all = sym (all_behind (of.term_is_within d lone sliced) (λ x. x.now) ts ms refl) ∙ sym c.all_within.ensures ∙ c.if-all_within.true in
    c.atoms_differ.ensures ∙ sym (terms_within d lone sliced ms _ few all)

pub returns-else-all_within : goal.returns-else-all_within
returns-else-all_within c =
    let d = declared_in c.args.scope.now in let lone = is_among (table_names c.args.lone.now) in let sliced = is_among (table_names c.args.sliced.now) in
    let ts = c.args.terms.now in let ms = map (λ x. x.now) ts in
    let few : length (map (λ x. x.now) ts) ≤ 16 = omega (arith, length-map ts (λ x. x.now)) in
    let all = sym (all_behind (of.term_is_within d lone sliced) (λ x. x.now) ts ms refl) ∙ sym c.all_within.ensures ∙ c.if-all_within.false in
    c.if-all_within.false ∙ sym (terms_within d lone sliced ms _ few all)
