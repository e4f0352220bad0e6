use Rattle.std.proofs.Common.{ℕ, List, map, sym, ap, ◌∙◌}
use Rattle.std.proofs.lemmas.Result.{IfOk-weaker}
use Rattle.sled_lexer.specs.Spelled.{number_value}
use Rattle.sled_model.specs.declared.pattern.Pattern.TheVariants as pattern
use Rattle.tree_meaning.specs.Values.{value_numbers}
use Rattle.tree_meaning.proofs.ChoiceLemmas.{map-map}
use Rattle.tree_meaning.proofs.patterns.limits.Goals as goal

pub returns-in-Listed : goal.returns-in-Listed
returns-in-Listed c =
    let a = c.args in let limit = pattern.Limit a.field a.relation in
    let e = ap (map (λ (n : List ℕ). limit (number_value n))) c.as_slice-in-Listed.ensures
    ∙ sym (map-map limit number_value c.in-Listed.numbers) ∙ ap (λ v. map limit (value_numbers v)) (sym c.in-Listed.is) in
    IfOk-weaker c.listed_limits.result _ _ (λ ps is. is ∙ e) c.listed_limits.ensures
