use Rattle.std.proofs.Common.{◌≡◌, ◌≤◌, ℕ, List, nat_lt, ap, sym, ◌∙◌}
use Rattle.std.specs.List.{list_all}
use Rattle.std.proofs.lemmas.List.Folds.{list_all-map}
use Rattle.sled_lexer.specs.Spelled.{number_value}
use Rattle.tree_meaning.specs.Values as values
use Rattle.tree_meaning.proofs.ValueLemmas.{range_fits}
use Rattle.tree_meaning.proofs.values.all_fit.Goals as goal

pub returns-else-number_value : goal.returns-else-number_value
returns-else-number_value c =
    let a = number_value c.in-Range.first in let b = number_value c.in-Range.last in
    let tokens = c.args.tokens.now in let f = c.args.field in
    let first : c.number_value.result ≡ a = c.number_value.ensures ∙ ap number_value c.as_slice-in-Range.ensures in
    let last : c.number_value-in-Range.result ≡ b = c.number_value-in-Range.ensures ∙ ap number_value c.as_slice-in-Range-2.ensures in
    let order : a ≤ b = rw (← first, ← last) c.if-number_value.false in
    c.is_below-else-number_value.ensures
    ∙ ap (λ n. nat_lt (number_value n) c.value_count-count.result) c.as_slice-else-number_value.ensures
    ∙ ap (nat_lt b) c.value_count-count.ensures.value
    ∙ sym (range_fits a b (values.value_count tokens f) order)
    ∙ ap (values.all_fit tokens f) (sym c.in-Range.is)

pub returns-in-Listed : goal.returns-in-Listed
returns-in-Listed c =
    let tokens = c.args.tokens.now in let f = c.args.field in let ns = c.in-Listed.numbers in
    let within = λ (count : ℕ) (spellings : List (List ℕ)). list_all (λ n. nat_lt (number_value n) count) spellings in
    c.all_below.ensures
    ∙ ap (within c.value_count-count.result) c.as_slice-in-Listed.ensures
    ∙ ap (λ count. within count ns) c.value_count-count.ensures.value
    ∙ sym (list_all-map (λ n. nat_lt n (values.value_count tokens f)) number_value ns)
    ∙ ap (values.all_fit tokens f) (sym c.in-Listed.is)
