use Rattle.std.proofs.Common.{◌≡◌, ◌+◌, ◌-◌, ◌∙◌, sym, ap, length}
use Rattle.std.proofs.lemmas.List.FromFn.{length-range_with_len}
use Rattle.sled_lexer.specs.Spelled.{number_value}
use Rattle.tree_meaning.specs.Values.{value_numbers}
use Rattle.tree_meaning.proofs.values.number_count.Goals as goal

pub returns-in-Range : goal.returns-in-Range
returns-in-Range c =
    let a = number_value c.in-Range.first in let b = number_value c.in-Range.last in
    let first : c.from-first.result ≡ a = c.from-first.ensures ∙ c.number_value.ensures ∙ ap number_value c.as_slice.ensures in
    let last : c.from.result ≡ b = c.from.ensures ∙ c.number_value-in-Range.ensures ∙ ap number_value c.as_slice-in-Range.ensures in
    c.saturating_sub.ensures ∙ ap (λ n. n + 1 - c.from-first.result) last ∙ ap (λ n. b + 1 - n) first
    ∙ sym (length-range_with_len a (b + 1 - a)) ∙ ap (λ v. length (value_numbers v)) (sym c.in-Range.is)
