use Rattle.std.proofs.Common.{◌≡◌, map, take}
use Rattle.sled_lexer.specs.Spelled.{number_value}
use Rattle.sled_model.specs.declared.pattern.Pattern.TheVariants as pattern
use Rattle.tree_meaning.proofs.patterns.listed_limits.Given as goal

abbrev pub invariant-loop-number : goal.invariant-loop-number
invariant-loop-number l = l.patterns.items ≡ map (λ n. pattern.Limit l.field l.relation (number_value n)) (take l.number-index l.numbers)
