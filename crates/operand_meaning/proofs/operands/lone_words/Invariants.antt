use Rattle.std.proofs.Common.{◌≡◌, map, take}
use Rattle.std.specs.List.{filter_map}
use Rattle.operand_meaning.specs.Operands as of
use Rattle.operand_meaning.proofs.operands.lone_words.Given as goal

abbrev pub invariant-loop-operand : goal.invariant-loop-operand
invariant-loop-operand l = map (λ x. x.now) l.names.items ≡ filter_map of.lone_word (take l.operand-index l.operands)
