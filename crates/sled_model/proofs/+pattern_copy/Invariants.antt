use Rattle.std.proofs.Common.{◌≡◌, take}
use Rattle.sled_model.proofs.+pattern_copy.Given as goal

abbrev pub invariant-copies::copy_patterns-loop-pattern : goal.invariant-copies::copy_patterns-loop-pattern
invariant-copies::copy_patterns-loop-pattern l = l.copied ≡ take l.pattern-index l.patterns

abbrev pub invariant-copies::copy_arguments-loop-argument : goal.invariant-copies::copy_arguments-loop-argument
invariant-copies::copy_arguments-loop-argument l = l.copied ≡ take l.argument-index l.arguments
