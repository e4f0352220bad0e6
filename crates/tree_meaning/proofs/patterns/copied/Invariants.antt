use Rattle.std.proofs.Common.{◌≡◌, take}
use Rattle.tree_meaning.proofs.patterns.copied.Given as goal

abbrev pub invariant-loop-pattern : goal.invariant-loop-pattern
invariant-loop-pattern l = l.copied ≡ take l.pattern-index l.patterns
