use Rattle.std.proofs.Common.{◌≡◌, map}
use Rattle.sled_model.specs.declared.pattern.Pattern.TheVariants as pattern
use Rattle.tree_meaning.proofs.patterns.all_loose.Given as goal

abbrev pub invariant-loop-pattern : goal.invariant-loop-pattern
invariant-loop-pattern l = l.made.items ≡ map pattern.Loose l.yielded
