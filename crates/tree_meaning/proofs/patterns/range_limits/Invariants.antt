use Rattle.std.proofs.Common.{◌≡◌, ◌-◌, ◌≤◌, max, map}
use Rattle.std.specs.List.{range_with_len}
use Rattle.sled_model.specs.declared.pattern.Pattern.TheVariants as pattern
use Rattle.tree_meaning.proofs.patterns.range_limits.Given as goal

abbrev pub invariant-loop-value : goal.invariant-loop-value
invariant-loop-value l = record {
  made : l.patterns.items ≡ map (pattern.Limit l.field l.relation) (range_with_len l.first (l.value - l.first));
  within : l.value ≤ max l.end l.first;
}
