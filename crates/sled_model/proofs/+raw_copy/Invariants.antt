use Rattle.std.proofs.Common.{◌≡◌, take}
use Rattle.sled_model.proofs.+raw_copy.Given as goal

abbrev pub invariant-copies::copy_entries-loop-entry : goal.invariant-copies::copy_entries-loop-entry
invariant-copies::copy_entries-loop-entry l = l.copied ≡ take l.entry-index l.entries
