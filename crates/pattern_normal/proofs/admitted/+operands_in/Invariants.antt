use Rattle.std.proofs.Common.{◌≡◌, ◌++◌, take}
use Rattle.std.specs.List.{flat_map}
use Rattle.sled_model.specs.Results.{operands_in}
use Rattle.pattern_normal.proofs.admitted.+operands_in.Given as goal

abbrev pub invariant-push_all_operands-loop-part : goal.invariant-push_all_operands-loop-part
invariant-push_all_operands-loop-part l = l.found ≡ l.initial.found ++ flat_map operands_in (take l.part-index l.parts)
