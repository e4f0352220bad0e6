use Rattle.std.proofs.Common.{◌≡◌, ◌++◌, take}
use Rattle.std.specs.List.{flat_map}
use Rattle.sled_model.specs.Results.{operands_in}
use Rattle.instance_reading.proofs.body_parts.+operands.Given as goal

abbrev pub invariant-push_all_operands-loop-part : goal.invariant-push_all_operands-loop-part
invariant-push_all_operands-loop-part l = l.found ≡ l.initial.found ++ flat_map operands_in (take l.part-index l.parts)
