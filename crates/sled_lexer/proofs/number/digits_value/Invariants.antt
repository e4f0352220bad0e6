use Rattle.std.proofs.Common.{◌≡◌, ◌≤◌, drop}
use Rattle.std.specs.Str.Parse.{digits_value, digits_value_after}
use Rattle.sled_base.specs.declared.limits.TheConstants.{MAX_NUMBER}
use Rattle.sled_lexer.proofs.number.digits_value.Given as goal

abbrev pub invariant-loop-d : goal.invariant-loop-d
invariant-loop-d l = record {
  so_far : digits_value_after l.base l.value (drop l.d-index l.digits) ≡ digits_value l.base l.digits;
  in_range : l.value ≤ MAX_NUMBER;
}
