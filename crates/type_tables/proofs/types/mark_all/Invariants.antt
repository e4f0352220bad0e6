use Rattle.std.proofs.Common.{◌≡◌, ℕ, take, slice_get}
use Rattle.std.specs.Option.{option_map}
use Rattle.type_tables.specs.Types.{with_uses}
use Rattle.type_tables.proofs.types.mark_all.Given as goal

abbrev pub invariant-loop-kind : goal.invariant-loop-kind
invariant-loop-kind l = (t : ℕ) → slice_get l.types t ≡ option_map (with_uses t (take l.kind-index l.kinds)) (slice_get l.initial.types t)
