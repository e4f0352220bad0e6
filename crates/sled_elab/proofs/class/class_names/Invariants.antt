use Rattle.std.proofs.Common.{◌≡◌, map, take}
use Rattle.sled_elab.specs.Declarations.{class_names}
use Rattle.sled_elab.proofs.class.class_names.Given as goal

abbrev pub invariant-loop-field : goal.invariant-loop-field
invariant-loop-field l = map (λ x. x.now) l.names.items ≡ class_names l.name (take l.field-index l.fields)
