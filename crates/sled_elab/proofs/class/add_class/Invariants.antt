use Rattle.std.proofs.Common.{◌≡◌, take}
use Rattle.std.specs.Prelude.{fold}
use Rattle.sled_elab.specs.Declarations.{with_class_alone, with_field}
use Rattle.sled_elab.specs.Descriptions.{described_in, IsSound}
use Rattle.sled_elab.proofs.class.add_class.Given as goal

abbrev pub invariant-loop-field : goal.invariant-loop-field
invariant-loop-field l = record {
  made : described_in l.description ≡ fold (with_field l.id.0) (with_class_alone (described_in l.fn.description) l.fn.name l.fn.width l.fn.little) (take l.field-index l.fields);
  sound : IsSound (described_in l.description);
}
