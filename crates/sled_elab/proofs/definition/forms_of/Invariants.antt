use Rattle.std.proofs.Common.{◌≡◌, take}
use Rattle.std.specs.List.{list_all}
use Rattle.sled_model.specs.Shapes.{spec_shapes, conjunctions_agree, chains_are_closed, sides_have_one_shape}
use Rattle.sled_elab.proofs.definition.forms_of.Given as goal

abbrev pub invariant-loop-pattern : goal.invariant-loop-pattern
invariant-loop-pattern l = record {
  agree : l.forms.agree ≡ list_all (conjunctions_agree (spec_shapes l.spec)) (take l.pattern-index l.patterns);
  closed : l.forms.closed ≡ list_all (chains_are_closed (spec_shapes l.spec)) (take l.pattern-index l.patterns);
  alike : l.forms.alike ≡ list_all (sides_have_one_shape (spec_shapes l.spec)) (take l.pattern-index l.patterns);
}
