use Rattle.std.proofs.Common.{All, sym, subst}
use Rattle.sled_model.specs.Leaves.{AllLeaves, NamesNoConstructor}
use Rattle.tree_meaning.specs.NameTables.{table_names}
use Rattle.tree_meaning.specs.Scopes.{declared_in}
use Rattle.sled_elab.specs.Descriptions.{described_in}
use Rattle.sled_elab.proofs.DefinitionSound.{added_sound, definition_plain, definition_whole}
use Rattle.sled_elab.proofs.definition.declare_definition.Goals as goal

pub returns-clause-sound : goal.returns-clause-sound
returns-clause-sound c = λ _.
    added_sound (described_in c.args.description.now) c.requires.sound c.args.name.now c.args.items.now c.args.tree.now c.in_ok-condition.field-0 (table_names c.new.result) c.in_ok-patterns.patterns
    (declared_in c.add_patterns.new.scope) c.in_ok-condition.ensures c.in_default.is c.new.ensures c.in_ok-patterns.ensures c.in_ok-add_patterns.ensures

pub unmet_forming-requires : goal.unmet_forming-requires
unmet_forming-requires c =
    subst (All (AllLeaves NamesNoConstructor)) (sym c.as_slice.ensures)
    (definition_plain (described_in c.args.description.now) c.requires.sound c.args.name.now c.args.items.now c.args.tree.now c.in_ok-condition.field-0 (table_names c.new.result) c.in_ok-patterns.patterns
    c.in_ok-condition.ensures c.in_default.is c.in_ok-patterns.ensures)

pub add_patterns-requires-clause-whole : goal.add_patterns-requires-clause-whole
add_patterns-requires-clause-whole c =
    definition_whole (described_in c.args.description.now) c.args.name.now c.args.items.now c.args.tree.now c.in_ok-condition.field-0 (table_names c.new.result) c.in_ok-patterns.patterns
    c.in_ok-condition.ensures c.in_default.is c.new.ensures c.in_ok-patterns.ensures
