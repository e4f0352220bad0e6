use Rattle.std.proofs.Common.{◌≡◌, ◌∙◌, true, false, sym, ap}
use Rattle.constructor_scopes.specs.Makings.{makings}
use Rattle.tree_meaning.specs.Scopes.{declared_in}
use Rattle.constructor_meaning.specs.Conditions.{names_are_declared_once}
use Rattle.constructor_meaning.specs.Constructing.{constructing}
use Rattle.constructor_meaning.proofs.ReadLemmas.{operands_differ, labels_differ, opcode_is_fresh}
use Rattle.constructor_meaning.proofs.reading.read.Goals as goal

pub label_table-requires-clause-distinct : goal.label_table-requires-clause-distinct
label_table-requires-clause-distinct c =
    labels_differ c.args.spec.now (declared_in c.args.scope.now) (constructing c.args.tree.now) (sym c.in_ok-names_are_declared_once.ensures ∙ c.if-not-branch.false)

pub read_body-requires-clause-distinct : goal.read_body-requires-clause-distinct
read_body-requires-clause-distinct c =
    operands_differ c.args.spec.now (declared_in c.args.scope.now) (constructing c.args.tree.now) (sym c.in_ok-names_are_declared_once.ensures ∙ c.if-not-branch.false)

pub read_body-requires-clause-fresh : goal.read_body-requires-clause-fresh
read_body-requires-clause-fresh c =
    opcode_is_fresh c.args.spec.now (declared_in c.args.scope.now) (constructing c.args.tree.now) (sym c.in_ok-names_are_declared_once.ensures ∙ c.if-not-branch.false)
    c.requires.sound.local_names c.in_ok-makings.makings (c.in_ok-makings.ensures ∙ ap (makings (declared_in c.args.scope.now)) c.as_slice.ensures)
