use Rattle.std.proofs.Common.{◌≡◌, length, All}
use Rattle.std.specs.Prelude.{IfSome}
use Rattle.std.proofs.lemmas.Result.{IfOk-weaker}
use Rattle.asm_text.specs.Actions.{NamesBelow}
use Rattle.tree_meaning.specs.NameTables.{table_names}
use Rattle.arm_actions.specs.Actions.{action_pieces, unquoted}
use Rattle.arm_actions.proofs.Named.{pieces_named}
use Rattle.arm_actions.proofs.quoted.pieces_of_action.Goals as goal

pub returns-clause-named : goal.returns-clause-named
returns-clause-named c =
    let names = table_names c.args.names.now in
    IfOk-weaker c.action_pieces.result _ _ (λ o is. pieces_named names c.without_quotes.result.now o is) c.action_pieces.ensures
