use Rattle.std.proofs.Common.{ap, sym, ◌∙◌}
use Rattle.std.specs.Prelude.{unwrap_or}
use Rattle.sled_lexer.specs.Spelled.{number_value}
use Rattle.sled_model.specs.declared.constructor.Atom.TheVariants as atom
use Rattle.tree_meaning.specs.NameTables.{table_names}
use Rattle.tree_meaning.specs.Scopes.{declared_in}
use Rattle.operand_meaning.specs.Equations as of
use Rattle.operand_meaning.proofs.equations.place_atom.Goals as goal

pub returns-in-Word : goal.returns-in-Word
returns-in-Word c =
    let d = declared_in c.args.scope.now in let labels = table_names c.args.labels.now in let os = c.args.operands.now in
    c.word_atom.ensures ∙ ap (of.word_atom d labels os) c.as_slice.ensures ∙ ap (of.place_atom d labels os) (sym c.in-Word.is)

pub returns-in-Slice : goal.returns-in-Slice
returns-in-Slice c =
    let d = declared_in c.args.scope.now in let labels = table_names c.args.labels.now in let os = c.args.operands.now in
    let number = c.unwrap_or.ensures ∙ ap (λ o. unwrap_or o 0) c.number_of.ensures ∙ ap (λ w. unwrap_or (of.number_of d os w) 0) c.as_slice-in-Slice.ensures in
    let lo = c.bit_of.ensures ∙ ap number_value c.as_slice-in-Slice-2.ensures in
    let hi = c.bit_of-in-Slice.ensures ∙ ap number_value c.as_slice-in-Slice-3.ensures in
    ap (λ n. atom.Slice n c.bit_of.result c.bit_of-in-Slice.result) number
    ∙ ap (λ n. atom.Slice (unwrap_or (of.number_of d os c.in-Slice.word) 0) n c.bit_of-in-Slice.result) lo
    ∙ ap (atom.Slice (unwrap_or (of.number_of d os c.in-Slice.word) 0) (number_value c.in-Slice.lo)) hi
    ∙ ap (of.place_atom d labels os) (sym c.in-Slice.is)
