use Rattle.std.proofs.Common.{Err, sym, ap, subst}
use Rattle.sled_lexer.specs.Lexemes.{Lexemes, InRange}
use Rattle.sled_parser.specs.Statements.{IsStatement}
use Rattle.sled_elab.specs.Descriptions.{described_in}
use Rattle.toolkit_cli.specs.declared.messages.Unit.TheVariants as part
use Rattle.toolkit_cli.specs.Texts.{Stops, RefusesStatement, IsLackOver}
use Rattle.toolkit_cli.proofs.RangeLemmas.{statement_in_range}
use Rattle.toolkit_cli.proofs.TextLemmas.{not_lexed, not_parsed}
use Rattle.toolkit_cli.proofs.texts.stated.Goals as goal

pub returns-in-Err-clause-refused : goal.returns-in-Err-clause-refused
returns-in-Err-clause-refused c =
    let d = described_in c.args.description.now in
    subst (Stops (RefusesStatement d) c.args.text.now) (sym c.not_lexed.ensures)
    (not_lexed IsStatement (IsLackOver d) part.Arm c.args.text.now c.in-Err.fault c.requires.short c.in-Err.ensures.fault)

pub returns-in-Err-parse_match-clause-refused : goal.returns-in-Err-parse_match-clause-refused
returns-in-Err-parse_match-clause-refused c =
    let text = c.args.text.now in
    let d = described_in c.args.description.now in
    subst (Stops (RefusesStatement d) text) (sym c.not_parsed.ensures)
    (not_parsed IsStatement (IsLackOver d) part.Arm text c.as_slice.result.now c.in-Err-parse_match.fault
    (record { short = c.requires.short; listed = subst (Lexemes text) (sym c.as_slice.ensures.value) c.in-Ok.ensures.ok; range = subst (InRange text) (sym c.as_slice.ensures.value) c.in-Ok.ensures.range })
    (λ p e. (c.in-Err-parse_match.ensures.nesting p).0 (ap Err e)) (λ e. c.in-Err-parse_match.ensures.syntax (ap Err e)))

pub elaborate_match-requires-clause-numbers : goal.elaborate_match-requires-clause-numbers
elaborate_match-requires-clause-numbers c =
    let text = c.args.text.now in
    statement_in_range text c.as_slice.result.now c.in-Ok-parse_match.tree (subst (InRange text) (sym c.as_slice.ensures.value) c.in-Ok.ensures.range) c.in-Ok-parse_match.ensures.tree
