use Rattle.std.proofs.Common.{Err, sym, ap, subst}
use Rattle.sled_lexer.specs.Lexemes.{Lexemes, InRange}
use Rattle.sled_parser.specs.Declarations.{IsDescription}
use Rattle.sled_elab.specs.Conditions.{IsDescriptionLack}
use Rattle.toolkit_cli.specs.declared.messages.Unit.TheVariants as part
use Rattle.toolkit_cli.specs.Texts.{Stops, RefusesDescription}
use Rattle.toolkit_cli.proofs.RangeLemmas.{description_in_range}
use Rattle.toolkit_cli.proofs.TextLemmas.{not_lexed, not_parsed}
use Rattle.toolkit_cli.proofs.texts.parsed.Goals as goal

pub returns-in-Err-clause-refused : goal.returns-in-Err-clause-refused
returns-in-Err-clause-refused c =
    subst (Stops RefusesDescription c.args.text.now) (sym c.not_lexed.ensures)
    (not_lexed IsDescription IsDescriptionLack part.Declaration c.args.text.now c.in-Err.fault c.requires c.in-Err.ensures.fault)

pub returns-clause-refused : goal.returns-clause-refused
returns-clause-refused c =
    let text = c.args.text.now in
    subst (Stops RefusesDescription text) (sym c.not_parsed.ensures)
    (not_parsed IsDescription IsDescriptionLack part.Declaration text c.as_slice.result.now c.in-Err-parse_spec.fault
    (record { short = c.requires; listed = subst (Lexemes text) (sym c.as_slice.ensures.value) c.in-Ok.ensures.ok; range = subst (InRange text) (sym c.as_slice.ensures.value) c.in-Ok.ensures.range })
    (λ p e. (c.in-Err-parse_spec.ensures.nesting p).0 (ap Err e)) (λ e. c.in-Err-parse_spec.ensures.syntax (ap Err e)))

pub returns-in-Ok-parse_spec-clause-numbers : goal.returns-in-Ok-parse_spec-clause-numbers
returns-in-Ok-parse_spec-clause-numbers c =
    let text = c.args.text.now in
    description_in_range text c.as_slice.result.now c.in-Ok-parse_spec.decls.items (subst (InRange text) (sym c.as_slice.ensures.value) c.in-Ok.ensures.range) c.in-Ok-parse_spec.ensures.tree
