use Rattle.std.proofs.Common.{◌≡◌, subst, sym, ◌∙◌, Result, Err, None, rules}
use Rattle.sled_lexer.proofs.Exact.{within}
use Rattle.sled_parser.specs.declared.tree.MatchTree.{MatchTree}
use Rattle.sled_parser.specs.declared.fault.SyntaxFault.{SyntaxFault}
use Rattle.sled_parser.specs.Pieces.{pieces, Reads}
use Rattle.sled_parser.specs.StatementGrammar.{whole_statement}
use Rattle.sled_parser.specs.Nesting.{nest_fault}
use Rattle.sled_parser.specs.Parse.{Answers}
use Rattle.sled_parser.proofs.StatementSound.{whole_sound}
use Rattle.sled_parser.proofs.WholeStatement.{only_read, only_refused, none_refused}
use Rattle.sled_parser.proofs.parse.parse_match.Goals as goal

err_same : (a b : SyntaxFault) → (let x : Result MatchTree SyntaxFault = Err a in let y : Result MatchTree SyntaxFault = Err b in x ≡ y) → a ≡ b
err_same a b e = cc

pub nest_fault-requires : goal.nest_fault-requires
nest_fault-requires c = within c.args.text.now c.args.lexemes.now c.requires.lexemes

pub new-cursor-requires : goal.new-cursor-requires
new-cursor-requires c = within c.args.text.now c.args.lexemes.now c.requires.lexemes

pub returns-in-Ok-clause-tree : goal.returns-in-Ok-clause-tree
returns-in-Ok-clause-tree c =
    whole_sound 65 (pieces c.args.text.now c.args.lexemes.now) (c.in-Ok.tree, c.whole_statement.new.cursor) (rw (← c.new-cursor.ensures) c.in-Ok.ensures)

pub returns-in-Ok-clause-only : goal.returns-in-Ok-clause-only
returns-in-Ok-clause-only c = λ t is none.
    only_read c.args.text.now c.args.lexemes.now none c.whole_statement.new.cursor c.in-Ok.tree t (rw (← c.new-cursor.ensures) c.in-Ok.ensures) is

pub returns-in-Err-clause-only : goal.returns-in-Err-clause-only
returns-in-Err-clause-only c = λ t is none.
    subst (λ f. Answers t (Err f)) (sym c.refused.ensures)
    (only_refused c.args.text.now c.args.lexemes.now none c.whole_statement.new.cursor c.in-Err.fault
    (subst (λ i. Reads {A = MatchTree} (whole_statement 65 i) (Err c.in-Err.fault) c.whole_statement.new.cursor) c.new-cursor.ensures c.in-Err.ensures) t is)

pub returns-in-Err-clause-syntax : goal.returns-in-Err-clause-syntax
returns-in-Err-clause-syntax c = λ e.
    let none : nest_fault c.args.text.now c.args.lexemes.now ≡ None = search rules in
    let refused = none_refused c.args.text.now c.args.lexemes.now none c.whole_statement.new.cursor c.in-Err.fault
    (subst (λ i. Reads {A = MatchTree} (whole_statement 65 i) (Err c.in-Err.fault) c.whole_statement.new.cursor) c.new-cursor.ensures c.in-Err.ensures)
    (sym c.refused.ensures ∙ err_same _ _ e) in
    (none, refused)
