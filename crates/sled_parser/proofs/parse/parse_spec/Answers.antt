use Rattle.std.proofs.Common.{◌≡◌, List, subst, sym, ◌∙◌, Result, Err, None, rules}
use Rattle.std.specs.declared.vec.Vec.{Vec}
use Rattle.sled_lexer.proofs.Exact.{within}
use Rattle.sled_parser.specs.declared.tree.Decl.{Decl}
use Rattle.sled_parser.specs.declared.fault.SyntaxFault.{SyntaxFault}
use Rattle.sled_parser.specs.Pieces.{pieces, Reads}
use Rattle.sled_parser.specs.DeclarationGrammar.{declarations_at}
use Rattle.sled_parser.specs.Nesting.{nest_fault}
use Rattle.sled_parser.specs.Parse.{IsNoMemory}
use Rattle.sled_parser.proofs.DeclarationSound.{description_sound}
use Rattle.sled_parser.proofs.WholeDescription.{only_read, only_refused, none_refused}
use Rattle.sled_parser.proofs.parse.parse_spec.Goals as goal

err_same : {Z : Type 0} (a b : SyntaxFault) → (let x : Result (Vec Decl Z) SyntaxFault = Err a in let y : Result (Vec Decl Z) SyntaxFault = Err b in x ≡ y) → a ≡ b
err_same a b e = cc

pub nest_fault-requires : goal.nest_fault-requires
nest_fault-requires c = within c.args.text.now c.args.lexemes.now c.requires.lexemes

pub new-cursor-requires : goal.new-cursor-requires
new-cursor-requires c = within c.args.text.now c.args.lexemes.now c.requires.lexemes

pub returns-in-Ok-clause-tree : goal.returns-in-Ok-clause-tree
returns-in-Ok-clause-tree c =
    description_sound 65 (pieces c.args.text.now c.args.lexemes.now) (c.in-Ok.declarations.items, c.declarations.new.cursor) (rw (← c.new-cursor.ensures) c.in-Ok.ensures)

pub returns-in-Ok-clause-only : goal.returns-in-Ok-clause-only
returns-in-Ok-clause-only c = λ t is none.
    only_read c.args.text.now c.args.lexemes.now none c.declarations.new.cursor c.in-Ok.declarations.items t (rw (← c.new-cursor.ensures) c.in-Ok.ensures) is

pub returns-in-Err-clause-only : goal.returns-in-Err-clause-only
returns-in-Err-clause-only c = λ t is none.
    subst IsNoMemory (sym c.refused.ensures)
    (only_refused c.args.text.now c.args.lexemes.now none c.declarations.new.cursor c.in-Err.fault
    (subst (λ i. Reads {A = List Decl} (declarations_at 65 i) (Err c.in-Err.fault) c.declarations.new.cursor) c.new-cursor.ensures c.in-Err.ensures) t is)

pub returns-in-Err-clause-syntax : goal.returns-in-Err-clause-syntax
returns-in-Err-clause-syntax c = λ e.
    let none : nest_fault c.args.text.now c.args.lexemes.now ≡ None = search rules in
    let refused = none_refused c.args.text.now c.args.lexemes.now none c.declarations.new.cursor c.in-Err.fault
    (subst (λ i. Reads {A = List Decl} (declarations_at 65 i) (Err c.in-Err.fault) c.declarations.new.cursor) c.new-cursor.ensures c.in-Err.ensures)
    (sym c.refused.ensures ∙ err_same _ _ e) in
    (none, refused)
