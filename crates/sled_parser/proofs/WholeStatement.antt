-- A whole text is a statement exactly where the rule reads all of it.
use Rattle.std.proofs.Common.{◌≡◌, ℕ, ◌≤◌, List, [], sym, ◌∙◌, arith, Ok, Err, None}
use Rattle.sled_lexer.specs.declared.Lexeme.{Lexeme}
use Rattle.sled_parser.specs.declared.tree.MatchTree.{MatchTree}
use Rattle.sled_parser.specs.declared.fault.Fault.{Fault}
use Rattle.sled_parser.specs.declared.fault.Fault.TheVariants as fault
use Rattle.sled_parser.specs.declared.fault.SyntaxFault.TheVariants as syntax
use Rattle.sled_parser.specs.Pieces.{Input, Outcome, Reads, pieces}
use Rattle.sled_parser.specs.Nesting.{nest_fault}
use Rattle.sled_parser.specs.Statements.{IsStatement}
use Rattle.sled_parser.specs.StatementGrammar.{whole_statement}
use Rattle.sled_parser.specs.Parse.{Answers, refusal}
use Rattle.sled_parser.proofs.StatementNesting.{statement_nesting, statement_within}
use Rattle.sled_parser.proofs.Only.{same_read, statement_read}

pub same_statement : (i new : Input) (t u : MatchTree) → whole_statement 65 i ≡ Ok (u, new) → IsStatement i t → statement_nesting t ≤ 64 → u ≡ t
same_statement i new t u e is deep = same_read u t new [] (sym e ∙ statement_read 65 i t is (omega arith))

no_refusal : (i new : Input) (t : MatchTree) → whole_statement 65 i ≡ Err new → IsStatement i t → statement_nesting t ≤ 64 → ⊥
no_refusal i new t e is deep = let y : Outcome MatchTree = Ok (t, []) in let both : y ≡ Err new = sym (statement_read 65 i t is (omega arith)) ∙ e in cc

module _ (text : List ℕ) (ls : List Lexeme) (none : nest_fault text ls ≡ None) where
  pub only_read : (new : Input) (u t : MatchTree) → whole_statement 65 (pieces text ls) ≡ Ok (u, new) → IsStatement (pieces text ls) t → u ≡ t
  only_read new u t e is = same_statement (pieces text ls) new t u e is (statement_within text ls t none is)

  pub only_refused : (new : Input) (f : Fault) → Reads {A = MatchTree} (whole_statement 65 (pieces text ls)) (Err f) new → (t : MatchTree) → IsStatement (pieces text ls) t → Answers t (Err (refusal f))
  only_refused new fault.Syntax h t is = no_refusal (pieces text ls) new t h is (statement_within text ls t none is)
  only_refused new fault.NoMemory h t is = tt

  pub none_refused : (new : Input) (f : Fault) → Reads {A = MatchTree} (whole_statement 65 (pieces text ls)) (Err f) new → refusal f ≡ syntax.Syntax → (t : MatchTree) → IsStatement (pieces text ls) t → ⊥
  none_refused new fault.Syntax h e t is = no_refusal (pieces text ls) new t h is (statement_within text ls t none is)
  none_refused new fault.NoMemory h e t is = cc
