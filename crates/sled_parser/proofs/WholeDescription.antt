-- A whole text is a description exactly where the rule reads all of it.
use Rattle.std.proofs.Common.{◌≡◌, ℕ, ◌≤◌, List, [], sym, ◌∙◌, arith, Ok, Err, None}
use Rattle.sled_lexer.specs.declared.Lexeme.{Lexeme}
use Rattle.sled_parser.specs.declared.tree.Decl.{Decl}
use Rattle.sled_parser.specs.declared.fault.Fault.{Fault}
use Rattle.sled_parser.specs.declared.fault.Fault.TheVariants as fault
use Rattle.sled_parser.specs.declared.fault.SyntaxFault.TheVariants as syntax
use Rattle.sled_parser.specs.Pieces.{Input, Outcome, Reads, pieces}
use Rattle.sled_parser.specs.Nesting.{nest_fault}
use Rattle.sled_parser.specs.Declarations.{IsDescription, description_nesting}
use Rattle.sled_parser.specs.DeclarationGrammar.{declarations_at}
use Rattle.sled_parser.specs.Parse.{IsNoMemory, refusal}
use Rattle.sled_parser.proofs.DescriptionNesting.{description_within}
use Rattle.sled_parser.proofs.Only.{same_read}
use Rattle.sled_parser.proofs.OnlyDescription.{description_read}

same_description : (i new : Input) (t u : List Decl) → declarations_at 65 i ≡ Ok (u, new) → IsDescription i t → description_nesting t ≤ 64 → u ≡ t
same_description i new t u e is deep = same_read u t new [] (sym e ∙ description_read 65 i t is (omega arith))

no_refusal : (i new : Input) (t : List Decl) → declarations_at 65 i ≡ Err new → IsDescription i t → description_nesting t ≤ 64 → ⊥
no_refusal i new t e is deep = let y : Outcome (List Decl) = Ok (t, []) in let both : y ≡ Err new = sym (description_read 65 i t is (omega arith)) ∙ e in cc

module _ (text : List ℕ) (ls : List Lexeme) (none : nest_fault text ls ≡ None) where
  pub only_read : (new : Input) (u t : List Decl) → declarations_at 65 (pieces text ls) ≡ Ok (u, new) → IsDescription (pieces text ls) t → u ≡ t
  only_read new u t e is = same_description (pieces text ls) new t u e is (description_within text ls t none is)

  pub only_refused : (new : Input) (f : Fault) → Reads {A = List Decl} (declarations_at 65 (pieces text ls)) (Err f) new → (t : List Decl) → IsDescription (pieces text ls) t → IsNoMemory (refusal f)
  only_refused new fault.Syntax h t is = no_refusal (pieces text ls) new t h is (description_within text ls t none is)
  only_refused new fault.NoMemory h t is = tt

  pub none_refused : (new : Input) (f : Fault) → Reads {A = List Decl} (declarations_at 65 (pieces text ls)) (Err f) new → refusal f ≡ syntax.Syntax → (t : List Decl) → IsDescription (pieces text ls) t → ⊥
  none_refused new fault.Syntax h e t is = no_refusal (pieces text ls) new t h is (description_within text ls t none is)
  none_refused new fault.NoMemory h e t is = cc
