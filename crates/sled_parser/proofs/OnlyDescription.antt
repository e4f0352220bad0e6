-- A list of lexemes is the description of at most one list of declarations.
use Rattle.std.proofs.Common.{◌≡◌, ℕ, suc, ◌≤◌, List, [], ap, sym, ◌∙◌, arith, Ok}
use Rattle.std.specs.Prelude.{max}
use Rattle.sled_parser.specs.declared.tree.Decl.{Decl}
use Rattle.sled_parser.specs.Pieces.{Input}
use Rattle.sled_parser.specs.DeclarationGrammar.{declarations_at}
use Rattle.sled_parser.specs.Declarations.{IsDescription, description_nesting}
use Rattle.sled_parser.proofs.Only.{same_read}
use Rattle.sled_parser.proofs.DeclarationComplete.{declarations_complete}

-- a description is read as a whole where the rule may go as deep as it does
pub description_read : (n : ℕ) (i : Input) (t : List Decl) → IsDescription i t → suc (description_nesting t) ≤ n → declarations_at n i ≡ Ok (t, [])
description_read n i t is deep = ap (declarations_at n) is.1 ∙ declarations_complete n (description_nesting t) deep t is.0 (omega arith)

pub one_description : (i : Input) (t u : List Decl) → IsDescription i t → IsDescription i u → t ≡ u
one_description i t u is_t is_u =
    let n : ℕ = suc (max (description_nesting t) (description_nesting u)) in
    let a : declarations_at n i ≡ Ok (t, []) = description_read n i t is_t (omega arith) in
    let b : declarations_at n i ≡ Ok (u, []) = description_read n i u is_u (omega arith) in
    same_read t u [] [] (sym a ∙ b)
