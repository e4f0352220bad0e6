-- A list of lexemes is at most one statement.
use Rattle.std.proofs.Common.{◌≡◌, ℕ, suc, ◌≤◌, [], ap, sym, ◌∙◌, arith, Ok}
use Rattle.std.specs.Prelude.{max}
use Rattle.sled_parser.specs.declared.tree.MatchTree.{MatchTree}
use Rattle.sled_parser.specs.Pieces.{Input, Outcome}
use Rattle.sled_parser.specs.Statements.{IsStatement}
use Rattle.sled_parser.specs.StatementGrammar.{whole_statement}
use Rattle.sled_parser.proofs.StatementComplete.{whole_complete}
use Rattle.sled_parser.proofs.StatementNesting.{statement_nesting}

ok_same : {A : Type 0} (x y : A × Input) → (let a : Outcome A = Ok x in let b : Outcome A = Ok y in a ≡ b) → x ≡ y
ok_same x y e = cc

-- two trees that one rule reads from one list are one
pub same_read : {A : Type 0} (x y : A) (r s : Input) → (let a : Outcome A = Ok (x, r) in let b : Outcome A = Ok (y, s) in a ≡ b) → x ≡ y
same_read {A} x y r s e = ap (λ (z : A × Input). z.0) (ok_same (x, r) (y, s) e)

-- a statement is read whole, at each bound of its nesting
pub statement_read : (n : ℕ) (i : Input) (t : MatchTree) → IsStatement i t → suc (statement_nesting t) ≤ n → whole_statement n i ≡ Ok (t, [])
statement_read n i t is deep = ap (whole_statement n) is.1 ∙ whole_complete n (statement_nesting t) deep t is.0 (omega arith)

pub one_statement : (i : Input) (t u : MatchTree) → IsStatement i t → IsStatement i u → t ≡ u
one_statement i t u a b =
    let n : ℕ = suc (max (statement_nesting t) (statement_nesting u)) in
    same_read t u [] [] (sym (statement_read n i t a (omega arith)) ∙ statement_read n i u b (omega arith))
