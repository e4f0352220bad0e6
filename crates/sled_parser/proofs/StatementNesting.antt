-- How deep brackets stand inside one another in a statement.
use Rattle.std.proofs.Common.{◌≡◌, ℕ, ◌+◌, ◌≤◌, true, List, [], ◌∷◌, refl, subst, arith, Option, Some, None}
use Rattle.std.specs.Prelude.{flat_map, max}
use Rattle.sled_lexer.specs.declared.Lexeme.{Lexeme}
use Rattle.sled_parser.specs.declared.class.Class.TheVariants as class
use Rattle.sled_parser.specs.declared.tree.ArmTree.{ArmTree}
use Rattle.sled_parser.specs.declared.tree.ArmsTree.{ArmsTree}
use Rattle.sled_parser.specs.declared.tree.ArmsTree.TheVariants as arms
use Rattle.sled_parser.specs.declared.tree.MatchTree.{MatchTree}
use Rattle.sled_parser.specs.Pieces.{pieces}
use Rattle.sled_parser.specs.Trees.{piece_for, number, spelling, nesting}
use Rattle.sled_parser.specs.Nesting.{nest_fault}
use Rattle.sled_parser.specs.Statements.{quoted, arm_spelling, arms_spelling, skip_spelling, statement_spelling, IsStatement}
use Rattle.sled_parser.proofs.NestingLaws.{Nests, is_shallow, shallow_pieces, nests_nil, nests_flat, nests_append, nests_fewer, flat_number, flat_text, flat_for, pattern_nests}

abbrev pub listed_nesting : List ArmTree → ℕ
listed_nesting [] = 0
listed_nesting (a ∷ xs) = max (nesting a.pattern) (listed_nesting xs)

abbrev pub arms_nesting : ArmsTree → ℕ
arms_nesting arms.All = 0
arms_nesting (arms.Listed xs) = listed_nesting xs

abbrev pub statement_nesting : MatchTree → ℕ
statement_nesting t = arms_nesting t.arms

arm_nests : (a : ArmTree) → Nests (nesting a.pattern) (arm_spelling a)
arm_nests a =
    let behind = nests_flat 0 (piece_for class.Arrow) _ (flat_for class.Arrow refl refl refl) (nests_flat 0 (quoted a.action) [] (flat_text a.action) nests_nil) in
    nests_flat _ (piece_for class.Case) _ (flat_for class.Case refl refl refl)
    (nests_fewer (nesting a.pattern) (max (nesting a.pattern) 0) _ (omega arith) (nests_append (nesting a.pattern) 0 (spelling a.pattern) _ (pattern_nests a.pattern) behind))

listed_nests : (xs : List ArmTree) → Nests (listed_nesting xs) (flat_map arm_spelling xs)
listed_nests [] = nests_nil
listed_nests (a ∷ xs) = nests_append (nesting a.pattern) (listed_nesting xs) (arm_spelling a) (flat_map arm_spelling xs) (arm_nests a) (listed_nests xs)

arms_nests : (t : ArmsTree) → Nests (arms_nesting t) (arms_spelling t)
arms_nests arms.All = nests_flat 0 (piece_for class.All) [] (flat_for class.All refl refl refl) nests_nil
arms_nests (arms.Listed xs) = listed_nests xs

skip_nests : (s : Option (List ℕ)) → Nests 0 (skip_spelling s)
skip_nests None = nests_nil
skip_nests (Some n) =
    nests_flat 0 (piece_for class.Else) _ (flat_for class.Else refl refl refl)
    (nests_flat 0 (piece_for class.Skip) _ (flat_for class.Skip refl refl refl) (nests_flat 0 (number n) [] (flat_number n) nests_nil))

pub statement_nests : (t : MatchTree) → Nests (statement_nesting t) (statement_spelling t)
statement_nests t =
    let n : ℕ = arms_nesting t.arms in
    nests_flat n (piece_for class.Match) _ (flat_for class.Match refl refl refl)
    (nests_fewer n (max n 0) _ (omega arith) (nests_append n 0 (arms_spelling t.arms) (skip_spelling t.skip) (arms_nests t.arms) (skip_nests t.skip)))

-- where no bracket opens inside 64 others, no statement of these lexemes nests deeper
pub statement_within : (text : List ℕ) (ls : List Lexeme) (t : MatchTree) → nest_fault text ls ≡ None → IsStatement (pieces text ls) t → statement_nesting t ≤ 64
statement_within text ls t none is =
    let shallow = subst (λ i. is_shallow 0 i ≡ true) is.1 (shallow_pieces text ls none) in
    let deep : 0 + statement_nesting t ≤ 64 = (statement_nests t).within 0 (omega arith) shallow in
    omega arith
