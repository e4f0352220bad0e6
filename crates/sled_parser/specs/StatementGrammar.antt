-- The rules of statements, each as a parser.
use Rattle.std.specs.Prelude.{ℕ, zero, suc, if◌then◌else◌, List, [], ◌∷◌, ◌++◌, length, Option, Some, None}
use Rattle.sled_parser.specs.declared.class.Class.TheVariants as class
use Rattle.sled_parser.specs.declared.tree.ArmTree.{ArmTree}
use Rattle.sled_parser.specs.declared.tree.ArmsTree.{ArmsTree}
use Rattle.sled_parser.specs.declared.tree.ArmsTree.TheVariants as arms
use Rattle.sled_parser.specs.declared.tree.MatchTree.{MatchTree}
use Rattle.sled_parser.specs.Pieces.{Parser, ◌>>=◌, pure, refuse, eat, pass, take_text, looks, finish}
use Rattle.sled_parser.specs.Grammar.{number, pattern_at}

unfoldable pub action : Parser (List ℕ)
action = do
  is_text ← looks class.Text
  if is_text then take_text else refuse

-- after `case`
unfoldable pub arm_at : ℕ → Parser ArmTree
arm_at n = do
  pattern ← pattern_at n
  _ ← pass class.Arrow
  text ← action
  pure (record { pattern = pattern; action = text })

-- arms, as many as come. The first number bounds how many brackets may open inside one another in a pattern, the second the turns.
unfoldable pub arms_from : ℕ → ℕ → List ArmTree → Parser (List ArmTree)
arms_from n zero found = pure found
arms_from n (suc turns) found = do
  more ← eat class.Case
  if more then (do a ← arm_at n; arms_from n turns (found ++ a ∷ [])) else pure found

abbrev pub listed_arms : ℕ → Parser (List ArmTree)
listed_arms n = λ i. arms_from n (length i) [] i

unfoldable pub arms_at : ℕ → Parser ArmsTree
arms_at n = do
  all ← eat class.All
  if all then pure arms.All else (do xs ← listed_arms n; pure (arms.Listed xs))

unfoldable pub skip_of : Parser (Option (List ℕ))
skip_of = do
  more ← eat class.Else
  if more then (do
    _ ← pass class.Skip
    n ← number
    pure (Some n)) else pure None

unfoldable pub statement_at : ℕ → Parser MatchTree
statement_at n = do
  _ ← pass class.Match
  all ← arms_at n
  skip ← skip_of
  pure (record { arms = all; skip = skip })

-- a statement, and nothing behind it
unfoldable pub whole_statement : ℕ → Parser MatchTree
whole_statement n = do
  t ← statement_at n
  _ ← finish
  pure t
