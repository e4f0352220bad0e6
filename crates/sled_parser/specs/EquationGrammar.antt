-- The rules of equations, each as a parser.
use Rattle.std.specs.Prelude.{ℕ, zero, suc, Bool, ◌||◌, if◌then◌else◌, List, [], ◌∷◌, ◌++◌, length, Some, None, Ok}
use Rattle.sled_parser.specs.declared.class.Class.TheVariants as class
use Rattle.sled_parser.specs.declared.tree.PlaceTree.{PlaceTree}
use Rattle.sled_parser.specs.declared.tree.PlaceTree.TheVariants as place
use Rattle.sled_parser.specs.declared.tree.TermTree.{TermTree}
use Rattle.sled_parser.specs.declared.tree.TermTree.TheVariants as term
use Rattle.sled_parser.specs.declared.tree.SumTree.{SumTree}
use Rattle.sled_parser.specs.declared.tree.EqTree.{EqTree}
use Rattle.sled_parser.specs.Pieces.{Input, Parser, ◌>>=◌, pure, refuse, step, eat, pass, take_text, looks, sees}
use Rattle.sled_parser.specs.Grammar.{number, chain}

-- items, as many as come: one more where `more` sees one. The number bounds the turns, and each turn takes a lexeme.
unfoldable pub many_from : {A : Type 0} → (Input → Bool) → Parser A → ℕ → List A → Parser (List A)
many_from more item zero found = pure found
many_from more item (suc n) found = λ i. if more i then (item >>= (λ x. many_from more item n (found ++ x ∷ []))) i else Ok (found, i)

-- ---- places

unfoldable pub name : Parser (List ℕ)
name = do
  is_name ← looks class.Name
  if is_name then take_text else refuse

-- after `@`
unfoldable pub slice_of : List ℕ → Parser PlaceTree
slice_of w = do
  _ ← pass class.OpenBracket
  lo ← number
  _ ← pass class.Colon
  hi ← number
  _ ← pass class.CloseBracket
  pure (place.Slice w lo hi)

unfoldable pub sliced : List ℕ → Parser PlaceTree
sliced w = do
  is_slice ← eat class.At
  if is_slice then slice_of w else pure (place.Word w)

-- after a name
unfoldable pub placed : List ℕ → Parser PlaceTree
placed w = do
  is_extended ← eat class.Bang
  if is_extended then pure (place.Extended w) else sliced w

unfoldable pub place_of : Parser PlaceTree
place_of = name >>= placed

-- ---- terms

-- after a number
unfoldable pub numbered : Bool → List ℕ → Parser TermTree
numbered minus n = do
  is_factor ← eat class.Star
  if is_factor then (do at ← place_of; pure (term.Place minus (Some n) at)) else pure (term.Number minus n)

unfoldable pub term_of : Bool → Parser TermTree
term_of minus = do
  is_number ← looks class.Number
  if is_number then take_text >>= numbered minus else (do at ← place_of; pure (term.Place minus None at))

unfoldable pub first_term : Parser TermTree
first_term = do
  minus ← eat class.Minus
  term_of minus

abbrev pub sees_sign : Input → Bool
sees_sign i = sees class.Minus i || sees class.Plus i

-- a sign and a term
unfoldable pub later_term : Parser TermTree
later_term = do
  minus ← looks class.Minus
  _ ← step
  term_of minus

abbrev pub terms_after : TermTree → Parser (List TermTree)
terms_after first = λ i. many_from sees_sign later_term (length i) (first ∷ []) i

-- ---- sums and equations

unfoldable pub sum_of : Parser SumTree
sum_of = do
  first ← first_term
  all ← terms_after first
  pure (record { terms = all })

unfoldable pub equation_of : Parser EqTree
equation_of = do
  left ← sum_of
  _ ← pass class.Equal
  right ← sum_of
  pure (record { left = left; right = right })

-- after an opening brace
unfoldable pub equations_of : Parser (List EqTree)
equations_of = do
  all ← chain equation_of class.Comma
  _ ← pass class.CloseBrace
  pure all

-- no braces have no equations
unfoldable pub braced_equations : Parser (List EqTree)
braced_equations = do
  is_braced ← eat class.OpenBrace
  if is_braced then equations_of else pure []
