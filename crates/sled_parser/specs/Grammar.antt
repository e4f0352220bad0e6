-- The rules of patterns, each as a parser.
use Rattle.std.specs.Prelude.{ℕ, zero, suc, Bool, if◌then◌else◌, List, [], ◌∷◌, ◌++◌, length, Option, Some, None}
use Rattle.sled_parser.specs.declared.class.Class.{Class}
use Rattle.sled_parser.specs.declared.class.Class.TheVariants as class
use Rattle.sled_parser.specs.declared.pattern.Level.{Level}
use Rattle.sled_parser.specs.declared.pattern.Level.TheVariants as level
use Rattle.sled_parser.specs.declared.tree.PatternTree.{PatternTree}
use Rattle.sled_parser.specs.declared.tree.PatternTree.TheVariants as p
use Rattle.sled_parser.specs.declared.tree.ArgumentTree.{ArgumentTree}
use Rattle.sled_parser.specs.declared.tree.ArgumentTree.TheVariants as argument
use Rattle.sled_parser.specs.declared.tree.RelationTree.{RelationTree}
use Rattle.sled_parser.specs.declared.tree.RelationTree.TheVariants as relation
use Rattle.sled_parser.specs.declared.tree.ValueTree.{ValueTree}
use Rattle.sled_parser.specs.declared.tree.ValueTree.TheVariants as value
use Rattle.sled_parser.specs.Pieces.{Parser, ◌>>=◌, ◌>>◌, pure, refuse, peek, step, eat, pass, take_text, looks, sees_label}

-- ---- lists. The number bounds the turns, and each turn takes a lexeme, so the count of lexemes is enough.

-- items with a mark between two
unfoldable pub chain_from : {A : Type 0} → Parser A → Class → ℕ → List A → Parser (List A)
chain_from item mark zero found = refuse
chain_from item mark (suc n) found = do
  x ← item
  more ← eat mark
  if more then chain_from item mark n (found ++ x ∷ []) else pure (found ++ x ∷ [])

abbrev pub chain : {A : Type 0} → Parser A → Class → Parser (List A)
chain item mark = λ i. chain_from item mark (length i) [] i

-- numbers, as many as come
unfoldable pub numbers_from : ℕ → List (List ℕ) → Parser (List (List ℕ))
numbers_from zero found = pure found
numbers_from (suc n) found = do
  more ← looks class.Number
  if more then (do x ← take_text; numbers_from n (found ++ x ∷ [])) else pure found

abbrev pub numbers : List ℕ → Parser (List (List ℕ))
numbers first = λ i. numbers_from (length i) (first ∷ []) i

-- ---- values

unfoldable pub number : Parser (List ℕ)
number = do
  is_number ← looks class.Number
  if is_number then take_text else refuse

unfoldable pub range_from : List ℕ → Parser ValueTree
range_from first = do
  last ← number
  _ ← pass class.CloseBrace
  pure (value.Range first last)

unfoldable pub listed_from : List ℕ → Parser ValueTree
listed_from first = do
  all ← numbers first
  _ ← pass class.CloseBrace
  pure (value.Listed all)

unfoldable pub braced : Parser ValueTree
braced = do
  first ← number
  is_range ← eat class.To
  if is_range then range_from first else listed_from first

unfoldable pub value_by : Bool → Parser ValueTree
value_by is_open = if is_open then braced else (do n ← number; pure (value.One n))

unfoldable pub value_of : Parser ValueTree
value_of = do
  is_open ← eat class.OpenBrace
  value_by is_open

abbrev pub relation_of : Class → Option RelationTree
relation_of class.Equal = Some relation.Equal
relation_of class.Differs = Some relation.Differs
relation_of class.Below = Some relation.Below
relation_of class.AtMost = Some relation.AtMost
relation_of class.Above = Some relation.Above
relation_of class.AtLeast = Some relation.AtLeast
relation_of _ = None

-- ---- arguments

-- after the opening bracket
unfoldable pub arguments : Parser ArgumentTree → Parser (List ArgumentTree)
arguments item = do
  none ← eat class.Close
  if none then pure [] else (do
    all ← chain item class.Comma
    _ ← pass class.Close
    pure all)

unfoldable pub inner : Parser (List ArgumentTree) → List ℕ → Parser ArgumentTree
inner rest w = do
  applied ← eat class.Open
  if applied then (do all ← rest; pure (argument.Inner w all)) else pure (argument.Name w)

abbrev pub argument_by : Parser (List ArgumentTree) → Class → Parser ArgumentTree
argument_by rest class.Underscore = step >> pure argument.Any
argument_by rest class.Name = take_text >>= inner rest
argument_by rest _ = refuse

unfoldable pub argument_of : Parser (List ArgumentTree) → Parser ArgumentTree
argument_of rest = peek >>= argument_by rest

-- The number bounds how many brackets may open inside one another.
unfoldable pub arguments_at : ℕ → Parser (List ArgumentTree)
arguments_at zero = refuse
arguments_at (suc n) = arguments (argument_of (arguments_at n))

-- ---- patterns

unfoldable pub limited : List ℕ → Option RelationTree → Parser PatternTree
limited w None = pure (p.Word w)
limited w (Some r) = do
  _ ← step
  v ← value_of
  pure (p.Limit w r v)

unfoldable pub unapplied : List ℕ → Parser PatternTree
unapplied w = peek >>= (λ k. limited w (relation_of k))

-- after a name
unfoldable pub named : Parser (List ArgumentTree) → List ℕ → Parser PatternTree
named rest w = do
  applied ← eat class.Open
  if applied then (do all ← rest; pure (p.Apply w all)) else unapplied w

unfoldable pub grouped : Parser PatternTree → Parser PatternTree
grouped whole = do
  x ← whole
  _ ← pass class.Close
  pure (p.Group x)

abbrev pub atom_by : Parser PatternTree → Parser (List ArgumentTree) → Class → Parser PatternTree
atom_by whole rest class.Epsilon = step >> pure p.Empty
atom_by whole rest class.Open = step >> grouped whole
atom_by whole rest class.Name = take_text >>= named rest
atom_by whole rest _ = refuse

unfoldable pub atom : Parser PatternTree → Parser (List ArgumentTree) → Parser PatternTree
atom whole rest = peek >>= atom_by whole rest

unfoldable pub loose : Parser PatternTree → Parser (List ArgumentTree) → Parser PatternTree
loose whole rest = do
  x ← atom whole rest
  is_loose ← eat class.Ellipsis
  pure (if is_loose then p.Loose x else x)

unfoldable pub labelled : Parser PatternTree → Parser (List ArgumentTree) → Parser PatternTree
labelled whole rest = do
  w ← take_text
  _ ← step
  x ← loose whole rest
  pure (p.Labelled w x)

unfoldable pub post : Parser PatternTree → Parser (List ArgumentTree) → Parser PatternTree
post whole rest = λ i. if sees_label i then labelled whole rest i else loose whole rest i

abbrev pub separator : Level → Class
separator level.Either = class.Bar
separator level.Chain = class.Semicolon
separator level.Both = class.And

abbrev pub node : Level → List PatternTree → PatternTree
node level.Either = p.Either
node level.Chain = p.Chain
node level.Both = p.Both

-- one alone is no chain
unfoldable pub joined : Level → List PatternTree → PatternTree
joined l (x ∷ []) = x
joined l xs = node l xs

unfoldable pub level_of : Level → Parser PatternTree → Parser PatternTree
level_of l item = do
  all ← chain item (separator l)
  pure (joined l all)

-- what stands between the separators of a level
abbrev pub member : Parser PatternTree → Parser (List ArgumentTree) → Level → Parser PatternTree
member whole rest level.Both = post whole rest
member whole rest level.Chain = level_of level.Both (post whole rest)
member whole rest level.Either = level_of level.Chain (level_of level.Both (post whole rest))

unfoldable pub at_level : Parser PatternTree → Parser (List ArgumentTree) → Level → Parser PatternTree
at_level whole rest l = level_of l (member whole rest l)

unfoldable pub pattern_at : ℕ → Parser PatternTree
pattern_at zero = refuse
pattern_at (suc n) = at_level (pattern_at n) (arguments_at n) level.Either
