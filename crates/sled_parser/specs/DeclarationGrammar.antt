-- The rules of declarations, each as a parser.
use Rattle.std.specs.Prelude.{◌≡◌, ℕ, zero, suc, Bool, ◌||◌, if◌then◌else◌, List, [], ◌∷◌, ◌++◌, length, Option, Some, None, Result, Ok, Err}
use Rattle.std.specs.declared.vec.Vec.{Vec}
use Rattle.sled_parser.specs.declared.class.Class.{Class}
use Rattle.sled_parser.specs.declared.class.Class.TheVariants as class
use Rattle.sled_parser.specs.declared.tree.FieldTree.{FieldTree}
use Rattle.sled_parser.specs.declared.tree.ItemTree.{ItemTree}
use Rattle.sled_parser.specs.declared.tree.ItemTree.TheVariants as item
use Rattle.sled_parser.specs.declared.tree.OperandTree.{OperandTree}
use Rattle.sled_parser.specs.declared.tree.OperandTree.TheVariants as operand
use Rattle.sled_parser.specs.declared.tree.Section.{Section}
use Rattle.sled_parser.specs.declared.tree.Section.TheVariants as section
use Rattle.sled_parser.specs.declared.tree.Decl.{Decl}
use Rattle.sled_parser.specs.declared.tree.Decl.TheVariants as decl
use Rattle.sled_parser.specs.declared.fault.Fault.{Fault}
use Rattle.sled_parser.specs.declared.fault.Fault.TheVariants as fault
use Rattle.sled_parser.specs.Pieces.{Input, Outcome, Parser, ◌>>=◌, ◌>>◌, pure, refuse, peek, step, eat, pass, take_text, looks, sees}
use Rattle.sled_parser.specs.Grammar.{number, chain, pattern_at}
use Rattle.sled_parser.specs.EquationGrammar.{many_from, name, braced_equations}
use Rattle.sled_parser.specs.Declarations.{section_after}

-- ---- classes

unfoldable pub field_of : Parser FieldTree
field_of = do
  w ← name
  lo ← number
  _ ← pass class.Colon
  hi ← number
  pure (record { name = w; lo = lo; hi = hi })

abbrev pub fields_of : Parser (List FieldTree)
fields_of = λ i. many_from (sees class.Name) field_of (length i) [] i

-- after the class's name
unfoldable pub class_of : List ℕ → Parser Decl
class_of w = do
  _ ← pass class.Open
  width ← number
  little ← eat class.Little
  _ ← pass class.Close
  fields ← fields_of
  pure (decl.Class w width little fields)

-- after `fields`
unfoldable pub class_decl : Parser Decl
class_decl = do
  _ ← pass class.Of
  w ← name
  class_of w

-- ---- definitions of patterns

abbrev pub item_by : Class → Parser ItemTree
item_by class.Name = take_text >>= (λ w. pure (item.Name w))
item_by class.Underscore = step >> pure item.Skip
item_by _ = refuse

unfoldable pub item_of : Parser ItemTree
item_of = peek >>= item_by

abbrev pub sees_item : Input → Bool
sees_item i = sees class.Name i || sees class.Underscore i

abbrev pub items_from : Parser (List ItemTree)
items_from = λ i. many_from sees_item item_of (length i) [] i

-- after an opening bracket, with the closing one
unfoldable pub listed_items : Parser (Option (List ItemTree))
listed_items = do
  all ← items_from
  _ ← pass class.CloseBracket
  pure (Some all)

unfoldable pub items_of : Parser (Option (List ItemTree))
items_of = do
  is_group ← eat class.OpenBracket
  if is_group then listed_items else pure None

unfoldable pub definition_at : ℕ → Parser Decl
definition_at n = do
  w ← name
  items ← items_of
  _ ← pass class.Is
  pattern ← pattern_at n
  pure (decl.Definition w items pattern)

-- ---- constructors

unfoldable pub typed : List ℕ → Parser OperandTree
typed w = do
  is_typed ← eat class.Colon
  if is_typed then (do result ← name; pure (operand.Typed w result)) else pure (operand.Word w)

-- after a name
unfoldable pub operand_after : List ℕ → Parser OperandTree
operand_after w = do
  is_extended ← eat class.Bang
  if is_extended then pure (operand.Extended w) else typed w

unfoldable pub operand_of : Parser OperandTree
operand_of = name >>= operand_after

-- after an opening bracket, with the closing one
unfoldable pub operands_of : Parser (List OperandTree)
operands_of = do
  none ← eat class.Close
  if none then pure [] else (do
    all ← chain operand_of class.Comma
    _ ← pass class.Close
    pure all)

unfoldable pub result_of : Parser (Option (List ℕ))
result_of = do
  is_typed ← eat class.Colon
  if is_typed then (do w ← name; pure (Some w)) else pure None

-- after the operands
unfoldable pub constructor_with : ℕ → List ℕ → List OperandTree → Parser Decl
constructor_with n w operands = do
  result ← result_of
  equations ← braced_equations
  _ ← pass class.Is
  body ← pattern_at n
  pure (decl.ConstructorDecl w operands result equations body)

unfoldable pub constructor_at : ℕ → Parser Decl
constructor_at n = do
  w ← name
  _ ← pass class.Open
  operands ← operands_of
  constructor_with n w operands

-- ---- descriptions

-- a definition in a section
abbrev pub definition_in : ℕ → Option Section → Parser Decl
definition_in n None = refuse
definition_in n (Some section.Patterns) = definition_at n
definition_in n (Some section.Constructors) = constructor_at n

abbrev pub declaration_by : ℕ → Option Section → Class → Parser Decl
declaration_by n s class.Fields = step >> class_decl
declaration_by n s class.Patterns = step >> pure (decl.Heading section.Patterns)
declaration_by n s class.Constructors = step >> pure (decl.Heading section.Constructors)
declaration_by n s _ = definition_in n s

-- The number bounds how many brackets may open inside one another in a pattern.
unfoldable pub declaration_at : ℕ → Option Section → Parser Decl
declaration_at n s = peek >>= declaration_by n s

unfoldable pub declarations_from : ℕ → ℕ → Option Section → List Decl → Parser (List Decl)
declarations_from n zero s found = pure found
declarations_from n (suc turns) s found = do
  none ← looks class.End
  if none then pure found else (do d ← declaration_at n s; declarations_from n turns (section_after s d) (found ++ d ∷ []))

-- the declarations of a whole text
abbrev pub declarations_at : ℕ → Parser (List Decl)
declarations_at n = λ i. declarations_from n (length i) None [] i

-- what a function that reads a list ensures: the parser's outcome, unless memory fails
abbrev pub ReadsAll : {A Z : Type 0} → Outcome (List A) → Result (Vec A Z) Fault → Input → Type 0
ReadsAll outcome (Ok v) new = outcome ≡ Ok (v.items, new)
ReadsAll outcome (Err fault.Syntax) new = outcome ≡ Err new
ReadsAll outcome (Err fault.NoMemory) new = Unit {0}
