-- What names stand for in the body of a constructor.
use Rattle.std.specs.Prelude.{ℕ, ◌+◌, List, [], ◌∷◌, ◌++◌, map, take, Option, Some, None}
use Rattle.sled_parser.specs.declared.tree.OperandTree.{OperandTree}
use Rattle.sled_parser.specs.declared.tree.OperandTree.TheVariants.{Word, Extended, Typed}
use Rattle.sled_model.specs.declared.constructor.TypeId.{TypeId}
use Rattle.sled_parser.specs.declared.tree.PatternTree.{PatternTree}
use Rattle.sled_model.specs.declared.pattern.Pattern.{Pattern}
use Rattle.sled_model.specs.declared.pattern.Pattern.TheVariants.{Empty}
use Rattle.tree_meaning.specs.declared.scope.Meaning.TheVariants as meaning
use Rattle.tree_meaning.specs.Scopes.{Declared, type_named}
use Rattle.tree_meaning.specs.Patterns.{patterns_of}
use Rattle.constructor_scopes.specs.Makings.{Made}
use Rattle.operand_meaning.specs.Operands.{operand_name}

-- the type of a typed operand
abbrev pub operand_type : Declared → OperandTree → Option TypeId
operand_type declared (Word w) = type_named declared w
operand_type declared (Extended w) = None
operand_type declared (Typed n r) = type_named declared r

abbrev pub if_typed : OperandTree → ℕ → Option TypeId → List (List ℕ × ℕ)
if_typed o k None = []
if_typed o k (Some t) = (operand_name o, k) ∷ []

-- the names of the typed operands among these, each with its number; the first of these has number k
abbrev pub typed_from : Declared → ℕ → List OperandTree → List (List ℕ × ℕ)
typed_from declared k [] = []
typed_from declared k (o ∷ os) = if_typed o k (operand_type declared o) ++ typed_from declared (k + 1) os

abbrev pub typed_operands : Declared → List OperandTree → List (List ℕ × ℕ)
typed_operands declared os = typed_from declared 0 os

-- in a body the name of each typed operand stands for the operand
abbrev pub with_operands : Declared → List OperandTree → Declared
with_operands declared os = record declared {
  local_names = map (λ n. n.0) (typed_operands declared os);
  local_meanings = map (λ n. meaning.Operand n.1) (typed_operands declared os);
}

-- and the group that is the opcode for one of its members
abbrev pub with_member : Declared → List ℕ → Option Pattern → Declared
with_member declared opcode None = declared
with_member declared opcode (Some p) = record declared {
  local_names = declared.local_names ++ opcode ∷ [];
  local_meanings = declared.local_meanings ++ meaning.Pattern p ∷ [];
}

-- the scope whose last local name, of this number, stands for the pattern
abbrev pub with_last : Declared → ℕ → Pattern → Declared
with_last declared at p = record declared { local_meanings = take at declared.local_meanings ++ meaning.Pattern p ∷ [] }

-- outside of a body there are no local names
abbrev pub without_locals : Declared → Declared
without_locals declared = record declared { local_names = []; local_meanings = [] }

-- the first pattern, or no bytes where there is none
abbrev pub first_of : List Pattern → Pattern
first_of [] = Empty
first_of (p ∷ ps) = p

-- the body of a constructor that the declaration makes, in the scope of its operands; its labels are numbered by their places among these
abbrev pub body_of : Declared → List ℕ → List (List ℕ) → PatternTree → Made → Pattern
body_of declared opcode labels body made = first_of (patterns_of (with_member declared opcode made.member) labels body)

-- the body of each of them
abbrev pub bodies_of : Declared → List ℕ → List (List ℕ) → PatternTree → List Made → List Pattern
bodies_of declared opcode labels body ms = map (body_of declared opcode labels body) ms
