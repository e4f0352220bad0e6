-- The declaration of a constructor, in its parts.
use Rattle.std.specs.Prelude.{ℕ, List, Option}
use Rattle.sled_parser.specs.declared.tree.OperandTree.{OperandTree}
use Rattle.sled_parser.specs.declared.tree.EqTree.{EqTree}
use Rattle.sled_parser.specs.declared.tree.PatternTree.{PatternTree}
use Rattle.constructor_meaning.specs.declared.tree.ConstructorTree.{ConstructorTree}

-- `opcode(operands) : result { equations } is body`
pub record Constructing : Type 0 where
  pub opcode : List ℕ
  pub operands : List OperandTree
  pub result : Option (List ℕ)
  pub equations : List EqTree
  pub body : PatternTree

-- the declaration behind the references
abbrev pub constructing : ConstructorTree → Constructing
constructing t = record { opcode = t.opcode.now; operands = t.operands.now; result = t.result.now; equations = t.equations.now; body = t.body.now }
