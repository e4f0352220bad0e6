-- The measures of operands, some of which are given.
use Rattle.std.specs.Prelude.{ℕ, List, [], get_or, All}
use Rattle.token_bits.specs.declared.tokens.Tokens.{Tokens}
use Rattle.sled_model.specs.declared.constructor.OperandKind.{OperandKind}
use Rattle.sled_model.specs.declared.constructor.Constructor.{Constructor}
use Rattle.sled_model.specs.Measures.{each_from, weighed, operand_weight, sized, operand_size}
use Rattle.sled_model.specs.Leaves.{IsNoApplication, AllLeaves}

-- no body holds an application
abbrev pub ApplyNothing : List Constructor → Type 0
ApplyNothing constructors = All (λ (c : Constructor). AllLeaves IsNoApplication c.body) constructors

-- the weight of operand k: the given one, or that of its kind over the constructors before
unfoldable pub operand_weights : Tokens → List ℕ → List Constructor → List OperandKind → ℕ → ℕ
operand_weights tokens given before kinds k = get_or given k (operand_weight (each_from (weighed tokens) [] before) kinds k)

-- the size of operand k
unfoldable pub operand_sizes : List ℕ → List Constructor → List OperandKind → ℕ → ℕ
operand_sizes given before kinds k = get_or given k (operand_size (each_from sized [] before) kinds k)
