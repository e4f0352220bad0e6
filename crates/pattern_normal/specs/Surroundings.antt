-- What a pattern stands among, and what it measures there.
use Rattle.std.specs.Prelude.{ℕ, List, []}
use Rattle.token_bits.specs.declared.tokens.Tokens.{Tokens}
use Rattle.sled_model.specs.declared.constructor.OperandKind.{OperandKind}
use Rattle.sled_model.specs.declared.constructor.Constructor.{Constructor}
use Rattle.sled_model.specs.declared.pattern.Pattern.{Pattern}
use Rattle.sled_model.specs.Results.{Known, Context, known_from}
use Rattle.sled_model.specs.Measures.{Weighed, Measured, each_from, weight, operand_weight, measured, longest, operand_len}
use Rattle.pattern_normal.specs.declared.context.BodyContext.{BodyContext}

-- the constructors before, and the kinds of the operands of the body that a pattern stands in
pub record Surroundings : Type 0 where
  pub tokens : Tokens
  pub constructors : List Constructor
  pub kinds : List OperandKind

abbrev pub around : BodyContext → Surroundings
around near = record { tokens = near.tokens.now; constructors = near.constructors.now; kinds = near.kinds.now }

-- what the body of a constructor that is declared after these stands among
abbrev pub inside : Tokens → List Constructor → Constructor → Surroundings
inside tokens before c = record { tokens = tokens; constructors = before; kinds = c.operands }

-- a constructor that has one weight, whatever an application of it asks of its operands
abbrev pub open_weighed : Tokens → List Weighed → Constructor → Weighed
open_weighed tokens known c =
    let w = weight tokens known (operand_weight known c.operands) c.body in record { constructor = c; body = λ (operands : ℕ → ℕ). w; weight = w }

abbrev pub open_weights : Tokens → List Constructor → List Weighed
open_weights tokens constructors = each_from (open_weighed tokens) [] constructors

abbrev pub lens_of : Tokens → List Constructor → List Measured
lens_of tokens constructors = each_from (measured tokens) [] constructors

abbrev pub known_of : Surroundings → List Known
known_of s = known_from s.tokens [] s.constructors

abbrev pub context_of : Surroundings → Context
context_of s = record { tokens = s.tokens; operands = s.kinds; known = known_of s }

-- the weight of a pattern, where an application has the whole weight of its constructor
abbrev pub open_weight : Surroundings → Pattern → ℕ
open_weight s p = weight s.tokens (open_weights s.tokens s.constructors) (operand_weight (open_weights s.tokens s.constructors) s.kinds) p

abbrev pub len_in : Surroundings → Pattern → ℕ
len_in s p = longest s.tokens (lens_of s.tokens s.constructors) (operand_len (lens_of s.tokens s.constructors) s.kinds) p
