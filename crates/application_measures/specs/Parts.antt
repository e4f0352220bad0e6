-- The parts of a pattern, and the pattern over them: operand k of the whole stands for part k.
use Rattle.std.specs.Prelude.{ℕ, zero, suc, ◌≡◌, true, ◌&&◌, List, [], ◌∷◌, ◌++◌, get_or}
use Rattle.token_bits.specs.declared.tokens.Tokens.{Tokens}
use Rattle.sled_model.specs.declared.pattern.Pattern.{Pattern}
use Rattle.sled_model.specs.declared.pattern.Pattern.TheVariants.{Operand}
use Rattle.sled_model.specs.Measures.{capped, weight, size, longest}
use Rattle.sled_model.specs.Shapes.{shapes, conjunctions_agree, chains_are_closed, sides_have_one_shape}
use Rattle.pattern_shapes.specs.declared.form.Form.{Form}
use Rattle.pattern_shapes.specs.Forms.{operand_context, IsForm}
use Rattle.application_measures.specs.declared.measures.ArmMeasures.{ArmMeasures}
use Rattle.application_measures.specs.declared.parts.Parts.{Parts}

-- the length of a pattern that applies nothing, over operands of these lengths
abbrev pub len_among : Tokens → List ℕ → Pattern → ℕ
len_among tokens operands p = longest tokens [] (λ k. get_or operands k 0) p

abbrev pub no_parts : Parts
no_parts = record { shapes = []; weights = []; sizes = []; lens = []; agree = true; closed = true; alike = true }

-- the parts, with one more
abbrev pub with_part : Parts → ArmMeasures → Parts
with_part parts m = record {
  shapes = parts.shapes ++ m.form.shapes ∷ [];
  weights = parts.weights ++ m.weight ∷ [];
  sizes = parts.sizes ++ m.size ∷ [];
  lens = parts.lens ++ m.len ∷ [];
  agree = parts.agree && m.form.agree;
  closed = parts.closed && m.form.closed;
  alike = parts.alike && m.form.alike;
}

-- the form, where the parts too are as the language asks
abbrev pub with_asked : Parts → Form → Form
with_asked parts form = record { shapes = form.shapes; agree = form.agree && parts.agree; closed = form.closed && parts.closed; alike = form.alike && parts.alike }

-- the measures are those of a pattern without applications over these parts, and all of it is as the language asks where the parts are too
pub record AreOver (tokens : Tokens) (parts : Parts) (whole : Pattern) (m : ArmMeasures) : Type 0 where
  pub form : IsForm (shapes (operand_context tokens parts.shapes) whole)
      (conjunctions_agree (operand_context tokens parts.shapes) whole && parts.agree)
      (chains_are_closed (operand_context tokens parts.shapes) whole && parts.closed)
      (sides_have_one_shape (operand_context tokens parts.shapes) whole && parts.alike) m.form
  pub weight : m.weight ≡ capped (weight tokens [] (λ k. get_or parts.weights k 0) whole)
  pub size : m.size ≡ capped (size [] (λ k. get_or parts.sizes k 0) whole)
  pub len : m.len ≡ capped (len_among tokens parts.lens whole)

-- the first n operands
unfoldable pub numbered : ℕ → List Pattern
numbered zero = []
numbered (suc n) = numbered n ++ Operand n ∷ []
