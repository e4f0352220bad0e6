-- What a pattern of an arm comes to, over a description.
use Rattle.std.specs.Prelude.{ℕ, ◌≡◌, ◌<◌, ◌≤◌, List, [], length, map, get_or, slice_get, slice_set, Option, Some, None, unwrap_or, option_and_then}
use Rattle.std.specs.List.{list_all, AllZip}
use Rattle.sled_model.specs.declared.shape.Shape.{Shape}
use Rattle.sled_model.specs.declared.constructor.OperandKind.{OperandKind}
use Rattle.sled_model.specs.declared.spec.Spec.{Spec}
use Rattle.sled_model.specs.declared.pattern.Argument.{Argument}
use Rattle.sled_model.specs.declared.pattern.Pattern.{Pattern}
use Rattle.sled_model.specs.declared.pattern.Pattern.TheVariants.{Label', Both', Either', Chain', Loose', Apply'}
use Rattle.sled_model.specs.Measures.{Weighed, capped, each_from, weighed, operand_weight, argument_weight, pattern_weight, pattern_size, pattern_len}
use Rattle.sled_model.specs.Shapes.{spec_shapes, known_shapes, shapes, shapes_of_argument, operand_shapes, conjunctions_agree, chains_are_closed, sides_have_one_shape}
use Rattle.pattern_shapes.specs.Forms.{SameMembers, IsFormOf}
use Rattle.application_measures.specs.declared.applied.Operands.{Operands}
use Rattle.application_measures.specs.declared.measures.ArmMeasures.{ArmMeasures}
use Rattle.application_measures.specs.declared.parts.Parts.{Parts}

-- the measures are the pattern's
pub record AreArmMeasures (spec : Spec) (p : Pattern) (m : ArmMeasures) : Type 0 where
  pub form : IsFormOf (spec_shapes spec) p m.form
  pub weight : m.weight ≡ capped (pattern_weight spec p)
  pub size : m.size ≡ capped (pattern_size spec p)
  pub len : m.len ≡ capped (pattern_len spec p)

-- a pattern that neither has parts nor applies a constructor
abbrev pub IsPlainLeaf : Pattern → Type 0
IsPlainLeaf (Label' l s p) = ⊥
IsPlainLeaf (Both' s ps) = ⊥
IsPlainLeaf (Either' s ps) = ⊥
IsPlainLeaf (Chain' s ps) = ⊥
IsPlainLeaf (Loose' s p) = ⊥
IsPlainLeaf (Apply' k s arguments) = ⊥
IsPlainLeaf _ = Unit {0}

-- the parts are these patterns
pub record ArePartsOf (spec : Spec) (ps : List Pattern) (parts : Parts) : Type 0 where
  pub shapes : AllZip SameMembers parts.shapes (map (shapes (spec_shapes spec)) ps)
  pub weights : parts.weights ≡ map (λ p. capped (pattern_weight spec p)) ps
  pub sizes : parts.sizes ≡ map (λ p. capped (pattern_size spec p)) ps
  pub lens : parts.lens ≡ map (λ p. capped (pattern_len spec p)) ps
  pub agree : parts.agree ≡ list_all (conjunctions_agree (spec_shapes spec)) ps
  pub closed : parts.closed ≡ list_all (chains_are_closed (spec_shapes spec)) ps
  pub alike : parts.alike ≡ list_all (sides_have_one_shape (spec_shapes spec)) ps

-- ---- applications

-- the constructors of the description with their weights
abbrev pub weights_of : Spec → List Weighed
weights_of spec = each_from (weighed spec.tokens) [] spec.constructors

-- argument number j, where it is an inner application, or else what the operand has
abbrev pub argument_or : {A : Type 0} → List (Option A) → ℕ → A → A
argument_or arguments j other = unwrap_or (option_and_then (λ a. a) (slice_get arguments j)) other

-- the shapes, and the weight, of an argument that is an application
abbrev pub inner_shapes : Spec → Argument → Option (List Shape)
inner_shapes spec a = shapes_of_argument (spec_shapes spec) a

abbrev pub inner_weight : Spec → Argument → Option ℕ
inner_weight spec a = argument_weight spec.tokens (weights_of spec) (λ k. 0) a

-- each operand has what its type has, or the inner application that is its argument
pub record AreOperandsOf (spec : Spec) (kinds : List OperandKind) (arguments : List Argument) (operands : Operands) : Type 0 where
  pub shape_count : length operands.shapes ≡ length kinds
  pub weight_count : length operands.weights ≡ length kinds
  pub shapes : (j : ℕ) → j < length kinds
      → SameMembers (get_or operands.shapes j []) (argument_or (map (inner_shapes spec) arguments) j (operand_shapes (known_shapes spec) kinds j))
  pub weights : (j : ℕ) → j < length kinds
      → get_or operands.weights j 0 ≡ capped (argument_or (map (inner_weight spec) arguments) j (operand_weight (weights_of spec) kinds j))

-- what the inner application comes to that the argument is, or none where it is no application
abbrev pub IsInner : Spec → Argument → Option ArmMeasures → Type 0
IsInner spec a None = (inner_shapes spec a ≡ None) × (inner_weight spec a ≡ None)
IsInner spec a (Some m) =
    (ss : List Shape) × (w : ℕ) × (inner_shapes spec a ≡ Some ss) × SameMembers m.form.shapes ss × (inner_weight spec a ≡ Some w) × (m.weight ≡ capped w)

-- the operands, before and after an inner application was put in place of number j, where it is one and there is such an operand
abbrev pub IsPut : Option ArmMeasures → ℕ → Operands → Operands → Type 0
IsPut None j old new = new ≡ old
IsPut (Some m) j old new =
    (j < length old.shapes → new ≡ record { shapes = slice_set old.shapes j m.form.shapes; weights = slice_set old.weights j m.weight })
    × (length old.shapes ≤ j → new ≡ old)
