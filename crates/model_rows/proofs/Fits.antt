-- When nothing is wrong at a node, and when something is.
use Rattle.std.proofs.Common.{◌≡◌, ℕ, zero, suc, ◌+◌, List, [], ◌∷◌, Option, Some, None, slice_get, All, ℤ, pos, refl, arith, subst, take}
use Rattle.std.specs.List.{cons_option}
use Rattle.std.proofs.lemmas.Int.{ints}
use Rattle.std.proofs.lemmas.List.Elements.{All-nil, All-cons}
use Rattle.token_bits.proofs.Sound.{All-slice_get}
use Rattle.sled_model.specs.declared.constructor.Constructor.{Constructor}
use Rattle.sled_model.specs.declared.constructor.Equation.{Equation}
use Rattle.sled_model.specs.declared.spec.Spec.{Spec}
use Rattle.sled_model.specs.Equations.{Setting, IsSatisfied, EachSatisfied, IsBetween, AreFieldValues, half_of}
use Rattle.sled_model.specs.Solutions.{FieldsFit, IsFirstUnsolvable, equations_at, setting_of}
use Rattle.sled_model.specs.SolvingOrder.{solving_order}
use Rattle.sled_model.specs.Instances.{numbers_of}
use Rattle.sled_model.specs.Encoding.{EncodeFault, Node, IsFirstUnfit, IsFaultAt, unfit, unsolvable, node_labels}
use Rattle.model_rows.specs.Description.{tokens}

-- ---- fields

-- the values of x and y, and of no other field
abbrev pub assigned : ℤ → ℤ → ℕ → ℤ
assigned v w zero = v
assigned v w (suc zero) = w
assigned v w (suc (suc f)) = pos 0

pub assigned_values : (v w : ℤ) → IsBetween (pos 0) (pos 16) v → IsBetween (pos 0) (pos 16) w → AreFieldValues (half_of tokens) (assigned v w)
assigned_values v w h k zero = h
assigned_values v w h k (suc zero) = k
assigned_values v w h k (suc (suc zero)) = record { at_least = omega (arith, ints); below = omega (arith, ints) }
assigned_values v w h k (suc (suc (suc f))) = record { at_least = omega (arith, ints); below = omega (arith, ints) }

-- ---- equations

module _ (P : Equation → Type 0) (es : List Equation) (h : All P es) where
  all_with : (e : Option Equation) (k : ℕ) (more : List Equation) → slice_get es k ≡ e → All P more → All P (cons_option e more)
  all_with None k more e m = m
  all_with (Some x) k more e m = All-cons P x more (All-slice_get P es k x e h) m

  pub all_at : (ks : List ℕ) → All P (equations_at es ks)
  all_at [] = All-nil P
  all_at (k ∷ ks) = all_with (slice_get es k) k (equations_at es ks) refl (all_at ks)

-- with these fields every equation holds, and so none is the first without a solution
pub solvable : (setting : Setting) (c : Constructor) (fields : ℕ → ℤ) → FieldsFit setting c.operands fields → EachSatisfied setting fields c.equations → (n : ℕ) → IsFirstUnsolvable setting c n → ⊥
solvable setting c fields fit h n first = first.after (fields, fit, all_at (IsSatisfied setting fields) c.equations h (take (first.place + 1) (solving_order c)))

-- ---- nodes

abbrev pub node_setting : Spec → ℕ → Node → Setting
node_setting spec location node = setting_of spec.tokens (numbers_of node.operands) (node_labels spec location node)

module _ (spec : Spec) (location : ℕ) (node : Node) (c : Constructor) (known : slice_get spec.constructors node.constructor.0 ≡ Some c) where
  pub no_fault : ((n : ℕ) → IsFirstUnfit spec.tokens (node.number + 1) c.operands node.operands n → ⊥) → ((n : ℕ) → IsFirstUnsolvable (node_setting spec location node) c n → ⊥)
      → (fault : EncodeFault) → IsFaultAt spec location node fault → ⊥
  no_fault fits solves fault (unfit {operand = n} d k h) =
      let same : d ≡ c = cc in fits n (subst (λ (c : Constructor). IsFirstUnfit spec.tokens (node.number + 1) c.operands node.operands n) same h)
  no_fault fits solves fault (unsolvable {equation = n} d k f h) = let same : d ≡ c = cc in solves n (subst (λ c. IsFirstUnsolvable (node_setting spec location node) c n) same h)
