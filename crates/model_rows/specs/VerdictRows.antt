-- Rows and a law on what may be wrong with an arm.
use Rattle.std.specs.Prelude.{ℕ, ◌≡◌, List, [], ◌∷◌}
use Rattle.sled_model.specs.declared.pattern.Pattern.{Pattern}
use Rattle.sled_model.specs.declared.pattern.Pattern.TheVariants.{Limit, Bind, Both, Either, Chain}
use Rattle.sled_model.specs.declared.pattern.Relation.TheVariants.{Equal}
use Rattle.sled_model.specs.declared.spec.Spec.{Spec}
use Rattle.sled_model.specs.declared.statement.Arm.{Arm}
use Rattle.sled_model.specs.Verdicts.{Verdict, Clear, Shadowed, Twofold, IsVerdict}
use Rattle.model_rows.specs.Description.{description, x, y}

abbrev pub arm_of : Pattern → Arm
arm_of p = record { pattern = p; names = []; action = [] }

abbrev pub x_is : ℕ → Arm
x_is n = arm_of (Limit x Equal n)

abbrev pub y_is : ℕ → Arm
y_is n = arm_of (Limit y Equal n)

-- `x = m & y = n`
abbrev pub both_are : ℕ → ℕ → Arm
both_are m n = arm_of (Both (Limit x Equal m ∷ Limit y Equal n ∷ []))

-- `x = 1 | x = 1`
abbrev pub one_twice : Arm
one_twice = arm_of (Either (Limit x Equal 1 ∷ Limit x Equal 1 ∷ []))

-- `x & y | y & x`
abbrev pub both_orders : Arm
both_orders = arm_of (Either (Both (Bind x ∷ Bind y ∷ []) ∷ Both (Bind y ∷ Bind x ∷ []) ∷ []))

-- `x = 0 ; y = 0 | x = 1`
abbrev pub long_or_short : Arm
long_or_short = arm_of (Either (Chain (Limit x Equal 0 ∷ Limit y Equal 0 ∷ []) ∷ Limit x Equal 1 ∷ []))

-- arms are numbered from 0
pub record VerdictRows : Type 0 where
  -- `x = 1`, `x = 1 & y = 2`, `x = 2`
  pub first : IsVerdict description (x_is 1 ∷ both_are 1 2 ∷ x_is 2 ∷ []) 0 Clear
  pub inside : IsVerdict description (x_is 1 ∷ both_are 1 2 ∷ x_is 2 ∷ []) 1 (Shadowed 0 (33 ∷ []))
  pub apart : IsVerdict description (x_is 1 ∷ both_are 1 2 ∷ x_is 2 ∷ []) 2 Clear
  -- the least arm that shares bytes
  pub least_arm : IsVerdict description (x_is 2 ∷ y_is 2 ∷ x_is 1 ∷ both_are 1 2 ∷ []) 3 (Shadowed 1 (33 ∷ []))
  -- 01 is least, since 00 00 is longer
  pub shorter : IsVerdict description (long_or_short ∷ y_is 0 ∷ []) 1 (Shadowed 0 (1 ∷ []))
  -- two results that are the same, and two that bind in another order
  pub same_twice : IsVerdict description (one_twice ∷ []) 0 Clear
  pub other_order : IsVerdict description (both_orders ∷ []) 0 (Twofold (0 ∷ []))

-- of whatever description and arms: an arm has one verdict at most
pub record VerdictLaws : Type 0 where
  pub one_verdict : (spec : Spec) (arms : List Arm) (k : ℕ) (v w : Verdict) → IsVerdict spec arms k v → IsVerdict spec arms k w → v ≡ w
