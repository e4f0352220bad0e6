-- Rows on the least bytes of an instance and on why there are none.
use Rattle.std.specs.Prelude.{ℕ, ◌≡◌, ◌+◌, ◌-◌, ◌^◌, List, [], ◌∷◌, Option, Some, None, pos, ◌-ℤ◌}
use Rattle.sled_model.specs.declared.instance.Instance.{Instance}
use Rattle.sled_model.specs.declared.instance.LabelId.{LabelId}
use Rattle.sled_model.specs.declared.instance.Operand.TheVariants.{Num}
use Rattle.sled_model.specs.declared.spec.Spec.{Spec}
use Rattle.sled_model.specs.Encoding.{EncodeFault, Unplaced, Unfit, NoSolution, Excluded, IsEncodeFault, HasBytes}
use Rattle.model_rows.specs.Description.{description, c_of, k_of, d_of, l_of, g_of, e_of, place}

abbrev pub label : ℕ → LabelId
label n = record { 0 = n }

pub record EncodingRows : Type 0 where
  -- c(10) is 05: the bits of y, which nothing names, are 0
  pub doubled : HasBytes description [] 0 (c_of (Num (pos 10))) (5 ∷ [])
  -- an odd number is not twice x, and 32 is twice no x
  pub odd : IsEncodeFault description [] 0 (c_of (Num (pos 11))) (NoSolution 0 0)
  pub too_far : IsEncodeFault description [] 0 (c_of (Num (pos 32))) (NoSolution 0 0)
  -- the range of a whole operand ends at 2 ^ 34 - 1 and begins at -2 ^ 34
  pub too_great : IsEncodeFault description [] 0 (c_of (Num (pos (2 ^ 34)))) (Unfit 1)
  pub greatest : IsEncodeFault description [] 0 (c_of (Num (pos (2 ^ 34 - 1)))) (NoSolution 0 0)
  pub least : IsEncodeFault description [] 0 (c_of (Num (pos 0 -ℤ pos (2 ^ 34)))) (NoSolution 0 0)
  pub too_small : IsEncodeFault description [] 0 (c_of (Num (pos 0 -ℤ pos (2 ^ 34 + 1)))) (Unfit 1)
  -- a plain operand's begins at 0 and ends with its field's
  pub too_wide : IsEncodeFault description [] 0 (e_of (Num (pos 16))) (Unfit 1)
  pub negative : IsEncodeFault description [] 0 (e_of (Num (pos 0 -ℤ pos 1))) (Unfit 1)
  -- a label without an address, which is told before all else
  pub unplaced : IsEncodeFault description (None ∷ []) 0 (k_of (place 0 (pos 0))) (Unplaced (label 0))
  pub unknown : IsEncodeFault description (Some 16 ∷ []) 0 (g_of (Num (pos 11)) (d_of (place 1 (pos 0)))) (Unplaced (label 1))
  -- a label stands for its address and what is added
  pub placed : HasBytes description (Some 18 ∷ []) 16 (k_of (place 0 (pos 3))) (5 ∷ [])
  -- what the body leaves out
  pub excluded : IsEncodeFault description [] 0 (e_of (Num (pos 4))) Excluded
  pub left_in : HasBytes description [] 0 (e_of (Num (pos 3))) (48 ∷ [])
  -- what is held comes before its holder; the operand of what is held has number 3
  pub held_first : IsEncodeFault description [] 0 (g_of (Num (pos (2 ^ 34))) (d_of (Num (pos 11)))) (NoSolution 2 0)
  pub holder : IsEncodeFault description [] 0 (g_of (Num (pos (2 ^ 34))) (d_of (Num (pos 4)))) (Unfit 1)
  pub operand_of_held : IsEncodeFault description [] 0 (g_of (Num (pos 11)) (d_of (Num (pos (2 ^ 34))))) (Unfit 3)
  -- two bytes
  pub two_bytes : HasBytes description [] 0 (g_of (Num (pos 10)) (d_of (Num (pos 4)))) (5 ∷ 2 ∷ [])
  -- a label inside what is held, in the second byte, is at 17
  pub inner_label : HasBytes description [] 16 (g_of (Num (pos 10)) (l_of (Num (pos 19)))) (5 ∷ 2 ∷ [])
  pub before_label : IsEncodeFault description [] 16 (g_of (Num (pos 10)) (l_of (Num (pos 16)))) (NoSolution 2 0)

-- of whatever description: there is one fault at most, one list of bytes at most, and never both
pub record EncodingLaws : Type 0 where
  pub one_fault : (spec : Spec) (addresses : List (Option ℕ)) (location : ℕ) (i : Instance) (f g : EncodeFault) → IsEncodeFault spec addresses location i f → IsEncodeFault spec addresses location i g → f ≡ g
  pub one_list : (spec : Spec) (addresses : List (Option ℕ)) (location : ℕ) (i : Instance) (bytes others : List ℕ) → HasBytes spec addresses location i bytes → HasBytes spec addresses location i others → bytes ≡ others
  pub not_both : (spec : Spec) (addresses : List (Option ℕ)) (location : ℕ) (i : Instance) (f : EncodeFault) (bytes : List ℕ) → IsEncodeFault spec addresses location i f → HasBytes spec addresses location i bytes → ⊥
