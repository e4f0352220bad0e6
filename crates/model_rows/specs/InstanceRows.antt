-- Rows on what the entries of a result mean, and on what the names of an arm stand for.
use Rattle.std.specs.Prelude.{ℕ, ◌≡◌, List, [], ◌∷◌, ℤ, pos, ◌-ℤ◌}
use Rattle.sled_model.specs.declared.instance.Operand.{Operand}
use Rattle.sled_model.specs.declared.instance.Operand.TheVariants.{Num}
use Rattle.sled_model.specs.declared.pattern.Argument.TheVariants.{Name, Inner}
use Rattle.sled_model.specs.declared.pattern.Pattern.TheVariants.{Bind, Label, Apply}
use Rattle.sled_model.specs.declared.raw.RawEntry.{RawEntry}
use Rattle.sled_model.specs.declared.raw.RawEntry.TheVariants.{Mark}
use Rattle.sled_model.specs.declared.statement.Arm.{Arm}
use Rattle.sled_model.specs.Instances.{Means, NameMeans}
use Rattle.model_rows.specs.Description.{description, x, c_of, k_of, d_of, l_of, g_of, e_of, s_of, chosen, x_read, y_read}

-- the names `t`, `x` and `u`
abbrev pub t_name : List ℕ
t_name = 116 ∷ []

abbrev pub x_name : List ℕ
x_name = 120 ∷ []

abbrev pub u_name : List ℕ
u_name = 117 ∷ []

-- `case t: x`
abbrev pub field_arm : Arm
field_arm = record { pattern = Label 0 (Bind x); names = t_name ∷ x_name ∷ []; action = [] }

-- `case g(t, d(u))`
abbrev pub nested_arm : Arm
nested_arm = record { pattern = Apply (record { 0 = 4 }) (Name 0 ∷ Inner (Apply (record { 0 = 2 }) (Name 1 ∷ [])) ∷ []); names = t_name ∷ u_name ∷ []; action = [] }

-- what `g(t, d(u))` takes on the bytes 05 02
abbrev pub nested_entry : List RawEntry
nested_entry = chosen 4 (x_read 5 0 ∷ chosen 2 (x_read 2 1 ∷ []) [] ∷ []) (Name 0 ∷ Inner (Apply (record { 0 = 2 }) (Name 1 ∷ [])) ∷ []) ∷ []

pub record InstanceRows : Type 0 where
  -- x read as 5 means c(10), and no other c
  pub doubled : Means description 0 (x_read 5 0 ∷ []) (c_of (Num (pos 10)))
  pub only_doubled : (n : ℤ) → Means description 0 (x_read 5 0 ∷ []) (c_of (Num n)) → n ≡ pos 10
  -- at location 16 a label at the first byte is 16
  pub labelled : Means description 16 (Mark 0 0 ∷ x_read 5 0 ∷ []) (k_of (Num (pos 21)))
  pub only_labelled : (n : ℤ) → Means description 16 (Mark 0 0 ∷ x_read 5 0 ∷ []) (k_of (Num n)) → n ≡ pos 21
  -- a plain operand is the field's value, an extended one that with its sign
  pub plain : Means description 0 (y_read 12 0 ∷ []) (e_of (Num (pos 12)))
  pub only_plain : (n : ℤ) → Means description 0 (y_read 12 0 ∷ []) (e_of (Num n)) → n ≡ pos 12
  pub extended : Means description 0 (x_read 13 0 ∷ []) (s_of (Num (pos 0 -ℤ pos 3)))
  pub only_extended : (n : ℤ) → Means description 0 (x_read 13 0 ∷ []) (s_of (Num n)) → n ≡ pos 0 -ℤ pos 3
  -- a typed operand is what its choice means
  pub typed : Means description 0 (x_read 5 0 ∷ chosen 2 (x_read 2 1 ∷ []) [] ∷ []) (g_of (Num (pos 10)) (d_of (Num (pos 4))))
  pub only_typed : (m n : ℤ) → Means description 0 (x_read 5 0 ∷ chosen 2 (x_read 2 1 ∷ []) [] ∷ []) (g_of (Num m) (d_of (Num n))) → (m ≡ pos 10) × (n ≡ pos 4)
  pub other_choice : (m n : ℤ) → Means description 0 (x_read 5 0 ∷ chosen 2 (x_read 2 1 ∷ []) [] ∷ []) (g_of (Num m) (l_of (Num n))) → ⊥
  -- and a label inside it, in the second byte, is at 17
  pub inner_label : Means description 16 (x_read 5 0 ∷ chosen 3 (Mark 0 1 ∷ x_read 2 1 ∷ []) [] ∷ []) (g_of (Num (pos 10)) (l_of (Num (pos 19))))
  pub only_inner_label : (m n : ℤ) → Means description 16 (x_read 5 0 ∷ chosen 3 (Mark 0 1 ∷ x_read 2 1 ∷ []) [] ∷ []) (g_of (Num m) (l_of (Num n))) → n ≡ pos 19
  -- in an arm a label is its address and a field its value
  pub label_name : NameMeans description field_arm 16 (Mark 0 0 ∷ x_read 5 0 ∷ []) 0 (Num (pos 16))
  pub only_label : (o : Operand) → NameMeans description field_arm 16 (Mark 0 0 ∷ x_read 5 0 ∷ []) 0 o → o ≡ Num (pos 16)
  pub field_name : NameMeans description field_arm 16 (Mark 0 0 ∷ x_read 5 0 ∷ []) 1 (Num (pos 5))
  pub only_field : (o : Operand) → NameMeans description field_arm 16 (Mark 0 0 ∷ x_read 5 0 ∷ []) 1 o → o ≡ Num (pos 5)
  -- the name of an argument is the operand, of an inner application too
  pub argument_name : NameMeans description nested_arm 0 nested_entry 0 (Num (pos 10))
  pub only_argument : (o : Operand) → NameMeans description nested_arm 0 nested_entry 0 o → o ≡ Num (pos 10)
  pub inner_name : NameMeans description nested_arm 0 nested_entry 1 (Num (pos 4))
  pub only_inner : (o : Operand) → NameMeans description nested_arm 0 nested_entry 1 o → o ≡ Num (pos 4)
