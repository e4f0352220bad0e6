-- What results mean, over the rows' description.
use Rattle.std.proofs.Common.{◌≡◌, ℕ, ◌+◌, ◌≤◌, true, List, [], ◌∷◌, ◌⊎◌, ◌∙◌, Some, slice_get, ℤ, pos, ◌-ℤ◌, refl, ap, sym, arith, subst, inl, inr}
use Rattle.std.proofs.lemmas.Int.{ints}
use Rattle.sled_model.specs.First.{is_named}
use Rattle.sled_model.specs.declared.instance.Operand.{Operand}
use Rattle.sled_model.specs.declared.instance.Operand.TheVariants.{Num, Sub}
use Rattle.sled_model.specs.declared.instance.Instance.{Instance}
use Rattle.sled_model.specs.declared.constructor.ConstructorId.{ConstructorId}
use Rattle.sled_model.specs.declared.pattern.Argument.{Argument}
use Rattle.sled_model.specs.declared.pattern.Argument.TheVariants.{Name, Inner}
use Rattle.sled_model.specs.declared.pattern.Pattern.TheVariants.{Apply}
use Rattle.sled_model.specs.declared.constructor.OperandKind.TheVariants.{Extended, Typed, Whole}
use Rattle.sled_model.specs.declared.raw.RawEntry.{RawEntry}
use Rattle.sled_model.specs.declared.raw.RawEntry.TheVariants.{Value, Mark, Choice}
use Rattle.sled_model.specs.Equations.{sign_extended}
use Rattle.sled_model.specs.Instances.{Means, means, OperandsMean, no_more, extended, typed, whole, ArgumentNames, NameMeans, field, label, argument, here, later, inside, fields_in, IsWholeNumber}
use Rattle.model_rows.specs.Description.{description, x, half, signed, doubled_half, two_bytes, d_of, g_of, s_of, chosen, x_read}
use Rattle.model_rows.proofs.Meant.{contains_one, contains_two, no_equation, stands, means_c, only_c, means_k, only_k, means_e, only_e, with_d, means_gd, means_gl, only_gd, only_gl, no_l, held_means, d_taken}
use Rattle.model_rows.proofs.Held.{sub_same, choice_same, inner_same}
use Rattle.model_rows.specs.InstanceRows.{InstanceRows, t_name, field_arm, nested_arm, nested_entry}

abbrev small : (n : ℕ) → n ≤ 100 → IsWholeNumber (pos n)
small n h = record { at_least = omega (arith, ints); below = omega (arith, ints) }

-- ---- an extended operand

means_s : Means description 0 (x_read 13 0 ∷ []) (s_of (Num (pos 0 -ℤ pos 3)))
means_s = means signed refl (extended 13 0 (0, omega arith, refl) no_more) (no_equation (stands 0 (Num (pos 0 -ℤ pos 3) ∷ []) (x_read 13 0 ∷ [])) (fields_in (x_read 13 0 ∷ [])))

extended_operand : (n : ℤ) → OperandsMean description 0 signed (x_read 13 0 ∷ []) 0 (Extended x ∷ []) (Num n ∷ []) → n ≡ pos 0 -ℤ pos 3
extended_operand n (extended value at h no_more) = let e : 13 ≡ value = cc (contains_one (x_read 13 0) (x_read value at) h) in ap (λ v. sign_extended (pos 8) (pos v)) (sym e)

only_s : (n : ℤ) → Means description 0 (x_read 13 0 ∷ []) (s_of (Num n)) → n ≡ pos 0 -ℤ pos 3
only_s n (means c k os es) =
    let same : c ≡ signed = cc in
    extended_operand n (subst (λ c. OperandsMean description 0 c (x_read 13 0 ∷ []) 0 c.operands (Num n ∷ [])) same os)

-- ---- names

abbrev marked : List RawEntry
marked = Mark 0 0 ∷ x_read 5 0 ∷ []

means_g : Means description 0 (with_d 5 2) (g_of (Num (pos 10)) (d_of (Num (pos 4))))
means_g = means_gd 5 2 0 (small 10 (omega arith)) (small 4 (omega arith))

label_means : NameMeans description field_arm 16 marked 0 (Num (pos 16))
label_means = label 0 (0, omega arith, refl)

field_means : NameMeans description field_arm 16 marked 1 (Num (pos 5))
field_means = field 5 0 (120 ∷ []) (1, omega arith, refl) refl refl

argument_means : NameMeans description nested_arm 0 nested_entry 0 (Num (pos 10))
argument_means = argument (g_of (Num (pos 10)) (d_of (Num (pos 4)))) (with_d 5 2) _ (0, omega arith, refl) means_g here

inner_means : NameMeans description nested_arm 0 nested_entry 1 (Num (pos 4))
inner_means = argument (g_of (Num (pos 10)) (d_of (Num (pos 4)))) (with_d 5 2) _ (0, omega arith, refl) means_g (later (inside (record { 0 = 2 }) (d_of (Num (pos 4))) here))

label_at : (o : Operand) → NameMeans description field_arm 16 marked 0 o → o ≡ Num (pos 16)
label_at o (field {f = f} value at name h n e) =
    elim (contains_two (Mark 0 0) (x_read 5 0) (Value f value at) h) [
      | inl q ↦ cc
      | inr q ↦ (let one : x ≡ f = cc in let other : t_name ≡ name = cc in
          let false_name : is_named description x t_name ≡ true = subst (λ f. is_named description f t_name ≡ true) (sym one) (subst (λ n. is_named description f n ≡ true) (sym other) e) in cc)
    ]
label_at o (label at h) = elim (contains_two (Mark 0 0) (x_read 5 0) (Mark 0 at) h) [ inl e ↦ (let s : 0 ≡ at = cc in ap (λ n. Num (pos (16 + n))) (sym s)) | inr e ↦ cc ]
label_at o (argument i inner arguments h m n) = elim (contains_two (Mark 0 0) (x_read 5 0) (Choice i.constructor (record { entries = inner }) arguments) h) [ inl e ↦ cc | inr e ↦ cc ]

field_at : (o : Operand) → NameMeans description field_arm 16 marked 1 o → o ≡ Num (pos 5)
field_at o (field {f = f} value at name h n e) = elim (contains_two (Mark 0 0) (x_read 5 0) (Value f value at) h) [ inl e ↦ cc | inr e ↦ (let s : 5 ≡ value = cc in ap (λ n. Num (pos n)) (sym s)) ]
field_at o (label at h) = elim (contains_two (Mark 0 0) (x_read 5 0) (Mark 1 at) h) [ inl e ↦ cc | inr e ↦ cc ]
field_at o (argument i inner arguments h m n) = elim (contains_two (Mark 0 0) (x_read 5 0) (Choice i.constructor (record { entries = inner }) arguments) h) [ inl e ↦ cc | inr e ↦ cc ]

-- ---- arguments

abbrev inner_arguments : List Argument
inner_arguments = Name 1 ∷ []

abbrev outer_arguments : List Argument
outer_arguments = Name 0 ∷ Inner (Apply (record { 0 = 2 }) inner_arguments) ∷ []

inner_not_name : (c : ConstructorId) (inner : List Argument) (k : ℕ) → Inner (Apply c inner) ≡ Name k → ⊥
inner_not_name c inner k e = cc

heads : {A : Type 0} (a b : A) (xs ys : List A) → (a ∷ xs) ≡ (b ∷ ys) → (a ≡ b) × (xs ≡ ys)
heads a b xs ys e = (cc, cc)

name_same : (j k : ℕ) → Name j ≡ Name k → j ≡ k
name_same j k e = cc

-- no name is among no arguments
nothing_named : (k : ℕ) (arguments : List Argument) (os : List Operand) (o : Operand) → arguments ≡ [] → ArgumentNames k arguments os o → ⊥
nothing_named k arguments os o e here = cc
nothing_named k arguments os o e (later h) = cc
nothing_named k arguments os o e (inside c i h) = cc

-- the one name inside stands for the one operand inside
one_named : (k : ℕ) (arguments : List Argument) (os : List Operand) (o p : Operand) → arguments ≡ inner_arguments → os ≡ p ∷ [] → ArgumentNames k arguments os o → (k ≡ 1) × (o ≡ p)
one_named k arguments os o p e f (here {arguments = more} {operands = rest}) = (name_same k 1 (heads (Name k) (Name 1) more [] e).0, (heads o p rest [] f).0)
one_named k arguments os o p e f (later {a = a} {arguments = more} {p = q} {operands = rest} h) = absurd (nothing_named k more rest o (heads a (Name 1) more [] e).1 h)
one_named k arguments os o p e f (inside {inner = inner} {arguments = more} c i h) = absurd (inner_not_name c inner 1 (heads (Inner (Apply c inner)) (Name 1) more [] e).0)

second_named : (k : ℕ) (arguments : List Argument) (os : List Operand) (o p : Operand) → arguments ≡ Inner (Apply (record { 0 = 2 }) inner_arguments) ∷ [] → os ≡ Sub (d_of p) ∷ [] → ArgumentNames k arguments os o → (k ≡ 1) × (o ≡ p)
second_named k arguments os o p e f (here {arguments = more}) = absurd (inner_not_name (record { 0 = 2 }) inner_arguments k (sym (heads (Name k) (Inner (Apply (record { 0 = 2 }) inner_arguments)) more [] e).0))
second_named k arguments os o p e f (later {a = a} {arguments = more} {operands = rest} h) = absurd (nothing_named k more rest o (heads a (Inner (Apply (record { 0 = 2 }) inner_arguments)) more [] e).1 h)
second_named k arguments os o p e f (inside {inner = inner} {arguments = more} {operands = rest} c i h) =
    let same = inner_same c (record { 0 = 2 }) inner inner_arguments (heads (Inner (Apply c inner)) (Inner (Apply (record { 0 = 2 }) inner_arguments)) more [] e).0 in
    let held = sub_same i (d_of p) (heads (Sub i) (Sub (d_of p)) rest [] f).0 in
    one_named k inner i.operands o p same (ap (λ (j : Instance). j.operands) held) h

named : (k : ℕ) (arguments : List Argument) (os : List Operand) (o p q : Operand) → arguments ≡ outer_arguments → os ≡ p ∷ Sub (d_of q) ∷ [] → ArgumentNames k arguments os o → ((k ≡ 0) × (o ≡ p)) ⊎ ((k ≡ 1) × (o ≡ q))
named k arguments os o p q e f (here {arguments = more} {operands = rest}) =
    inl (name_same k 0 (heads (Name k) (Name 0) more (Inner (Apply (record { 0 = 2 }) inner_arguments) ∷ []) e).0, (heads o p rest (Sub (d_of q) ∷ []) f).0)
named k arguments os o p q e f (later {a = a} {arguments = more} {p = r} {operands = rest} h) =
    inr (second_named k more rest o q (heads a (Name 0) more (Inner (Apply (record { 0 = 2 }) inner_arguments) ∷ []) e).1 (heads r p rest (Sub (d_of q) ∷ []) f).1 h)
named k arguments os o p q e f (inside {inner = inner} {arguments = more} c i h) = absurd (inner_not_name c inner 0 (heads (Inner (Apply c inner)) (Name 0) more (Inner (Apply (record { 0 = 2 }) inner_arguments) ∷ []) e).0)

-- the only instance of g that the entries mean
g_shape : (os : List Operand) → OperandsMean description 0 two_bytes (with_d 5 2) 0 (Whole ∷ Typed half ∷ []) os → (m : ℤ) × (j : Instance) × (os ≡ Num m ∷ Sub j ∷ [])
g_shape os (whole {n = n} r (typed i inner e h no_more)) = (n, i, refl)

d_shape : (os : List Operand) → OperandsMean description 0 doubled_half (x_read 2 1 ∷ []) 0 (Whole ∷ []) os → (n : ℤ) × (os ≡ Num n ∷ [])
d_shape os (whole {n = n} r no_more) = (n, refl)

d_meant : (j : Instance) → record { 0 = 2 } ≡ j.constructor → Means description 0 (x_read 2 1 ∷ []) j → (n : ℤ) × (j ≡ d_of (Num n))
d_meant j e (means c k os es) =
    let known : Some doubled_half ≡ Some c = ap (λ (i : ConstructorId). slice_get description.constructors i.0) e ∙ k in
    let same : c ≡ doubled_half = cc in
    let shape = d_shape j.operands (subst (λ c. OperandsMean description 0 c (x_read 2 1 ∷ []) 0 c.operands j.operands) same os) in
    (shape.0, ap (λ i. record { constructor = i; operands = j.operands }) (sym e) ∙ ap (λ os. record { constructor = record { 0 = 2 }; operands = os }) shape.1)

g_meant : (i : Instance) → record { 0 = 4 } ≡ i.constructor → Means description 0 (with_d 5 2) i → (m : ℤ) × (j : Instance) × (i ≡ g_of (Num m) j)
g_meant i e (means c k os es) =
    let known : Some two_bytes ≡ Some c = ap (λ (i : ConstructorId). slice_get description.constructors i.0) e ∙ k in
    let same : c ≡ two_bytes = cc in
    let shape = g_shape i.operands (subst (λ c. OperandsMean description 0 c (with_d 5 2) 0 c.operands i.operands) same os) in
    (shape.0, shape.1, ap (λ j. record { constructor = j; operands = i.operands }) (sym e) ∙ ap (λ os. record { constructor = record { 0 = 4 }; operands = os }) shape.2)

only_instance : (i : Instance) → record { 0 = 4 } ≡ i.constructor → Means description 0 (with_d 5 2) i → i ≡ g_of (Num (pos 10)) (d_of (Num (pos 4)))
only_instance i e h =
    let g = g_meant i e h in
    let held = held_means 0 (with_d 5 2) g.0 g.1 (subst (Means description 0 (with_d 5 2)) g.2 h) in
    let taken = d_taken 5 2 g.1 held.0 held.1 in
    let d = d_meant g.1 taken.0 (subst (λ es. Means description 0 es g.1) (sym taken.1) held.2) in
    let whole_one : i ≡ g_of (Num g.0) (d_of (Num d.0)) = g.2 ∙ ap (λ j. g_of (Num g.0) j) d.1 in
    let numbers = only_gd 5 2 0 g.0 d.0 (subst (Means description 0 (with_d 5 2)) whole_one h) in
    whole_one ∙ ap (λ m. g_of (Num m) (d_of (Num d.0))) numbers.0 ∙ ap (λ n. g_of (Num (pos 10)) (d_of (Num n))) numbers.1

argument_at : (k : ℕ) (o : Operand) → NameMeans description nested_arm 0 nested_entry k o → ((k ≡ 0) × (o ≡ Num (pos 10))) ⊎ ((k ≡ 1) × (o ≡ Num (pos 4)))
argument_at k o (field {f = f} value at name h n e) = cc (contains_one (chosen 4 (with_d 5 2) outer_arguments) (Value f value at) h)
argument_at k o (label at h) = cc (contains_one (chosen 4 (with_d 5 2) outer_arguments) (Mark k at) h)
argument_at k o (argument i inner arguments h m n) =
    let same = choice_same (record { 0 = 4 }) i.constructor (with_d 5 2) inner outer_arguments arguments (contains_one (chosen 4 (with_d 5 2) outer_arguments) (Choice i.constructor (record { entries = inner }) arguments) h) in
    let whole_one = only_instance i same.0 (subst (λ es. Means description 0 es i) (sym same.1) m) in
    named k arguments i.operands o (Num (pos 10)) (Num (pos 4)) (sym same.2) (ap (λ (j : Instance). j.operands) whole_one) n

only_argument : (o : Operand) → NameMeans description nested_arm 0 nested_entry 0 o → o ≡ Num (pos 10)
only_argument o h = elim (argument_at 0 o h) [ inl p ↦ p.1 | inr p ↦ absurd (omega (arith, p.0)) ]

only_inner : (o : Operand) → NameMeans description nested_arm 0 nested_entry 1 o → o ≡ Num (pos 4)
only_inner o h = elim (argument_at 1 o h) [ inl p ↦ absurd (omega (arith, p.0)) | inr p ↦ p.1 ]

pub instance_rows : InstanceRows
instance_rows = record {
  doubled = means_c 0 5 0 (small 10 (omega arith));
  only_doubled = only_c 0 5 0;
  labelled = means_k 16 5 0 (small 21 (omega arith));
  only_labelled = only_k 16 5 0;
  plain = means_e 0 12 0;
  only_plain = only_e 0 12 0;
  extended = means_s;
  only_extended = only_s;
  typed = means_g;
  only_typed = only_gd 5 2 0;
  other_choice = no_l 5 2 0;
  inner_label = means_gl 5 2 16 (small 10 (omega arith)) (small 19 (omega arith));
  only_inner_label = λ m n h. (only_gl 5 2 16 m n h).1;
  label_name = label_means;
  only_label = label_at;
  field_name = field_means;
  only_field = field_at;
  argument_name = argument_means;
  only_argument = only_argument;
  inner_name = inner_means;
  only_inner = only_inner;
}
