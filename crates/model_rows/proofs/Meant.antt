-- What the bodies of the rows' constructors mean, whatever they read.
use Rattle.std.proofs.Common.{◌≡◌, ℕ, ◌+◌, List, [], ◌∷◌, Some, Contains, ℤ, pos, ◌+ℤ◌, refl, ap, sym, ◌∙◌, arith, subst, ◌⊎◌, inl, inr}
use Rattle.std.proofs.lemmas.Int.{ints}
use Rattle.std.proofs.lemmas.List.Elements.{All-nil, All-cons, All-head, All-contains}
use Rattle.sled_model.specs.declared.constructor.Constructor.{Constructor}
use Rattle.sled_model.specs.declared.constructor.ConstructorId.{ConstructorId}
use Rattle.sled_model.specs.declared.pattern.Argument.TheBlock.{hidden-the_row-Pattern-1}
use denote.Hole.Carrier.{hidden}
use Rattle.sled_model.specs.declared.constructor.Equation.{Equation}
use Rattle.sled_model.specs.declared.constructor.OperandKind.TheVariants.{Plain, Typed, Whole}
use Rattle.sled_model.specs.declared.instance.Instance.{Instance}
use Rattle.sled_model.specs.declared.instance.Operand.{Operand}
use Rattle.sled_model.specs.declared.instance.Operand.TheVariants.{Num, Sub}
use Rattle.sled_model.specs.declared.raw.RawEntry.{RawEntry}
use Rattle.sled_model.specs.declared.raw.RawEntry.TheVariants.{Mark, Choice}
use Rattle.sled_model.specs.Equations.{Setting, IsSatisfied, EachSatisfied}
use Rattle.sled_model.specs.Solutions.{setting_of}
use Rattle.sled_model.specs.Results.{choice_of}
use Rattle.sled_model.specs.Instances.{Means, means, OperandsMean, no_more, plain, typed, whole, numbers_of, fields_in, labels_at, IsWholeNumber}
use Rattle.model_rows.specs.Description.{description, tokens, y, half, twice_x, label_and_x, doubled, labelled, doubled_half, labelled_half, two_bytes, only_three, c_of, k_of, d_of, l_of, g_of, e_of, x_read, y_read, chosen}
use Rattle.model_rows.proofs.Held.{sub_same, choice_same}

-- ---- lists of one and of two

pub contains_one : {A : Type 0} (a b : A) → Contains (a ∷ []) b → a ≡ b
contains_one a b h = All-contains (λ e. a ≡ e) (a ∷ []) b (All-cons (λ e. a ≡ e) a [] refl (All-nil (λ e. a ≡ e))) h

pub contains_two : {A : Type 0} (a b e : A) → Contains (a ∷ b ∷ []) e → (a ≡ e) ⊎ (b ≡ e)
contains_two {A} a b e h =
    let P = λ (f : A). (a ≡ f) ⊎ (b ≡ f) in
    All-contains P (a ∷ b ∷ []) e (All-cons P a (b ∷ []) (inl refl) (All-cons P b [] (inr refl) (All-nil P))) h

-- ---- equations

pub one_equation : (setting : Setting) (fields : ℕ → ℤ) (e : Equation) → IsSatisfied setting fields e → EachSatisfied setting fields (e ∷ [])
one_equation setting fields e h = All-cons (IsSatisfied setting fields) e [] h (All-nil (IsSatisfied setting fields))

pub no_equation : (setting : Setting) (fields : ℕ → ℤ) → EachSatisfied setting fields []
no_equation setting fields = All-nil (IsSatisfied setting fields)

pub first_equation : (setting : Setting) (fields : ℕ → ℤ) (e : Equation) (c d : Constructor) → Some d ≡ Some c → d.equations ≡ e ∷ [] → EachSatisfied setting fields c.equations → IsSatisfied setting fields e
first_equation setting fields e c d k q h =
    let same : d ≡ c = cc in
    All-head (IsSatisfied setting fields) e [] (subst (EachSatisfied setting fields) (ap (λ (c : Constructor). c.equations) (sym same) ∙ q) h)

abbrev pub stands : ℕ → List Operand → List RawEntry → Setting
stands location operands entries = setting_of tokens (numbers_of operands) (labels_at location entries)

-- ---- a field at an offset, and a label in front of it

module _ (location value at : ℕ) where
  abbrev pub bare : List RawEntry
  bare = x_read value at ∷ []

  abbrev pub labelled_at : List RawEntry
  labelled_at = Mark 0 at ∷ x_read value at ∷ []

  pub means_c : IsWholeNumber (pos value +ℤ pos value) → Means description location bare (c_of (Num (pos value +ℤ pos value)))
  means_c r = means doubled refl (whole r no_more) (one_equation (stands location (Num (pos value +ℤ pos value) ∷ []) bare) (fields_in bare) twice_x (omega (arith, ints)))

  pub only_c : (n : ℤ) → Means description location bare (c_of (Num n)) → n ≡ pos value +ℤ pos value
  only_c n (means c k os es) = let s = first_equation (stands location (Num n ∷ []) bare) (fields_in bare) twice_x c doubled k refl es in omega (arith, ints, s)

  pub means_d : IsWholeNumber (pos value +ℤ pos value) → Means description location bare (d_of (Num (pos value +ℤ pos value)))
  means_d r = means doubled_half refl (whole r no_more) (one_equation (stands location (Num (pos value +ℤ pos value) ∷ []) bare) (fields_in bare) twice_x (omega (arith, ints)))

  pub only_d : (n : ℤ) → Means description location bare (d_of (Num n)) → n ≡ pos value +ℤ pos value
  only_d n (means c k os es) = let s = first_equation (stands location (Num n ∷ []) bare) (fields_in bare) twice_x c doubled_half k refl es in omega (arith, ints, s)

  pub means_k : IsWholeNumber (pos (location + at) +ℤ pos value) → Means description location labelled_at (k_of (Num (pos (location + at) +ℤ pos value)))
  means_k r =
      means labelled refl (whole r no_more)
      (one_equation (stands location (Num (pos (location + at) +ℤ pos value) ∷ []) labelled_at) (fields_in labelled_at) label_and_x (omega (arith, ints)))

  pub only_k : (n : ℤ) → Means description location labelled_at (k_of (Num n)) → n ≡ pos (location + at) +ℤ pos value
  only_k n (means c k os es) = let s = first_equation (stands location (Num n ∷ []) labelled_at) (fields_in labelled_at) label_and_x c labelled k refl es in omega (arith, ints, s)

  pub means_l : IsWholeNumber (pos (location + at) +ℤ pos value) → Means description location labelled_at (l_of (Num (pos (location + at) +ℤ pos value)))
  means_l r =
      means labelled_half refl (whole r no_more)
      (one_equation (stands location (Num (pos (location + at) +ℤ pos value) ∷ []) labelled_at) (fields_in labelled_at) label_and_x (omega (arith, ints)))

  pub only_l : (n : ℤ) → Means description location labelled_at (l_of (Num n)) → n ≡ pos (location + at) +ℤ pos value
  only_l n (means c k os es) = let s = first_equation (stands location (Num n ∷ []) labelled_at) (fields_in labelled_at) label_and_x c labelled_half k refl es in omega (arith, ints, s)

  -- ---- a plain operand

  pub means_e : Means description location (y_read value at ∷ []) (e_of (Num (pos value)))
  means_e = means only_three refl (plain value at (0, omega arith, refl) no_more) (no_equation (stands location (Num (pos value) ∷ []) (y_read value at ∷ [])) (fields_in (y_read value at ∷ [])))

  plain_operand : (n : ℤ) → OperandsMean description location only_three (y_read value at ∷ []) 0 (Plain y ∷ []) (Num n ∷ []) → n ≡ pos value
  plain_operand n (plain v a h no_more) = let e : value ≡ v = cc (contains_one (y_read value at) (y_read v a) h) in ap pos (sym e)

  pub only_e : (n : ℤ) → Means description location (y_read value at ∷ []) (e_of (Num n)) → n ≡ pos value
  only_e n (means c k os es) =
      let same : c ≡ only_three = cc in
      plain_operand n (subst (λ c. OperandsMean description location c (y_read value at ∷ []) 0 c.operands (Num n ∷ [])) same os)

-- ---- an instance that is held

module _ (location : ℕ) (entries : List RawEntry) (m : ℤ) where
  typed_operand : (o : Operand) → OperandsMean description location two_bytes entries 0 (Whole ∷ Typed half ∷ []) (Num m ∷ o ∷ [])
      → (i : Instance) × (inner : List RawEntry) × (o ≡ Sub i) × (choice_of two_bytes entries 1 ≡ Some (Choice i.constructor (record { entries = inner }) [])) × Means description location inner i
  typed_operand o (whole r (typed i inner e h no_more)) = (i, inner, refl, e, h)

  held_of : (i j : Instance) (inner : List RawEntry) → Sub i ≡ Sub j → choice_of two_bytes entries 1 ≡ Some (Choice j.constructor (record { entries = inner }) []) → Means description location inner j
      → (inner : List RawEntry) × (choice_of two_bytes entries 1 ≡ Some (Choice i.constructor (record { entries = inner }) [])) × Means description location inner i
  held_of i j inner e q h =
      let held : j ≡ i = sym (sub_same i j e) in
      (inner, subst (λ (i : Instance). choice_of two_bytes entries 1 ≡ Some (Choice i.constructor (record { entries = inner }) [])) held q, subst (Means description location inner) held h)

  pub held_means : (i : Instance) → Means description location entries (g_of (Num m) i)
      → (inner : List RawEntry) × (choice_of two_bytes entries 1 ≡ Some (Choice i.constructor (record { entries = inner }) [])) × Means description location inner i
  held_means i (means c k os es) =
      let same : c ≡ two_bytes = cc in
      let t = typed_operand (Sub i) (subst (λ c. OperandsMean description location c entries 0 c.operands (Num m ∷ Sub i ∷ [])) same os) in
      held_of i t.0 t.1 t.2 t.3 t.4

  pub only_twice : (value : ℕ) (i : Instance) → fields_in entries 0 ≡ pos value → Means description location entries (g_of (Num m) i) → m ≡ pos value +ℤ pos value
  only_twice value i f (means c k os es) =
      let s = first_equation (stands location (Num m ∷ Sub i ∷ []) entries) (fields_in entries) twice_x c two_bytes k refl es in
      omega (arith, ints, s, f)

-- ---- the choices that g takes

some_same : (a b : RawEntry) → Some a ≡ Some b → a ≡ b
some_same a b e = cc

module _ (value other : ℕ) where
  -- x is read, and then d, or l, is taken
  abbrev pub with_d : List RawEntry
  with_d = x_read value 0 ∷ chosen 2 (x_read other 1 ∷ []) [] ∷ []

  abbrev pub with_l : List RawEntry
  with_l = x_read value 0 ∷ chosen 3 (Mark 0 1 ∷ x_read other 1 ∷ []) [] ∷ []

  module _ (i : Instance) (inner : List RawEntry) where
    pub d_taken : choice_of two_bytes with_d 1 ≡ Some (Choice i.constructor (record { entries = inner }) []) → (record { 0 = 2 } ≡ i.constructor) × ((x_read other 1 ∷ []) ≡ inner)
    unfolding hidden-the_row-Pattern-1 hidden
    d_taken e = let s = choice_same (record { 0 = 2 }) i.constructor (x_read other 1 ∷ []) inner [] [] (some_same (chosen 2 (x_read other 1 ∷ []) []) (Choice i.constructor (record { entries = inner }) []) e) in (s.0, s.1)

    pub l_taken : choice_of two_bytes with_l 1 ≡ Some (Choice i.constructor (record { entries = inner }) []) → (record { 0 = 3 } ≡ i.constructor) × ((Mark 0 1 ∷ x_read other 1 ∷ []) ≡ inner)
    unfolding hidden-the_row-Pattern-1 hidden
    l_taken e = let s = choice_same (record { 0 = 3 }) i.constructor (Mark 0 1 ∷ x_read other 1 ∷ []) inner [] [] (some_same (chosen 3 (Mark 0 1 ∷ x_read other 1 ∷ []) []) (Choice i.constructor (record { entries = inner }) []) e) in (s.0, s.1)

  module _ (location : ℕ) (m n : ℤ) where
    pub only_gd : Means description location with_d (g_of (Num m) (d_of (Num n))) → (m ≡ pos value +ℤ pos value) × (n ≡ pos other +ℤ pos other)
    only_gd h =
        let t = held_means location with_d m (d_of (Num n)) h in
        let same = d_taken (d_of (Num n)) t.0 t.1 in
        (only_twice location with_d m value (d_of (Num n)) refl h, only_d location other 1 n (subst (λ es. Means description location es (d_of (Num n))) (sym same.1) t.2))

    pub only_gl : Means description location with_l (g_of (Num m) (l_of (Num n))) → (m ≡ pos value +ℤ pos value) × (n ≡ pos (location + 1) +ℤ pos other)
    only_gl h =
        let t = held_means location with_l m (l_of (Num n)) h in
        let same = l_taken (l_of (Num n)) t.0 t.1 in
        (only_twice location with_l m value (l_of (Num n)) refl h, only_l location other 1 n (subst (λ es. Means description location es (l_of (Num n))) (sym same.1) t.2))

    pub no_l : Means description location with_d (g_of (Num m) (l_of (Num n))) → ⊥
    no_l h =
        let t = held_means location with_d m (l_of (Num n)) h in
        let number : 2 ≡ 3 = ap (λ (k : ConstructorId). k.0) (d_taken (l_of (Num n)) t.0 t.1).0 in
        omega (arith, number)

    pub no_d : Means description location with_l (g_of (Num m) (d_of (Num n))) → ⊥
    no_d h =
        let t = held_means location with_l m (d_of (Num n)) h in
        let number : 3 ≡ 2 = ap (λ (k : ConstructorId). k.0) (l_taken (d_of (Num n)) t.0 t.1).0 in
        omega (arith, number)

  pub means_gd : (location : ℕ) → IsWholeNumber (pos value +ℤ pos value) → IsWholeNumber (pos other +ℤ pos other) → Means description location with_d (g_of (Num (pos value +ℤ pos value)) (d_of (Num (pos other +ℤ pos other))))
  unfolding hidden-the_row-Pattern-1 hidden
  means_gd location r q =
      means two_bytes refl (whole r (typed (d_of (Num (pos other +ℤ pos other))) (x_read other 1 ∷ []) refl (means_d location other 1 q) no_more))
      (one_equation (stands location (Num (pos value +ℤ pos value) ∷ Sub (d_of (Num (pos other +ℤ pos other))) ∷ []) with_d) (fields_in with_d) twice_x (omega (arith, ints)))

  pub means_gl : (location : ℕ) → IsWholeNumber (pos value +ℤ pos value) → IsWholeNumber (pos (location + 1) +ℤ pos other)
      → Means description location with_l (g_of (Num (pos value +ℤ pos value)) (l_of (Num (pos (location + 1) +ℤ pos other))))
  unfolding hidden-the_row-Pattern-1 hidden
  means_gl location r q =
      means two_bytes refl (whole r (typed (l_of (Num (pos (location + 1) +ℤ pos other))) (Mark 0 1 ∷ x_read other 1 ∷ []) refl (means_l location other 1 q) no_more))
      (one_equation (stands location (Num (pos value +ℤ pos value) ∷ Sub (l_of (Num (pos (location + 1) +ℤ pos other))) ∷ []) with_l) (fields_in with_l) twice_x (omega (arith, ints)))
