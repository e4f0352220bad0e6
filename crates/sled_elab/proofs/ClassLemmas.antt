-- A class that lacks nothing, and its fields one after another.
use Rattle.std.proofs.Common.{◌≡◌, ℕ, zero, suc, ◌+◌, ◌<◌, ◌≤◌, Bool, true, false, List, [], ◌∷◌, ◌++◌, length, map, take, drop, get_or, slice_get, Some, refl, sym, ap, subst, ◌∙◌, inl, inr, arith}
use Rattle.std.specs.Prelude.{◌&&◌, ◌||◌, not, nat_eq, nat_le, nat_lt, bytes_eq, fold}
use Rattle.std.specs.List.{list_all}
use Rattle.std.specs.Option.{IsSomeAnd}
use Rattle.std.proofs.lemmas.Bool.Decides.{nat_tests}
use Rattle.std.proofs.lemmas.List.{append_assoc, append-nil, map-append}
use Rattle.std.proofs.lemmas.List.Folds.{list_any-append}
use Rattle.sled_lexer.specs.Spelled.{number_value}
use Rattle.sled_parser.specs.declared.tree.FieldTree.{FieldTree}
use Rattle.token_bits.specs.declared.tokens.Class.{Class}
use Rattle.token_bits.specs.declared.tokens.ClassId.{ClassId}
use Rattle.token_bits.specs.Tokens.{IsWidth, IsFieldOf}
use Rattle.sled_model.specs.declared.spec.Spec.{Spec}
use Rattle.tree_meaning.specs.declared.scope.Meaning.TheVariants as meaning
use Rattle.tree_meaning.specs.Names.{is_among, are_distinct, are_new}
use Rattle.tree_meaning.specs.Scopes.{Declared}
use Rattle.tree_meaning.proofs.NamesLemmas.{distinct_next}
use Rattle.tree_meaning.proofs.ListLemmas.{around-here}
use Rattle.sled_elab.specs.Declarations.{Described, class_of, field_of, field_name, class_names, with_name, with_class_alone, with_field}
use Rattle.sled_elab.proofs.DescriptionLemmas.{slice_get-push}
use Rattle.sled_elab.specs.Conditions.{are_declared_once, is_class_width, is_field_of, has_widths}

both_of : (s t : Bool) → (s && t) ≡ true → (s ≡ true) × (t ≡ true)
both_of true t h = (refl, h)
both_of false t h = cc

not_true : (t : Bool) → not t ≡ true → t ≡ false
not_true true h = cc
not_true false h = refl

-- ---- widths

width_of_class : (w : ℕ) → is_class_width w ≡ true → IsWidth w
width_of_class w h = by_test (nat_eq w 8) (nat_eq w 16) (nat_eq w 32) refl refl refl h where
  by_test : (a b c : Bool) → nat_eq w 8 ≡ a → nat_eq w 16 ≡ b → nat_eq w 32 ≡ c → (a || b || c) ≡ true → IsWidth w
  by_test true b c x y z h = let e : w ≡ 8 = grind (arith, nat_tests) in inl e
  by_test false true c x y z h = let e : w ≡ 16 = grind (arith, nat_tests) in inr (inl e)
  by_test false false true x y z h = let e : w ≡ 32 = grind (arith, nat_tests) in inr (inr e)
  by_test false false false x y z h = cc

width_small : (w : ℕ) → IsWidth w → w ≤ 32
width_small w (inl e) = omega arith
width_small w (inr (inl e)) = omega arith
width_small w (inr (inr e)) = omega arith

le_of : (a b : ℕ) → nat_le a b ≡ true → a ≤ b
le_of a b h = grind (arith, nat_tests)

lt_of : (a b : ℕ) → nat_lt a b ≡ true → a < b
lt_of a b h = grind (arith, nat_tests)

all_at : {A : Type 0} (p : A → Bool) (xs : List A) (i : ℕ) (x : A) → i < length xs → x ≡ get_or xs i x → list_all p xs ≡ true → p x ≡ true
all_at p [] i x within is h = absurd (omega arith)
all_at p (y ∷ xs) zero x within is h = let here = both_of (p y) (list_all p xs) h in subst (λ z. p z ≡ true) (sym is) here.0
all_at p (y ∷ xs) (suc i) x within is h = let here = both_of (p y) (list_all p xs) h in all_at p xs i x (omega arith) is here.1

module _ (width : List ℕ) (fields : List FieldTree) (widths : has_widths width fields ≡ true) where
  -- a class that lacks nothing has a width that the language admits
  pub class_width : IsWidth (number_value width)
  class_width = width_of_class (number_value width) (both_of (is_class_width (number_value width)) (list_all (is_field_of (number_value width)) fields) widths).0

  pub class_width_small : number_value width < 256
  class_width_small = let small = width_small (number_value width) class_width in omega arith

  module _ (i : ℕ) (f : FieldTree) (h : i < length fields) (is : f ≡ get_or fields i f) where
    field_bits : (number_value f.lo ≤ number_value f.hi) × (number_value f.hi < number_value width)
    field_bits =
        let w = number_value width in
        let all = (both_of (is_class_width w) (list_all (is_field_of w) fields) widths).1 in
        let bits = both_of (nat_le (number_value f.lo) (number_value f.hi)) (nat_lt (number_value f.hi) w) (all_at (is_field_of w) fields i f h is all) in
        (le_of (number_value f.lo) (number_value f.hi) bits.0, lt_of (number_value f.hi) w bits.1)

    -- and so do its fields
    pub field_small : number_value f.hi < 256
    field_small = let bits = field_bits in let small = class_width_small in omega arith

    pub field_place : (classes : List Class) (little : Bool) (c : ℕ) → slice_get classes c ≡ Some (class_of width little) → IsFieldOf classes (field_of c f)
    field_place classes little c there =
        let bits = field_bits in
        (bits.0, subst (λ o. IsSomeAnd o (λ (class : Class). number_value f.hi < class.width)) (sym there) bits.1)

-- ---- names

among_append : (xs ys : List (List ℕ)) (n : List ℕ) → is_among xs n ≡ false → is_among ys n ≡ false → is_among (xs ++ ys) n ≡ false
among_append xs ys n h g = list_any-append (bytes_eq n) xs ys ∙ ap (λ t. t || is_among ys n) h ∙ g

new_at : (names : List (List ℕ)) (fields : List FieldTree) (i : ℕ) (f : FieldTree) → i < length fields → f ≡ get_or fields i f
    → are_new names (map field_name fields) ≡ true → is_among names f.name ≡ false
new_at names [] i f h is all = absurd (omega arith)
new_at names (g ∷ fs) zero f h is all =
    let here = both_of (not (is_among names g.name)) (are_new names (map field_name fs)) all in
    subst (λ (x : FieldTree). is_among names x.name ≡ false) (sym is) (not_true (is_among names g.name) here.0)
new_at names (g ∷ fs) (suc i) f h is all =
    let here = both_of (not (is_among names g.name)) (are_new names (map field_name fs)) all in new_at names fs i f (omega arith) is here.1

module _ (declared : Declared) (name : List ℕ) (fields : List FieldTree) (once : are_declared_once declared (class_names name fields) ≡ true) where
  -- the class's name was not declared before
  pub class_new : is_among declared.names name ≡ false
  class_new =
      let new = (both_of (are_new declared.names (class_names name fields)) (are_distinct (class_names name fields)) once).0 in
      not_true (is_among declared.names name) (both_of (not (is_among declared.names name)) (are_new declared.names (map field_name fields)) new).0

  -- and neither was a field's, before it or in the class
  pub field_new : (i : ℕ) (f : FieldTree) → i < length fields → f ≡ get_or fields i f
      → is_among (declared.names ++ class_names name (take i fields)) f.name ≡ false
  field_new i f h is =
      let parts = both_of (are_new declared.names (class_names name fields)) (are_distinct (class_names name fields)) once in
      let news = (both_of (not (is_among declared.names name)) (are_new declared.names (map field_name fields)) parts.0).1 in
      let new = new_at declared.names fields i f h is news in
      let around : class_names name fields ≡ class_names name (take i fields) ++ f.name ∷ map field_name (drop (i + 1) fields) =
      ap (λ ns. name ∷ ns) (ap (map field_name) (around-here fields i f h is) ∙ map-append field_name (take i fields) (f ∷ drop (i + 1) fields)) in
      among_append declared.names (class_names name (take i fields)) f.name new
      (distinct_next (class_names name (take i fields)) (map field_name (drop (i + 1) fields)) f.name (subst (λ ns. are_distinct ns ≡ true) around parts.1))

-- ---- a class, and its fields one after another

-- the description with the class alone
pub class_made : (d : Described) (name width : List ℕ) (little : Bool) (spec : Spec) (declared : Declared) (id : ClassId) → id.0 ≡ length d.spec.tokens.classes
    → spec ≡ (with_class_alone d name width little).spec → declared ≡ with_name d.declared name (meaning.Class id)
    → record { spec = spec; declared = declared } ≡ with_class_alone d name width little
class_made d name width little spec declared id number made named =
    let alone = with_class_alone d name width little in
    let means : declared ≡ alone.declared = named ∙ ap (λ k. with_name d.declared name (meaning.Class (record { 0 = k }))) number in
    let left : record { spec = spec; declared = declared } ≡ record { spec = alone.spec; declared = declared } = ap (λ s. record { spec = s; declared = declared }) made in
    left ∙ ap (λ m. record { spec = alone.spec; declared = m }) means

-- the names so far
pub names_with_fields : (c : ℕ) (d : Described) (fields : List FieldTree) → (fold (with_field c) d fields).declared.names ≡ d.declared.names ++ map field_name fields
names_with_fields c d [] = sym (append-nil d.declared.names)
names_with_fields c d (f ∷ fs) = names_with_fields c (with_field c d f) fs ∙ append_assoc d.declared.names (f.name ∷ []) (map field_name fs)

-- fields add no class
pub classes_with_fields : (c : ℕ) (d : Described) (fields : List FieldTree) → (fold (with_field c) d fields).spec.tokens.classes ≡ d.spec.tokens.classes
classes_with_fields c d [] = refl
classes_with_fields c d (f ∷ fs) = classes_with_fields c (with_field c d f) fs

module _ (d : Described) (name width : List ℕ) (little : Bool) (fields : List FieldTree) (i : ℕ) (now : Described)
    (made : now ≡ fold (with_field (length d.spec.tokens.classes)) (with_class_alone d name width little) (take i fields)) where
  names_now : now.declared.names ≡ d.declared.names ++ class_names name (take i fields)
  names_now =
      ap (λ (x : Described). x.declared.names) made
      ∙ names_with_fields (length d.spec.tokens.classes) (with_class_alone d name width little) (take i fields)
      ∙ append_assoc d.declared.names (name ∷ []) (map field_name (take i fields))

  class_now : slice_get now.spec.tokens.classes (length d.spec.tokens.classes) ≡ Some (class_of width little)
  class_now =
      ap (λ (x : Described). slice_get x.spec.tokens.classes (length d.spec.tokens.classes)) made
      ∙ ap (λ classes. slice_get classes (length d.spec.tokens.classes))
      (classes_with_fields (length d.spec.tokens.classes) (with_class_alone d name width little) (take i fields))
      ∙ slice_get-push d.spec.tokens.classes (class_of width little)

  module _ (f : FieldTree) (h : i < length fields) (is : f ≡ get_or fields i f) where
    -- the next field's name was not declared
    pub next_new : are_declared_once d.declared (class_names name fields) ≡ true → is_among now.declared.names f.name ≡ false
    next_new once = subst (λ names. is_among names f.name ≡ false) (sym names_now) (field_new d.declared name fields once i f h is)

    -- and its bits are in tokens of the class
    pub next_place : has_widths width fields ≡ true → IsFieldOf now.spec.tokens.classes (field_of (length d.spec.tokens.classes) f)
    next_place widths = field_place width fields widths i f h is now.spec.tokens.classes little (length d.spec.tokens.classes) class_now
