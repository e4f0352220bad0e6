-- The operands of names in the body of a constructor: each has one name, and no label has it.
use Rattle.std.proofs.Common.{◌≡◌, ℕ, zero, suc, ◌+◌, Bool, true, false, cond, List, [], ◌∷◌, ◌++◌, map, Option, Some, None, slice_get, refl, sym, ap, ◌∙◌, arith}
use Rattle.std.specs.Prelude.{All, bytes_eq, is_none, option_and_then}
use Rattle.std.specs.List.{list_all}
use Rattle.std.specs.Option.{option_or}
use Rattle.std.proofs.lemmas.Bool.{or_left, or_right}
use Rattle.std.proofs.lemmas.Option.{same_Some}
use Rattle.std.proofs.lemmas.List.Elements.{All-nil, All-same}
use Rattle.std.proofs.lemmas.Slice.Eq.{bytes_eq-Decides}
use Rattle.token_bits.specs.declared.tokens.Tokens.{Tokens}
use Rattle.sled_parser.specs.declared.tree.OperandTree.{OperandTree}
use Rattle.sled_parser.specs.declared.tree.PatternTree.{PatternTree}
use Rattle.sled_model.specs.declared.constructor.TypeId.{TypeId}
use Rattle.tree_meaning.specs.declared.scope.Meaning.{Meaning}
use Rattle.tree_meaning.specs.declared.scope.Meaning.TheVariants as meaning
use Rattle.tree_meaning.specs.Names.{is_among, are_distinct}
use Rattle.tree_meaning.specs.Parts.{parts, part_labels, labels}
use Rattle.tree_meaning.specs.Scopes.{Declared, meaning_among, meaning_of}
use Rattle.tree_meaning.specs.Sound.{IsSoundMeaning}
use Rattle.tree_meaning.proofs.Soundness.{found_all}
use Rattle.operand_meaning.specs.Operands.{operand_name, operand_names}
use Rattle.operand_meaning.proofs.ListFacts.{all-flat_map}
use Rattle.constructor_scopes.specs.Bodies.{operand_type, if_typed, typed_from, with_operands}
use Rattle.constructor_plans.proofs.PickLemmas.{itself}
use Rattle.constructor_readings.proofs.TypedStands.{among_first, name_among, front_apart}

-- ---- the number of the operand of a name

abbrev pub as_operand : Meaning → Option ℕ
as_operand (meaning.Operand k) = Some k
as_operand _ = None

abbrev pub operand_number : Declared → List ℕ → Option ℕ
operand_number scope w = option_and_then as_operand (meaning_of scope w)

number_meaning : (m : Option Meaning) (n : ℕ) → option_and_then as_operand m ≡ Some n → m ≡ Some (meaning.Operand n)
number_meaning None n is = cc
number_meaning (Some (meaning.Class c)) n is = cc
number_meaning (Some (meaning.Field f)) n is = cc
number_meaning (Some (meaning.Pattern p)) n is = cc
number_meaning (Some (meaning.Group ps)) n is = cc
number_meaning (Some (meaning.Type t)) n is = cc
number_meaning (Some (meaning.Operand k)) n is = let same : k ≡ n = cc in ap (λ j. Some (meaning.Operand j)) same

-- ---- the name of a typed operand

-- the operand of this number, where the first has number j, has the name
record IsNamed (j : ℕ) (os : List OperandTree) (w : List ℕ) (m : ℕ) : Type 0 where
  place : ℕ
  operand : OperandTree
  number : m ≡ j + place
  here : slice_get os place ≡ Some operand
  name : operand_name operand ≡ w

past : (j : ℕ) (x : OperandTree) (os : List OperandTree) (w : List ℕ) (m : ℕ) → IsNamed (j + 1) os w m → IsNamed j (x ∷ os) w m
past j x os w m h = let number = h.number in record { place = suc h.place; operand = h.operand; number = omega (arith, number); here = h.here; name = h.name }

module _ (declared : Declared) where
  abbrev local_among : List (List ℕ × ℕ) → List ℕ → Option Meaning
  local_among xs w = meaning_among (map (λ (x : List ℕ × ℕ). x.0) xs) (map (λ (x : List ℕ × ℕ). meaning.Operand x.1) xs) w

  by_type : (j : ℕ) (x : OperandTree) (os : List OperandTree) (w : List ℕ) (m : ℕ) (t : Option TypeId)
      → (local_among (typed_from declared (j + 1) os) w ≡ Some (meaning.Operand m) → IsNamed (j + 1) os w m)
      → local_among (if_typed x j t ++ typed_from declared (j + 1) os) w ≡ Some (meaning.Operand m) → IsNamed j (x ∷ os) w m
  by_type j x os w m None later is = past j x os w m (later is)
  by_type j x os w m (Some t) later is =
      let rest = typed_from declared (j + 1) os in
      by_test (bytes_eq w (operand_name x)) refl
      (sym (among_first (operand_name x) (map (λ (y : List ℕ × ℕ). y.0) rest) (meaning.Operand j) (map (λ (y : List ℕ × ℕ). meaning.Operand y.1) rest) w) ∙ is)
    where
      by_test : (b : Bool) → bytes_eq w (operand_name x) ≡ b → cond b (Some (meaning.Operand j)) (local_among (typed_from declared (j + 1) os) w) ≡ Some (meaning.Operand m)
          → IsNamed j (x ∷ os) w m
      by_test true same there =
          let number : j ≡ m = cc in
          record { place = 0; operand = x; number = omega (arith, number); here = refl; name = sym ((bytes_eq-Decides w (operand_name x)).0 same) }
      by_test false differ there = past j x os w m (later there)

  named_by : (j : ℕ) (os : List OperandTree) (w : List ℕ) (m : ℕ) → local_among (typed_from declared j os) w ≡ Some (meaning.Operand m) → IsNamed j os w m
  named_by j [] w m is = cc
  named_by j (x ∷ os) w m is = by_type j x os w m (operand_type declared x) (named_by (j + 1) os w m) is

  module _ (tokens : Tokens) (outside : declared.local_names ≡ []) (none : declared.local_meanings ≡ []) (sound : All (IsSoundMeaning tokens) declared.meanings) (os : List OperandTree) where
    abbrev scope : Declared
    scope = with_operands declared os

    -- no declared name stands for an operand
    outer_none : (w : List ℕ) (n : ℕ) → meaning_among declared.names declared.meanings w ≡ Some (meaning.Operand n) → ⊥
    outer_none w n is =
        let here : meaning_of declared w ≡ Some (meaning.Operand n) =
        ap (λ ns. option_or (meaning_among ns declared.local_meanings w) (meaning_among declared.names declared.meanings w)) outside ∙ is in
        found_all (IsSoundMeaning tokens) declared sound (All-same (IsSoundMeaning tokens) declared.local_meanings [] none (All-nil (IsSoundMeaning tokens))) w (meaning.Operand n) here

    is_local : (w : List ℕ) (n : ℕ) (o : Option Meaning) → option_or o (meaning_among declared.names declared.meanings w) ≡ Some (meaning.Operand n) → o ≡ Some (meaning.Operand n)
    is_local w n None is = absurd (outer_none w n is)
    is_local w n (Some m) is = is

    number_named : (w : List ℕ) (n : ℕ) → operand_number scope w ≡ Some n → IsNamed 0 os w n
    number_named w n is =
        named_by 0 os w n (is_local w n (meaning_among scope.local_names scope.local_meanings w) (number_meaning (meaning_of scope w) n is))

    -- each operand has one name
    pub one_name : (v w : List ℕ) (n : ℕ) → operand_number scope v ≡ Some n → operand_number scope w ≡ Some n → v ≡ w
    one_name v w n first second =
        let a = number_named v n first in
        let b = number_named w n second in
        let one = a.number in let other = b.number in
        let place : a.place ≡ b.place = omega (arith, one, other) in
        let same : a.operand ≡ b.operand = same_Some a.operand b.operand (sym a.here ∙ ap (slice_get os) place ∙ b.here) in
        sym a.name ∙ ap operand_name same ∙ b.name

    -- ---- labels

    each_among : (p : List ℕ → Bool) (ns : List (List ℕ)) → ((l : List ℕ) → is_among ns l ≡ true → p l ≡ true) → list_all p ns ≡ true
    each_among p [] h = refl
    each_among p (n ∷ ns) h =
        let here = h n (or_left (bytes_eq n n) (is_among ns n) (itself n)) in
        let later = each_among p ns (λ l among. h l (or_right (bytes_eq l n) (is_among ns l) among)) in rw (here, later) refl

    module _ (t : PatternTree) (apart : are_distinct (operand_names os ++ labels t) ≡ true) where
      label_free : (l : List ℕ) → is_among (labels t) l ≡ true → is_none (operand_number scope l) ≡ true
      label_free l among = by_number (operand_number scope l) refl where
        by_number : (o : Option ℕ) → operand_number scope l ≡ o → is_none o ≡ true
        by_number None is = refl
        by_number (Some n) is =
            let a = number_named l n is in
            let named : is_among (operand_names os) l ≡ true = ap (is_among (operand_names os)) (sym a.name) ∙ name_among os a.place a.operand a.here in
            let free : is_among (labels t) l ≡ false = front_apart (operand_names os) (labels t) l apart named in cc

      -- no label is an operand's name
      pub labels_free : list_all (λ u. list_all (λ l. is_none (operand_number scope l)) (part_labels u)) (parts t) ≡ true
      labels_free =
          sym (all-flat_map (λ l. is_none (operand_number scope l)) part_labels (parts t)) ∙ each_among (λ l. is_none (operand_number scope l)) (labels t) label_free
