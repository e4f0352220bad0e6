-- The typed operands of a constructor.
use Rattle.std.proofs.Common.{◌≡◌, ℕ, zero, suc, ◌+◌, ◌<◌, Bool, true, false, List, [], ◌∷◌, ◌++◌, length, map, take, drop, get_or, Option, Some, None, refl, sym, ap, ◌∙◌, subst, arith, add-one}
use Rattle.std.specs.Prelude.{not, ◌&&◌, ◌||◌, bytes_eq}
use Rattle.std.proofs.lemmas.List.{append_assoc, append-nil, length-map}
use Rattle.sled_parser.specs.declared.tree.OperandTree.{OperandTree}
use Rattle.sled_model.specs.declared.constructor.TypeId.{TypeId}
use Rattle.tree_meaning.specs.Names.{is_among, are_distinct}
use Rattle.tree_meaning.specs.Scopes.{Declared}
use Rattle.tree_meaning.proofs.ListLemmas.{drop-here, take-here}
use Rattle.tree_meaning.proofs.NamesLemmas.{distinct_next}
use Rattle.operand_meaning.specs.Operands.{operand_name, operand_names}
use Rattle.constructor_scopes.specs.Bodies.{operand_type, if_typed, typed_from, typed_operands}

module _ (declared : Declared) where
  -- one operand more
  typed-push : (k : ℕ) (os : List OperandTree) (o : OperandTree) → typed_from declared k (os ++ o ∷ []) ≡ typed_from declared k os ++ if_typed o (k + length os) (operand_type declared o)
  typed-push k [] o = append-nil (if_typed o k (operand_type declared o)) ∙ ap (λ n. if_typed o n (operand_type declared o)) (let e : k ≡ k + 0 = omega arith in e)
  typed-push k (x ∷ os) o =
      ap (λ rest. if_typed x k (operand_type declared x) ++ rest) (typed-push (k + 1) os o)
      ∙ sym (append_assoc (if_typed x k (operand_type declared x)) (typed_from declared (k + 1) os) (if_typed o (k + 1 + length os) (operand_type declared o)))
      ∙ ap (λ n. (if_typed x k (operand_type declared x) ++ typed_from declared (k + 1) os) ++ if_typed o n (operand_type declared o)) (let e : k + 1 + length os ≡ k + suc (length os) = omega arith in e)

  pub typed_more : (os : List OperandTree) (i : ℕ) (o : OperandTree) → i < length os → o ≡ get_or os i o
      → typed_operands declared (take (i + 1) os) ≡ typed_operands declared (take i os) ++ if_typed o i (operand_type declared o)
  typed_more os i o h is =
      ap (typed_operands declared) (take-here os i o h is) ∙ typed-push 0 (take i os) o
      ∙ ap (λ n. typed_operands declared (take i os) ++ if_typed o n (operand_type declared o)) (take_len os i h) where
        take_len : (xs : List OperandTree) (n : ℕ) → n < length xs → 0 + length (take n xs) ≡ n
        take_len [] n h = absurd (omega arith)
        take_len (x ∷ xs) zero h = refl
        take_len (x ∷ xs) (suc n) h = let e = take_len xs n (omega arith) in omega arith

  both_of : (s t : Bool) → (s && t) ≡ true → (s ≡ true) × (t ≡ true)
  both_of true t h = (refl, h)
  both_of false t h = cc

  not_true : (t : Bool) → not t ≡ true → t ≡ false
  not_true true h = cc
  not_true false h = refl

  none_of : (s t : Bool) → (s || t) ≡ false → (s ≡ false) × (t ≡ false)
  none_of true t h = cc
  none_of false t h = (refl, h)

  abbrev pub names_in : List (List ℕ × ℕ) → List (List ℕ)
  names_in ns = map (λ n. n.0) ns

  apart_case : (o : OperandTree) (k : ℕ) (t : Option TypeId) (rest : List (List ℕ × ℕ)) (n : List ℕ) → bytes_eq n (operand_name o) ≡ false → is_among (names_in rest) n ≡ false
      → is_among (names_in (if_typed o k t ++ rest)) n ≡ false
  apart_case o k None rest n differ h = h
  apart_case o k (Some t) rest n differ h = rw (differ, h) refl

  -- a name that is none of the operands' is none of the typed ones'
  apart : (k : ℕ) (os : List OperandTree) (n : List ℕ) → is_among (operand_names os) n ≡ false → is_among (names_in (typed_from declared k os)) n ≡ false
  apart k [] n h = refl
  apart k (o ∷ os) n h =
      let parts = none_of (bytes_eq n (operand_name o)) (is_among (operand_names os) n) h in
      apart_case o k (operand_type declared o) (typed_from declared (k + 1) os) n parts.0 (apart (k + 1) os n parts.1)

  distinct_case : (o : OperandTree) (k : ℕ) (t : Option TypeId) (rest : List (List ℕ × ℕ)) → is_among (names_in rest) (operand_name o) ≡ false → are_distinct (names_in rest) ≡ true
      → are_distinct (names_in (if_typed o k t ++ rest)) ≡ true
  distinct_case o k None rest differ h = h
  distinct_case o k (Some t) rest differ h = rw (differ, h) refl

  -- typed operands have different names where all operands do
  pub typed_distinct : (k : ℕ) (os : List OperandTree) → are_distinct (operand_names os) ≡ true → are_distinct (names_in (typed_from declared k os)) ≡ true
  typed_distinct k [] h = refl
  typed_distinct k (o ∷ os) h =
      let parts = both_of (not (is_among (operand_names os) (operand_name o))) (are_distinct (operand_names os)) h in
      distinct_case o k (operand_type declared o) (typed_from declared (k + 1) os)
      (apart (k + 1) os (operand_name o) (not_true (is_among (operand_names os) (operand_name o)) parts.0)) (typed_distinct (k + 1) os parts.1)

  -- and so they do behind references
  pub typed_apart : {A : Type 0} (f : A → List ℕ) (xs : List A) (os : List OperandTree) → map f xs ≡ names_in (typed_operands declared os) → are_distinct (operand_names os) ≡ true
      → are_distinct (map f xs) ≡ true
  typed_apart f xs os are distinct = ap are_distinct are ∙ typed_distinct 0 os distinct

split : {A : Type 0} (f : A → List ℕ) (xs : List A) (i : ℕ) (d : A) → i < length xs → map f xs ≡ map f (take i xs) ++ f (get_or xs i d) ∷ map f (drop (suc i) xs)
split f [] i d h = absurd (omega arith)
split f (y ∷ ys) zero d h = refl
split f (y ∷ ys) (suc i) d h = ap (λ rest. f y ∷ rest) (split f ys i d (omega arith))

-- of names that differ, the next is none of those before it
pub fresh_at : {A : Type 0} (f : A → List ℕ) (xs : List A) (i : ℕ) (d : A) → are_distinct (map f xs) ≡ true → i < length xs → is_among (map f (take i xs)) (f (get_or xs i d)) ≡ false
fresh_at f xs i d distinct h =
    distinct_next (map f (take i xs)) (map f (drop (suc i) xs)) (f (get_or xs i d)) (subst (λ ns. are_distinct ns ≡ true) (split f xs i d h) distinct)

pub map-map : {A B C : Type 0} (g : B → C) (f : A → B) (xs : List A) → map g (map f xs) ≡ map (λ x. g (f x)) xs
map-map g f [] = refl
map-map g f (x ∷ xs) = ap (λ rest. g (f x) ∷ rest) (map-map g f xs)
