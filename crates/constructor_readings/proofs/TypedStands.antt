-- Each typed operand of a constructor's declaration stands in the body, under a name that stands for the operand there.
use Rattle.std.proofs.Common.{◌≡◌, ◌⊎◌, inl, inr, ⊎_elim, ℕ, zero, suc, ◌+◌, Bool, true, false, cond, List, [], ◌∷◌, ◌++◌, map, length, Option, Some, None, slice_get, refl, sym, ap, ◌∙◌, subst, arith}
use Rattle.std.specs.Prelude.{not, ◌&&◌, ◌||◌, nat_lt, bytes_eq, is_some, option_map, option_and_then}
use Rattle.std.specs.List.{list_all, position_or_len}
use Rattle.std.specs.Option.{option_map_or, option_or}
use Rattle.std.proofs.lemmas.Bool.{or_cases, or_left, or_right}
use Rattle.std.proofs.lemmas.List.Folds.{list_any-append}
use Rattle.std.proofs.lemmas.Slice.Eq.{bytes_eq-Decides}
use Rattle.token_bits.specs.declared.tokens.FieldId.{FieldId}
use Rattle.sled_parser.specs.declared.tree.EqTree.{EqTree}
use Rattle.sled_parser.specs.declared.tree.OperandTree.{OperandTree}
use Rattle.sled_parser.specs.declared.tree.OperandTree.TheVariants.{Word, Extended, Typed}
use Rattle.sled_model.specs.declared.constructor.TypeId.{TypeId}
use Rattle.sled_model.specs.declared.constructor.OperandKind.{OperandKind}
use Rattle.sled_model.specs.declared.constructor.OperandKind.TheVariants as kind
use Rattle.tree_meaning.specs.declared.scope.Meaning.{Meaning}
use Rattle.tree_meaning.specs.declared.scope.Meaning.TheVariants as meaning
use Rattle.tree_meaning.specs.Names.{is_among, are_distinct}
use Rattle.tree_meaning.specs.Scopes.{Declared, meaning_among, meaning_of, field_named, type_named, as_type}
use Rattle.operand_meaning.specs.Operands.{operand_name, operand_names, declared_kind, operand_kind, operand_kinds, operands_are_known}
use Rattle.operand_meaning.specs.Standing.{operand_stands, operands_stand}
use Rattle.operand_meaning.specs.Terms.{sliced_names, names_in}
use Rattle.operand_meaning.proofs.ListFacts.{both_of, not_true, slice_get-filter_map}
use Rattle.constructor_scopes.specs.Bodies.{operand_type, if_typed, typed_from, typed_operands, with_operands}
use Rattle.constructor_scopes.proofs.NewLemmas.{suc_below, below_suc}

-- ---- lists

all_here : {A : Type 0} (p : A → Bool) (xs : List A) (k : ℕ) (x : A) → slice_get xs k ≡ Some x → list_all p xs ≡ true → p x ≡ true
all_here p [] k x at all = cc
all_here p (y ∷ xs) zero x at all = let same : y ≡ x = cc in ap p (sym same) ∙ (both_of (p y) (list_all p xs) all).0
all_here p (y ∷ xs) (suc k) x at all = all_here p xs k x at (both_of (p y) (list_all p xs) all).1

pub name_among : (os : List OperandTree) (k : ℕ) (o : OperandTree) → slice_get os k ≡ Some o → is_among (operand_names os) (operand_name o) ≡ true
name_among [] k o at = cc
name_among (x ∷ os) zero o at =
    let same : x ≡ o = cc in
    or_left (bytes_eq (operand_name o) (operand_name x)) (is_among (operand_names os) (operand_name o))
    ((bytes_eq-Decides (operand_name o) (operand_name x)).1 (ap operand_name (sym same)))
name_among (x ∷ os) (suc k) o at =
    or_right (bytes_eq (operand_name o) (operand_name x)) (is_among (operand_names os) (operand_name o)) (name_among os k o at)

neither : (a b : Bool) → (a || b) ≡ false → (a ≡ false) × (b ≡ false)
neither true b h = cc
neither false b h = (refl, h)

-- a name of the front is none of the others
pub front_apart : (ns ms : List (List ℕ)) (w : List ℕ) → are_distinct (ns ++ ms) ≡ true → is_among ns w ≡ true → is_among ms w ≡ false
front_apart [] ms w distinct among = cc
front_apart (n ∷ ns) ms w distinct among =
    let both = both_of (not (is_among (ns ++ ms) n)) (are_distinct (ns ++ ms)) distinct in
    ⊎_elim
    (λ same.
    let name : w ≡ n = (bytes_eq-Decides w n).0 same in
    let none : is_among (ns ++ ms) w ≡ false = ap (is_among (ns ++ ms)) name ∙ not_true (is_among (ns ++ ms) n) both.0 in
    (neither (is_among ns w) (is_among ms w) (sym (list_any-append (bytes_eq w) ns ms) ∙ none)).1)
    (λ later. front_apart ns ms w both.1 later)
    (or_cases (bytes_eq w n) (is_among ns w) among)

-- ---- what a name among names stands for

behind : (t : Bool) (l : ℕ) (m : Meaning) (ms : List Meaning) → option_and_then (slice_get (m ∷ ms)) (cond t (Some (suc l)) None) ≡ option_and_then (slice_get ms) (cond t (Some l) None)
behind true l m ms = refl
behind false l m ms = refl

first_case : (t : Bool) (l n : ℕ) (m : Meaning) (ms : List Meaning)
    → option_and_then (slice_get (m ∷ ms)) (cond (nat_lt (cond (not t) (1 + l) 0) (suc n)) (Some (cond (not t) (1 + l) 0)) None)
    ≡ cond t (Some m) (option_and_then (slice_get ms) (cond (nat_lt l n) (Some l) None))
first_case true l n m ms = ap (λ t. option_and_then (slice_get (m ∷ ms)) (cond t (Some 0) None)) (below_suc n)
first_case false l n m ms =
    ap (λ k. option_and_then (slice_get (m ∷ ms)) (cond (nat_lt k (suc n)) (Some k) None)) (let e : 1 + l ≡ suc l = omega arith in e)
    ∙ ap (λ t. option_and_then (slice_get (m ∷ ms)) (cond t (Some (suc l)) None)) (suc_below l n (nat_lt l n) refl) ∙ behind (nat_lt l n) l m ms

-- the first name's meaning, or one among the others'
pub among_first : (n : List ℕ) (ns : List (List ℕ)) (m : Meaning) (ms : List Meaning) (w : List ℕ)
    → meaning_among (n ∷ ns) (m ∷ ms) w ≡ cond (bytes_eq w n) (Some m) (meaning_among ns ms w)
among_first n ns m ms w = first_case (bytes_eq w n) (position_or_len (bytes_eq w) ns) (length ns) m ms

-- ---- typed operands

module _ (declared : Declared) where
  -- what the names of these typed operands stand for
  abbrev local_among : List (List ℕ × ℕ) → List ℕ → Option Meaning
  local_among xs w = meaning_among (map (λ (x : List ℕ × ℕ). x.0) xs) (map (λ (x : List ℕ × ℕ). meaning.Operand x.1) xs) w

  typed_here : (o : OperandTree) (j : ℕ) (t : Option TypeId) (u : TypeId) (rest : List (List ℕ × ℕ)) → t ≡ Some u → local_among (if_typed o j t ++ rest) (operand_name o) ≡ Some (meaning.Operand j)
  typed_here o j None u rest is = cc
  typed_here o j (Some v) u rest is =
      among_first (operand_name o) (map (λ (x : List ℕ × ℕ). x.0) rest) (meaning.Operand j) (map (λ (x : List ℕ × ℕ). meaning.Operand x.1) rest) (operand_name o)
      ∙ ap (λ b. cond b (Some (meaning.Operand j)) (local_among rest (operand_name o))) ((bytes_eq-Decides (operand_name o) (operand_name o)).1 refl)

  typed_later : (o : OperandTree) (j : ℕ) (t : Option TypeId) (rest : List (List ℕ × ℕ)) (w : List ℕ) → bytes_eq w (operand_name o) ≡ false → local_among (if_typed o j t ++ rest) w ≡ local_among rest w
  typed_later o j None rest w differ = refl
  typed_later o j (Some v) rest w differ =
      among_first (operand_name o) (map (λ (x : List ℕ × ℕ). x.0) rest) (meaning.Operand j) (map (λ (x : List ℕ × ℕ). meaning.Operand x.1) rest) w
      ∙ ap (λ b. cond b (Some (meaning.Operand j)) (local_among rest w)) differ

  -- the name of a typed operand stands for its number
  typed_found : (j k : ℕ) (os : List OperandTree) (o : OperandTree) (t : TypeId) → slice_get os k ≡ Some o → operand_type declared o ≡ Some t → are_distinct (operand_names os) ≡ true
      → local_among (typed_from declared j os) (operand_name o) ≡ Some (meaning.Operand (j + k))
  typed_found j k [] o t at type distinct = cc
  typed_found j zero (x ∷ os) o t at type distinct =
      let same : x ≡ o = cc in
      ap (λ (w : OperandTree). local_among (if_typed x j (operand_type declared x) ++ typed_from declared (j + 1) os) (operand_name w)) (sym same)
      ∙ typed_here x j (operand_type declared x) t (typed_from declared (j + 1) os) (ap (operand_type declared) same ∙ type)
      ∙ ap (λ n. Some (meaning.Operand n)) (let e : j ≡ j + 0 = omega arith in e)
  typed_found j (suc k) (x ∷ os) o t at type distinct =
      let both = both_of (not (is_among (operand_names os) (operand_name x))) (are_distinct (operand_names os)) distinct in
      typed_later x j (operand_type declared x) (typed_from declared (j + 1) os) (operand_name o) (differ (bytes_eq (operand_name o) (operand_name x)) refl (not_true (is_among (operand_names os) (operand_name x)) both.0))
      ∙ typed_found (j + 1) k os o t at type both.1
      ∙ ap (λ n. Some (meaning.Operand n)) (let e : j + 1 + k ≡ j + suc k = omega arith in e)
    where
      differ : (b : Bool) → bytes_eq (operand_name o) (operand_name x) ≡ b → is_among (operand_names os) (operand_name x) ≡ false → b ≡ false
      differ false is none = refl
      differ true is none =
          let name : operand_name o ≡ operand_name x = (bytes_eq-Decides (operand_name o) (operand_name x)).0 is in
          let there : is_among (operand_names os) (operand_name x) ≡ true = ap (is_among (operand_names os)) (sym name) ∙ name_among os k o at in cc

  -- in the scope of the operands
  name_stands : (os : List OperandTree) (k : ℕ) (o : OperandTree) (t : TypeId) → slice_get os k ≡ Some o → operand_type declared o ≡ Some t → are_distinct (operand_names os) ≡ true
      → meaning_of (with_operands declared os) (operand_name o) ≡ Some (meaning.Operand k)
  name_stands os k o t at type distinct =
      ap (λ m. option_or m (meaning_among declared.names declared.meanings (operand_name o))) (typed_found 0 k os o t at type distinct)
      ∙ ap (λ n. Some (meaning.Operand n)) (let e : 0 + k ≡ k = omega arith in e)

  -- ---- kinds

  number_type : (b : Bool) (t : TypeId) (o : Option TypeId) → Some (cond b kind.Sliced kind.Whole) ≡ Some (kind.Typed t) → o ≡ Some t
  number_type true t o is = cc
  number_type false t o is = cc

  word_type : (m : Option Meaning) (b : Bool) (t : TypeId) → option_map_or declared_kind m (Some (cond b kind.Sliced kind.Whole)) ≡ Some (kind.Typed t) → option_and_then as_type m ≡ Some t
  word_type None b t is = number_type b t None is
  word_type (Some (meaning.Class c)) b t is = cc
  word_type (Some (meaning.Field f)) b t is = cc
  word_type (Some (meaning.Pattern p)) b t is = cc
  word_type (Some (meaning.Group ps)) b t is = cc
  word_type (Some (meaning.Type u)) b t is = cc
  word_type (Some (meaning.Operand j)) b t is = cc

  extended_type : (o : Option FieldId) (t : TypeId) → option_map kind.Extended o ≡ Some (kind.Typed t) → None ≡ Some t
  extended_type None t is = cc
  extended_type (Some f) t is = cc

  written_type : (o : Option TypeId) (t : TypeId) → option_map kind.Typed o ≡ Some (kind.Typed t) → o ≡ Some t
  written_type None t is = cc
  written_type (Some u) t is = cc

  -- an operand that is of a type has that type
  type_of : (equations : List EqTree) (o : OperandTree) (t : TypeId) → operand_kind declared equations o ≡ Some (kind.Typed t) → operand_type declared o ≡ Some t
  type_of equations (Word w) t is = word_type (meaning_of declared w) (is_among (sliced_names equations) w) t is
  type_of equations (Extended w) t is = extended_type (field_named declared w) t is
  type_of equations (Typed n r) t is = written_type (type_named declared r) t is

  -- and its name is bound
  word_bound : (m : Option Meaning) (t : TypeId) (a b : Bool) → option_and_then as_type m ≡ Some t → cond (is_some m) a b ≡ true → a ≡ true
  word_bound None t a b is stands = cc
  word_bound (Some m) t a b is stands = stands

  type_bound : (bound : List (List ℕ)) (equations : List EqTree) (o : OperandTree) (t : TypeId) → operand_type declared o ≡ Some t
      → operand_stands declared (is_among bound) (is_among (names_in equations)) o ≡ true → is_among bound (operand_name o) ≡ true
  type_bound bound equations (Word w) t is stands = word_bound (meaning_of declared w) t (is_among bound w) (is_among (names_in equations) w) is stands
  type_bound bound equations (Extended w) t is stands = cc
  type_bound bound equations (Typed n r) t is stands = stands

  -- the operand of a declaration that has this number, and is of this type
  pub record IsTypedOperand (os : List OperandTree) (k : ℕ) (t : TypeId) (o : OperandTree) : Type 0 where
    pub place : slice_get os k ≡ Some o
    pub type : operand_type declared o ≡ Some t

  pub typed_operand : (equations : List EqTree) (os : List OperandTree) → operands_are_known declared equations os ≡ true
      → (k : ℕ) (t : TypeId) → slice_get (operand_kinds declared equations os) k ≡ Some (kind.Typed t) → (o : OperandTree) × IsTypedOperand os k t o
  typed_operand equations os known k t at = by_operand (slice_get os k) refl (sym (slice_get-filter_map (operand_kind declared equations) os k known) ∙ at) where
    by_operand : (o : Option OperandTree) → slice_get os k ≡ o → option_and_then (operand_kind declared equations) o ≡ Some (kind.Typed t) → (o : OperandTree) × IsTypedOperand os k t o
    by_operand None there is = cc
    by_operand (Some o) there is = (o, record { place = there; type = type_of equations o t is })

  -- the name under which a typed operand stands in the body
  pub record IsTypedName (names : List (List ℕ)) (os : List OperandTree) (k : ℕ) (w : List ℕ) : Type 0 where
    pub stands : meaning_of (with_operands declared os) w ≡ Some (meaning.Operand k)
    pub bound : is_among names w ≡ true
    pub named : is_among (operand_names os) w ≡ true

  pub typed_name : (bound : List (List ℕ)) (equations : List EqTree) (os : List OperandTree) → operands_are_known declared equations os ≡ true → are_distinct (operand_names os) ≡ true
      → operands_stand declared bound os equations ≡ true → (k : ℕ) (t : TypeId) → slice_get (operand_kinds declared equations os) k ≡ Some (kind.Typed t)
      → (w : List ℕ) × IsTypedName bound os k w
  typed_name bound equations os known distinct stand k t at =
      let found = typed_operand equations os known k t at in
      let o = found.0 in let is = found.1 in (
        operand_name o,
        record {
          stands = name_stands os k o t is.place is.type distinct;
          bound = type_bound bound equations o t is.type (all_here (operand_stands declared (is_among bound) (is_among (names_in equations))) os k o is.place stand);
          named = name_among os k o is.place;
        },
      )
