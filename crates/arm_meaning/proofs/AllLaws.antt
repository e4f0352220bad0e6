-- What the arms of `match all` do.
use Rattle.std.proofs.Common.{◌≡◌, ℕ, zero, suc, ◌+◌, ◌<◌, ◌≤◌, ◌≢◌, Bool, true, false, List, [], ◌∷◌, ◌++◌, map, length, All, Option, Some, None, slice_get, refl, sym, ap, ◌∙◌, subst, arith}
use Rattle.std.specs.Prelude.{◌==◌, if◌then◌else◌, codes}
use Rattle.std.specs.List.{flat_map, range_with_len}
use Rattle.std.specs.Option.{option_map_or, option_or}
use Rattle.std.proofs.lemmas.Bool.{ne_eqb, eqb-true, eqb-false}
use Rattle.std.proofs.lemmas.List.{append-nil, append_assoc, map-append}
use Rattle.std.proofs.lemmas.List.Concat.{flat_map-append}
use Rattle.std.proofs.lemmas.List.Elements.{All-nil, All-cons, All-append}
use Rattle.sled_model.specs.declared.constructor.Constructor.{Constructor}
use Rattle.sled_model.specs.declared.instance.Instance.{Instance}
use Rattle.sled_model.specs.declared.instance.Operand.{Operand}
use Rattle.sled_model.specs.declared.pattern.Argument.{Argument}
use Rattle.sled_model.specs.declared.pattern.Argument.TheBlock.{hidden-the_row-Argument-2}
use Rattle.sled_model.specs.declared.pattern.Argument.TheVariants.{Name}
use Rattle.sled_model.specs.declared.pattern.Pattern.{Row_of-Argument, end_of-Argument, more_of-Argument, items-the_row-Argument, items_hidden-the_row-Argument-2}
use Rattle.sled_model.specs.declared.raw.RawEntry.{RawEntry, items_hidden-the_row-RawEntry-0}
use Rattle.sled_model.specs.declared.raw.RawEntry.TheVariants.{Choice}
use Rattle.sled_model.specs.declared.spec.Spec.{Spec}
use Rattle.sled_model.specs.declared.statement.Piece.TheVariants.{Words, Bound}
use Rattle.sled_model.specs.Instances.{Means}
use Rattle.tree_meaning.proofs.Soundness.{All-flat_map}
use Rattle.match_meaning.specs.Names.{AreNameValues, IsNameValue, argument_value, named_among, named_by}
use Rattle.asm_text.specs.Actions.{NamesBelow, piece_text}
use Rattle.asm_text.specs.Instances.{separator, joined, operand_text}
use Rattle.arm_meaning.specs.All.{first_names, words_before, name_piece, written_pieces, ActionsWriteInstances, NamesAreOperands, ActionsNameTheirNames}

not_zero : (k : ℕ) → (suc k == 0) ≡ false
not_zero k = ne_eqb (suc k) 0 (λ e. absurd (omega arith))

-- ---- the action

module _ (spec : Spec) (name : List ℕ) (all : List Operand) where
  -- what a name that is not the first adds to the text
  later_text : (k : ℕ) (o : Operand) → slice_get all (suc k) ≡ Some o → flat_map (piece_text spec all) (name_piece name (suc k)) ≡ separator ++ operand_text spec o
  later_text k o at =
      ap (λ ws. ws ++ (option_map_or (operand_text spec) (slice_get all (suc k)) [] ++ [])) (ap (λ b. if b then name ++ codes "(" else separator) (not_zero k))
      ∙ ap (λ (x : Option Operand). separator ++ (option_map_or (operand_text spec) x [] ++ [])) at
      ∙ ap (λ x. separator ++ x) (append-nil (operand_text spec o))

  -- the names from number k on, which are those of these operands
  later_texts : (k : ℕ) (os : List Operand) → ((j : ℕ) → slice_get all (suc k + j) ≡ slice_get os j)
      → flat_map (piece_text spec all) (flat_map (name_piece name) (range_with_len (suc k) (length os))) ≡ flat_map (λ u. separator ++ u) (map (operand_text spec) os)
  later_texts k [] at = refl
  later_texts k (o ∷ os) at =
      let here : slice_get all (suc k) ≡ Some o = ap (slice_get all) (omega arith) ∙ at 0 in
      let next = λ (j : ℕ). let same : suc (suc k) + j ≡ suc k + suc j = omega arith in ap (slice_get all) same ∙ at (suc j) in
      let more : suc k + 1 ≡ suc (suc k) = omega arith in
      flat_map-append (piece_text spec all) (name_piece name (suc k)) (flat_map (name_piece name) (range_with_len (suc k + 1) (length os)))
      ∙ ap (λ ts. ts ++ flat_map (piece_text spec all) (flat_map (name_piece name) (range_with_len (suc k + 1) (length os)))) (later_text k o here)
      ∙ ap (λ n. (separator ++ operand_text spec o) ++ flat_map (piece_text spec all) (flat_map (name_piece name) (range_with_len n (length os)))) more
      ∙ ap (λ ts. (separator ++ operand_text spec o) ++ ts) (later_texts (suc k) os next)

  -- the text of the pieces, with the text of the operands
  pieces_text : (os : List Operand) → all ≡ os → flat_map (piece_text spec all) (written_pieces name (length os)) ≡ name ++ codes "(" ++ joined (map (operand_text spec) os) ++ codes ")"
  pieces_text [] is =
      append-nil (name ++ codes "()") ∙ sym (append_assoc name (codes "(") (codes ")")) ∙ ap (λ ts. ts ++ codes ")") (sym (append-nil (name ++ codes "(")))
  pieces_text (o ∷ os) is =
      let n = length os in
      let first : slice_get all 0 ≡ Some o = ap (λ xs. slice_get xs 0) is in
      let next = λ (j : ℕ). let same : 1 + j ≡ suc j = omega arith in ap (λ k. slice_get all k) same ∙ ap (λ xs. slice_get xs (suc j)) is in
      let rest = flat_map (name_piece name) (range_with_len (0 + 1) n) in
      ap (λ b. flat_map (piece_text spec all) (if b then Words (name ++ codes "()") ∷ [] else (flat_map (name_piece name) (range_with_len 0 (suc n)) ++ (Words (codes ")") ∷ [])))) (not_zero n)
      ∙ flat_map-append (piece_text spec all) (flat_map (name_piece name) (range_with_len 0 (suc n))) (Words (codes ")") ∷ [])
      ∙ ap (λ ts. ts ++ (codes ")" ++ [])) (flat_map-append (piece_text spec all) (name_piece name 0) rest)
      ∙ ap (λ (x : Option Operand). ((name ++ codes "(") ++ (option_map_or (operand_text spec) x [] ++ [])) ++ flat_map (piece_text spec all) rest ++ (codes ")" ++ [])) first
      ∙ ap (λ x. ((name ++ codes "(") ++ x) ++ flat_map (piece_text spec all) rest ++ (codes ")" ++ [])) (append-nil (operand_text spec o))
      ∙ ap (λ ts. ((name ++ codes "(") ++ operand_text spec o) ++ ts ++ (codes ")" ++ [])) (later_texts 0 os next)
      ∙ ap (λ ts. ts ++ codes ")") (append_assoc (name ++ codes "(") (operand_text spec o) (flat_map (λ u. separator ++ u) (map (operand_text spec) os)))

pub actions_write_instances : ActionsWriteInstances
actions_write_instances spec k c operands known long =
    ap (λ n. flat_map (piece_text spec operands) (written_pieces c.name n)) (sym long)
    ∙ pieces_text spec c.name operands operands refl
    ∙ ap (λ name. name ++ codes "(" ++ joined (map (operand_text spec) operands) ++ codes ")") (sym (ap (λ o. option_map_or (λ (d : Constructor). d.name) o []) known))

-- ---- the names

-- the operand that a list of arguments gives the name, where the first stands for operand number j
abbrev among : ℕ → List Operand → ℕ → List Argument → Option Operand
among k operands j [] = None
among k operands j (a ∷ arguments) = option_or (named_by k (slice_get operands j) a) (among k operands (j + 1) arguments)

among_row : {n : _} (k : ℕ) (operands : List Operand) (j : ℕ) (row : Row_of-Argument n) → named_among k operands j row ≡ among k operands j (items-the_row-Argument _ row)
among_row k operands j end_of-Argument = refl
among_row k operands j (more_of-Argument a row) = ap (λ later. option_or (named_by k (slice_get operands j) a) later) (among_row k operands (j + 1) row)

among_names : (k : ℕ) (operands : List Operand) (o : Operand) → slice_get operands k ≡ Some o → (j n : ℕ) → j ≤ k → k < j + n → among k operands j (map Name (range_with_len j n)) ≡ Some o
among_names k operands o at j zero low high = absurd (omega arith)
among_names k operands o at j (suc n) low high = by_test (j == k) refl (λ (apart : j ≢ k). among_names k operands o at (j + 1) n (omega arith) (omega arith)) where
  by_test : (t : Bool) → (j == k) ≡ t → (j ≢ k → among k operands (j + 1) (map Name (range_with_len (j + 1) n)) ≡ Some o)
      → option_or (if t then slice_get operands j else None) (among k operands (j + 1) (map Name (range_with_len (j + 1) n))) ≡ Some o
  by_test true e later = ap (λ x. option_or x (among k operands (j + 1) (map Name (range_with_len (j + 1) n)))) (ap (slice_get operands) (eqb-true j k e) ∙ at)
  by_test false e later = later (eqb-false j k e)

value_named : (k : ℕ) (operands : List Operand) (o : Operand) (n : ℕ) → slice_get operands k ≡ Some o → k < n → argument_value k (first_names n) operands ≡ Some o
value_named k operands o n at within =
    among_row k operands 0 (hidden-the_row-Argument-2 (first_names n)) ∙ ap (among k operands 0) (items_hidden-the_row-Argument-2 (first_names n))
    ∙ among_names k operands o at 0 n (omega arith) (omega arith)

module _ (spec : Spec) (location : ℕ) (n : ℕ) (inner : List RawEntry) (i : Instance) (is : Means spec location inner i) where
  abbrev entries : List RawEntry
  entries = Choice i.constructor (record { entries = inner }) (first_names n) ∷ []

  named : (k : ℕ) (name : List ℕ) (o : Operand) → slice_get i.operands k ≡ Some o → k < n → IsNameValue spec location name k entries o
  named k name o at within =
      let inside = subst (λ (es : List RawEntry). Means spec location es i) (sym (items_hidden-the_row-RawEntry-0 inner)) is in
      (Some o, (i, refl, inside, sym (value_named k i.operands o n at within)), refl)

  all_named : (k : ℕ) (names : List (List ℕ)) (os : List Operand) → length os ≡ length names → ((j : ℕ) → slice_get i.operands (k + j) ≡ slice_get os j) → k + length names ≡ n
      → AreNameValues spec location entries k names os
  all_named k [] [] long at count = tt
  all_named k [] (o ∷ os) long at count = absurd (omega arith)
  all_named k (name ∷ names) [] long at count = absurd (omega arith)
  all_named k (name ∷ names) (o ∷ os) long at count =
      let here : slice_get i.operands k ≡ Some o = (let same : k ≡ k + 0 = omega arith in ap (slice_get i.operands) same) ∙ at 0 in
      let next = λ (j : ℕ). (let same : (k + 1) + j ≡ k + suc j = omega arith in ap (slice_get i.operands) same) ∙ at (suc j) in
      (named k name o here (omega arith), all_named (k + 1) names os (omega arith) next (omega arith))

pub names_are_operands : NamesAreOperands
names_are_operands spec location c inner i is long =
    all_named spec location (length c.names) inner i is 0 c.names i.operands long (λ j. let same : 0 + j ≡ j = omega arith in ap (slice_get i.operands) same) (omega arith)

-- ---- what the action names

all_range : (P : ℕ → Type 0) (a n : ℕ) → ((k : ℕ) → k < a + n → P k) → All P (range_with_len a n)
all_range P a zero h = All-nil P
all_range P a (suc n) h = All-cons P a (range_with_len (a + 1) n) (h a (omega arith)) (all_range P (a + 1) n (λ k below. h k (omega arith)))

pieces_named : (name : List ℕ) (n : ℕ) → All (NamesBelow n) (written_pieces name n)
pieces_named name zero = All-cons (NamesBelow 0) (Words (name ++ codes "()")) [] tt (All-nil (NamesBelow 0))
pieces_named name (suc m) =
    let n = suc m in let P = NamesBelow n in
    let each = all_range (λ k. All P (name_piece name k)) 0 n
    (λ k below. All-cons P (Words (words_before name k)) (Bound k ∷ []) tt (All-cons P (Bound k) [] (omega arith) (All-nil P))) in
    subst (λ (b : Bool). All P (if b then Words (name ++ codes "()") ∷ [] else (flat_map (name_piece name) (range_with_len 0 n) ++ (Words (codes ")") ∷ [])))) (sym (not_zero m))
    (All-append P (flat_map (name_piece name) (range_with_len 0 n)) (Words (codes ")") ∷ [])
    (All-flat_map P (name_piece name) (range_with_len 0 n) each) (All-cons P (Words (codes ")")) [] tt (All-nil P)))

pub actions_name_their_names : ActionsNameTheirNames
actions_name_their_names k c = pieces_named c.name (length c.names)

-- ---- what each step of the code adds

range_last : (a n j : ℕ) → a + n ≡ j → range_with_len a (suc n) ≡ range_with_len a n ++ j ∷ []
range_last a zero j e = let same : a ≡ j = omega arith in ap (λ x. x ∷ []) same
range_last a (suc n) j e = ap (λ xs. a ∷ xs) (range_last (a + 1) n j (omega arith))

range_more : (k : ℕ) → range_with_len 0 (k + 1) ≡ range_with_len 0 k ++ k ∷ []
range_more k = let longer : k + 1 ≡ suc k = omega arith in ap (range_with_len 0) longer ∙ range_last 0 k k (omega arith)

-- one name more
pub names_more : (k : ℕ) → first_names (k + 1) ≡ first_names k ++ Name k ∷ []
names_more k = ap (map Name) (range_more k) ∙ map-append Name (range_with_len 0 k) (k ∷ [])

pub pieces_more : (name : List ℕ) (k : ℕ)
    → flat_map (name_piece name) (range_with_len 0 (k + 1)) ≡ (flat_map (name_piece name) (range_with_len 0 k) ++ Words (words_before name k) ∷ []) ++ Bound k ∷ []
pieces_more name k =
    ap (flat_map (name_piece name)) (range_more k) ∙ flat_map-append (name_piece name) (range_with_len 0 k) (k ∷ [])
    ∙ sym (append_assoc (flat_map (name_piece name) (range_with_len 0 k)) (Words (words_before name k) ∷ []) (Bound k ∷ []))
