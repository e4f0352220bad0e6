-- The equations that are made meet what is asked of those of a constructor, where conditions 2, 10 and 11 are met.
use Rattle.std.proofs.Common.{◌≡◌, ◌≢◌, ℕ, ◌+◌, ◌*◌, ◌^◌, ◌≤◌, Bool, true, false, cond, List, [], ◌∷◌, ◌++◌, length, length-append, slice_get, All, Some, None, refl, sym, ap, ◌∙◌, arith, pos, ◌+ℤ◌}
use Rattle.std.specs.Prelude.{Option, not, nat_le, ◌&&◌, ◌||◌, is_some, unwrap_or, bytes_eq}
use Rattle.std.specs.List.{list_all, filter_map, cons_option}
use Rattle.std.specs.Option.{option_map_or}
use Rattle.std.proofs.lemmas.Bool.Decides.{nat_tests}
use Rattle.std.proofs.lemmas.List.Elements.{All-nil, All-cons, All-append}
use Rattle.std.proofs.lemmas.List.Folds.{list_all-append}
use Rattle.std.proofs.lemmas.Slice.Eq.{bytes_eq-Decides}
use Rattle.token_bits.specs.declared.tokens.FieldId.{FieldId}
use Rattle.sled_lexer.specs.Spelled.{number_value}
use Rattle.sled_parser.specs.declared.tree.EqTree.{EqTree}
use Rattle.sled_parser.specs.declared.tree.OperandTree.{OperandTree}
use Rattle.sled_parser.specs.declared.tree.PlaceTree.{PlaceTree}
use Rattle.sled_parser.specs.declared.tree.PlaceTree.TheVariants.{Word, Extended, Slice}
use Rattle.sled_parser.specs.declared.tree.TermTree.{TermTree}
use Rattle.sled_parser.specs.declared.tree.TermTree.TheVariants.{Number, Place}
use Rattle.sled_model.specs.declared.constructor.Atom.TheVariants as atom
use Rattle.sled_model.specs.declared.constructor.Constructor.{Constructor}
use Rattle.sled_model.specs.declared.constructor.OperandKind.TheVariants.{Whole, Sliced}
use Rattle.sled_model.specs.Linear.{IsAtomOf, IsEquationOf, IsTermOf, IsWithin, labels_in}
use Rattle.sled_model.specs.SolvingOrder.{bare_fields, is_among as is_number_among}
use Rattle.tree_meaning.specs.Names.{is_among, position_of}
use Rattle.tree_meaning.specs.Scopes.{Declared, field_named}
use Rattle.tree_meaning.proofs.NamesLemmas.{position_found}
use Rattle.operand_meaning.specs.Equations.{number_of, place_atom, signed, is_negative, term_of, sum_of, equation_of, equations_of}
use Rattle.operand_meaning.specs.Limits.{is_coefficient, has_bits, place_is_within, term_is_within, atoms_differ, equation_is_within, are_within_limits}
use Rattle.operand_meaning.specs.Operands.{lone_words, is_number, operand_kinds, operands_are_known}
use Rattle.operand_meaning.specs.Standing.{is_bare, place_stands, term_stands, operands_stand, hidden_fields_stand, terms_stand, names_stand}
use Rattle.operand_meaning.specs.Terms.{equation_terms, terms_in, sliced_name, sliced_place, sliced_names, is_term_in_range, is_equation_in_range, have_equations_in_range}
use Rattle.operand_meaning.proofs.BoundLaws.{signed_within, signed_nonzero, plus_within, wider, sums_within}
use Rattle.operand_meaning.proofs.KindLaws.{number_found, number_kind}
use Rattle.operand_meaning.proofs.ListFacts.{both_of, not_true, length-filter_map, all-flat_map, position_none}

-- the constructor has these operands, and its body has the fields and labels of these names
pub record IsMadeOf (declared : Declared) (bound labels : List (List ℕ)) (operands : List OperandTree) (equations : List EqTree) (c : Constructor) : Type 0 where
  pub kinds : c.operands ≡ operand_kinds declared equations operands
  pub fields : (w : List ℕ) (f : FieldId) → is_among bound w ≡ true → field_named declared w ≡ Some f → is_number_among (bare_fields c.body) f.0 ≡ true
  pub labelled : length labels ≤ length (labels_in c.body)

either_of : (s t : Bool) → (s || t) ≡ true → s ≡ false → t ≡ true
either_of true t h e = cc
either_of false t h e = h

-- a slice names what the equations have a slice of
abbrev pub slice_is_known : (List ℕ → Bool) → TermTree → Bool
slice_is_known is_sliced t = option_map_or is_sliced (sliced_name t) true

-- where all that is picked passes, each item passes by what is picked of it
picked_pass : {X : Type 0} (h : X → Option (List ℕ)) (s : List ℕ → Bool) (xs : List X) → ((w : List ℕ) → is_among (filter_map h xs) w ≡ true → s w ≡ true)
    → list_all (λ x. option_map_or s (h x) true) xs ≡ true
picked_pass h s [] pass = refl
picked_pass {X} h s (x ∷ xs) pass = by_value (h x) pass (picked_pass h s xs) where
  or_true : (t : Bool) → (t || true) ≡ true
  or_true true = refl
  or_true false = refl

  by_value : (o : Option (List ℕ)) → ((w : List ℕ) → is_among (cons_option o (filter_map h xs)) w ≡ true → s w ≡ true)
      → (((w : List ℕ) → is_among (filter_map h xs) w ≡ true → s w ≡ true) → list_all (λ y. option_map_or s (h y) true) xs ≡ true)
      → (option_map_or s o true && list_all (λ y. option_map_or s (h y) true) xs) ≡ true
  by_value None pass later = later pass
  by_value (Some v) pass later =
      let itself : bytes_eq v v ≡ true = (bytes_eq-Decides v v).1 refl in
      let here : s v ≡ true = pass v (rw itself refl) in
      let rest : list_all (λ y. option_map_or s (h y) true) xs ≡ true = later (λ w e. pass w (rw e (or_true (bytes_eq w v)))) in
      rw (here, rest) refl

-- each slice in the equations names what they have a slice of
slices_known : (equations : List EqTree) → list_all (slice_is_known (is_among (sliced_names equations))) (terms_in equations) ≡ true
slices_known equations = picked_pass sliced_name (is_among (sliced_names equations)) (terms_in equations) (λ w e. e)

module _ (declared : Declared) (bound labels : List (List ℕ)) (operands : List OperandTree) (equations : List EqTree) (c : Constructor)
    (made : IsMadeOf declared bound labels operands equations c) (known : operands_are_known declared equations operands ≡ true) where
  operand_at : (w : List ℕ) (k : ℕ) → number_of declared operands w ≡ Some k
      → slice_get c.operands k ≡ Some (cond (is_among (sliced_names equations) w) Sliced Whole)
  operand_at w k e = ap (λ kinds. slice_get kinds k) made.kinds ∙ number_kind declared operands w equations k known e

  field_at : (w : List ℕ) (o : Option FieldId) → field_named declared w ≡ o → is_bare declared (is_among bound) w ≡ true
      → is_number_among (bare_fields c.body) (unwrap_or o (record { 0 = 0 })).0 ≡ true
  field_at w None e bare = let parts = both_of (is_among bound w) (is_some (field_named declared w)) bare in let none = ap is_some e in cc
  field_at w (Some f) e bare = let parts = both_of (is_among bound w) (is_some (field_named declared w)) bare in made.fields w f parts.0 e

  word_is : (w : List ℕ) (number label : Option ℕ) → number_of declared operands w ≡ number → position_of labels w ≡ label
      → place_stands declared (is_among (lone_words operands)) (is_among labels) (is_among bound) (Word w) ≡ true
      → not (is_among (sliced_names equations) w) ≡ true
      → IsAtomOf c (option_map_or atom.Name number (option_map_or atom.Label label (atom.Field (unwrap_or (field_named declared w) (record { 0 = 0 })))))
  word_is w (Some k) label e f stands whole =
      let unsliced = not_true (is_among (sliced_names equations) w) whole in
      operand_at w k e ∙ ap (λ t. Some (cond t Sliced Whole)) unsliced
  word_is w None (Some l) e f stands whole =
      let within = (position_found labels w l f).0 in
      let enough = made.labelled in
      omega arith
  word_is w None None e f stands whole =
      let number : is_number declared (is_among (lone_words operands)) w ≡ false = unless_number (is_number declared (is_among (lone_words operands)) w) refl in
      let label : is_among labels w ≡ false = position_none (bytes_eq w) labels f in
      let bare = either_of (is_among labels w) (is_bare declared (is_among bound) w)
      (either_of (is_number declared (is_among (lone_words operands)) w) (is_among labels w || is_bare declared (is_among bound) w) (or_assoc (is_number declared (is_among (lone_words operands)) w) (is_among labels w) (is_bare declared (is_among bound) w) stands) number) label in
      field_at w (field_named declared w) refl bare
    where
      unless_number : (t : Bool) → is_number declared (is_among (lone_words operands)) w ≡ t → t ≡ false
      unless_number true is = absurd (number_found declared operands w is e)
      unless_number false is = refl

      or_assoc : (r s t : Bool) → ((r || s) || t) ≡ true → (r || (s || t)) ≡ true
      or_assoc true s t h = refl
      or_assoc false s t h = h

  slice_is : (w lo hi : List ℕ) (number : Option ℕ) → number_of declared operands w ≡ number
      → is_number declared (is_among (lone_words operands)) w ≡ true → has_bits lo hi ≡ true → is_among (sliced_names equations) w ≡ true
      → IsAtomOf c (atom.Slice (unwrap_or number 0) (number_value lo) (number_value hi))
  slice_is w lo hi None e number bits sliced = absurd (number_found declared operands w number e)
  slice_is w lo hi (Some k) e number bits sliced =
      let parts = both_of (nat_le (number_value lo) (number_value hi)) (nat_le (number_value hi) 31) bits in
      let order : number_value lo ≤ number_value hi = grind (arith, nat_tests) in
      let most : number_value hi ≤ 31 = grind (arith, nat_tests) in
      (operand_at w k e ∙ ap (λ t. Some (cond t Sliced Whole)) sliced, order, most)

  place_is : (p : PlaceTree) → place_stands declared (is_among (lone_words operands)) (is_among labels) (is_among bound) p ≡ true
      → place_is_within declared (is_among (lone_words operands)) (is_among (sliced_names equations)) p ≡ true
      → option_map_or (is_among (sliced_names equations)) (sliced_place p) true ≡ true
      → IsAtomOf c (place_atom declared labels operands p)
  place_is (Word w) stands within sliced = word_is w (number_of declared operands w) (position_of labels w) refl refl stands within
  place_is (Extended w) stands within sliced = field_at w (field_named declared w) refl stands
  place_is (Slice w lo hi) stands within sliced =
      let parts = both_of (has_bits lo hi) (is_number declared (is_among (lone_words operands)) w) within in
      slice_is w lo hi (number_of declared operands w) refl parts.1 parts.0 sliced

  coefficient_is : (negative : Bool) (coefficient : Option (List ℕ)) → option_map_or is_coefficient coefficient true ≡ true
      → IsWithin (2 ^ 16) (signed negative (option_map_or number_value coefficient 1)) × (signed negative (option_map_or number_value coefficient 1) ≢ pos 0)
  coefficient_is negative None h = (signed_within negative 1 (2 ^ 16) (omega arith), signed_nonzero negative 1 (omega arith))
  coefficient_is negative (Some n) h =
      let parts = both_of (nat_le 1 (number_value n)) (nat_le (number_value n) 65536) h in
      let least : 1 ≤ number_value n = grind (arith, nat_tests) in
      let most : number_value n ≤ 2 ^ 16 = grind (arith, nat_tests) in
      (signed_within negative (number_value n) (2 ^ 16) most, signed_nonzero negative (number_value n) least)

  terms_are : (turned : Bool) (ts : List TermTree)
      → list_all (term_stands declared (is_among (lone_words operands)) (is_among labels) (is_among bound)) ts ≡ true
      → list_all (term_is_within declared (is_among (lone_words operands)) (is_among (sliced_names equations))) ts ≡ true
      → list_all (slice_is_known (is_among (sliced_names equations))) ts ≡ true
      → All (IsTermOf c) (filter_map (term_of declared labels operands turned) ts)
  terms_are turned [] stand within sliced = All-nil (IsTermOf c)
  terms_are turned (Number minus n ∷ ts) stand within sliced = terms_are turned ts stand within sliced
  terms_are turned (Place minus coefficient p ∷ ts) stand within sliced =
      let stands = both_of (place_stands declared (is_among (lone_words operands)) (is_among labels) (is_among bound) p) (list_all (term_stands declared (is_among (lone_words operands)) (is_among labels) (is_among bound)) ts) stand in
      let withins = both_of (term_is_within declared (is_among (lone_words operands)) (is_among (sliced_names equations)) (Place minus coefficient p))
      (list_all (term_is_within declared (is_among (lone_words operands)) (is_among (sliced_names equations))) ts) within in
      let each = both_of (option_map_or is_coefficient coefficient true) (place_is_within declared (is_among (lone_words operands)) (is_among (sliced_names equations)) p) withins.0 in
      let sliceds = both_of (option_map_or (is_among (sliced_names equations)) (sliced_place p) true) (list_all (slice_is_known (is_among (sliced_names equations))) ts) sliced in
      let number = coefficient_is (is_negative turned minus) coefficient each.0 in
      All-cons (IsTermOf c) (record { coefficient = signed (is_negative turned minus) (option_map_or number_value coefficient 1); atom = place_atom declared labels operands p })
      (filter_map (term_of declared labels operands turned) ts)
      (record { coefficient = number.0; nonzero = number.1; atom = place_is p stands.0 each.1 sliceds.0 })
      (terms_are turned ts stands.1 withins.1 sliceds.1)

  equation_is : (e : EqTree) → is_equation_in_range e ≡ true
      → list_all (term_stands declared (is_among (lone_words operands)) (is_among labels) (is_among bound)) (equation_terms e) ≡ true
      → equation_is_within declared (is_among (lone_words operands)) (is_among (sliced_names equations)) e ≡ true
      → list_all (slice_is_known (is_among (sliced_names equations))) (equation_terms e) ≡ true
      → IsEquationOf c (equation_of declared labels operands e)
  equation_is e range stand within sliced =
      let ls = e.left.terms in let rs = e.right.terms in
      let stands = both_of (list_all (term_stands declared (is_among (lone_words operands)) (is_among labels) (is_among bound)) ls) (list_all (term_stands declared (is_among (lone_words operands)) (is_among labels) (is_among bound)) rs)
      (sym (list_all-append (term_stands declared (is_among (lone_words operands)) (is_among labels) (is_among bound)) ls rs) ∙ stand) in
      let test = term_is_within declared (is_among (lone_words operands)) (is_among (sliced_names equations)) in
      let parts = both_of (nat_le (length (equation_terms e)) 16 && list_all test (equation_terms e)) (atoms_differ (equation_terms e)) within in
      let counted = both_of (nat_le (length (equation_terms e)) 16) (list_all test (equation_terms e)) parts.0 in
      let withins = both_of (list_all test ls) (list_all test rs) (sym (list_all-append test ls rs) ∙ counted.1) in
      let slice_test = slice_is_known (is_among (sliced_names equations)) in
      let sliceds = both_of (list_all slice_test ls) (list_all slice_test rs) (sym (list_all-append slice_test ls rs) ∙ sliced) in
      let ranges = both_of (list_all is_term_in_range ls) (list_all is_term_in_range rs) (sym (list_all-append is_term_in_range ls rs) ∙ range) in
      let few : length ls + length rs ≤ 16 = few_terms ls rs counted.0 in
      record {
        terms = All-append (IsTermOf c) (filter_map (term_of declared labels operands false) ls) (filter_map (term_of declared labels operands true) rs)
            (terms_are false ls stands.0 withins.0 sliceds.0) (terms_are true rs stands.1 withins.1 sliceds.1);
        few = few_picked ls rs few;
        rest = rest_is ls rs few ranges.0 ranges.1;
      }
    where
      few_terms : (ls rs : List TermTree) → nat_le (length (ls ++ rs)) 16 ≡ true → length ls + length rs ≤ 16
      few_terms ls rs h = let both = length-append ls rs in grind (arith, nat_tests, both)

      few_picked : (ls rs : List TermTree) → length ls + length rs ≤ 16
          → length (filter_map (term_of declared labels operands false) ls ++ filter_map (term_of declared labels operands true) rs) ≤ 16
      few_picked ls rs few =
          omega (
            arith,
            length-append (filter_map (term_of declared labels operands false) ls) (filter_map (term_of declared labels operands true) rs),
            length-filter_map (term_of declared labels operands false) ls,
            length-filter_map (term_of declared labels operands true) rs,
          )

      rest_is : (ls rs : List TermTree) → length ls + length rs ≤ 16 → list_all is_term_in_range ls ≡ true → list_all is_term_in_range rs ≡ true
          → IsWithin (2 ^ 36) (sum_of false ls +ℤ sum_of true rs)
      rest_is ls rs few left right =
          wider (length ls * 2 ^ 32 + length rs * 2 ^ 32) (2 ^ 36) (sum_of false ls +ℤ sum_of true rs) (omega arith)
          (plus_within (length ls * 2 ^ 32) (length rs * 2 ^ 32) (sum_of false ls) (sum_of true rs) (sums_within false ls left) (sums_within true rs right))

  equations_are : (es : List EqTree) → have_equations_in_range es ≡ true
      → list_all (λ e. list_all (term_stands declared (is_among (lone_words operands)) (is_among labels) (is_among bound)) (equation_terms e)) es ≡ true
      → list_all (equation_is_within declared (is_among (lone_words operands)) (is_among (sliced_names equations))) es ≡ true
      → list_all (λ e. list_all (slice_is_known (is_among (sliced_names equations))) (equation_terms e)) es ≡ true
      → All (IsEquationOf c) (equations_of declared labels operands es)
  equations_are [] range stand within sliced = All-nil (IsEquationOf c)
  equations_are (e ∷ es) range stand within sliced =
      let stand_test = λ (e : EqTree). list_all (term_stands declared (is_among (lone_words operands)) (is_among labels) (is_among bound)) (equation_terms e) in
      let slice_test = λ (e : EqTree). list_all (slice_is_known (is_among (sliced_names equations))) (equation_terms e) in
      let within_test = equation_is_within declared (is_among (lone_words operands)) (is_among (sliced_names equations)) in
      let ranges = both_of (is_equation_in_range e) (have_equations_in_range es) range in
      let stands = both_of (stand_test e) (list_all stand_test es) stand in
      let withins = both_of (within_test e) (list_all within_test es) within in
      let sliceds = both_of (slice_test e) (list_all slice_test es) sliced in
      All-cons (IsEquationOf c) (equation_of declared labels operands e) (equations_of declared labels operands es)
      (equation_is e ranges.0 stands.0 withins.0 sliceds.0) (equations_are es ranges.1 stands.1 withins.1 sliceds.1)

-- each equation that is made is one of the constructor: its terms are few and small, and what they speak of is there
pub equations_meet : (declared : Declared) (bound labels : List (List ℕ)) (operands : List OperandTree) (equations : List EqTree) (c : Constructor)
    → IsMadeOf declared bound labels operands equations c
    → operands_are_known declared equations operands ≡ true
    → names_stand declared bound labels operands equations ≡ true
    → are_within_limits declared operands equations ≡ true
    → have_equations_in_range equations ≡ true
    → All (IsEquationOf c) (equations_of declared labels operands equations)
equations_meet declared bound labels operands equations c made known stand within range =
    let stands = both_of (operands_stand declared bound operands equations && hidden_fields_stand declared bound operands equations) (terms_stand declared bound labels operands equations) stand in
    let limits = both_of (nat_le (length operands) 16 && nat_le (length equations) 32)
    (list_all (equation_is_within declared (is_among (lone_words operands)) (is_among (sliced_names equations))) equations) within in
    equations_are declared bound labels operands equations c made known equations range
    (sym (all-flat_map (term_stands declared (is_among (lone_words operands)) (is_among labels) (is_among bound)) equation_terms equations) ∙ stands.1)
    limits.1
    (sym (all-flat_map (slice_is_known (is_among (sliced_names equations))) equation_terms equations) ∙ slices_known equations)

-- the counts, as they are asked of a constructor
pub few_operands : (declared : Declared) (operands : List OperandTree) (equations : List EqTree) → are_within_limits declared operands equations ≡ true
    → (length operands ≤ 16) × (length equations ≤ 32)
few_operands declared operands equations within =
    let limits = both_of (nat_le (length operands) 16 && nat_le (length equations) 32)
    (list_all (equation_is_within declared (is_among (lone_words operands)) (is_among (sliced_names equations))) equations) within in
    let counts = both_of (nat_le (length operands) 16) (nat_le (length equations) 32) limits.0 in
    (grind (arith, nat_tests), grind (arith, nat_tests))
