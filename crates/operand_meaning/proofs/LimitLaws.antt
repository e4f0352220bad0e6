-- Equations within the limits can be held.
use Rattle.std.proofs.Common.{◌≡◌, ℕ, ◌≤◌, Bool, true, List, length, refl, arith}
use Rattle.std.specs.Prelude.{nat_le, ◌&&◌}
use Rattle.std.specs.List.{list_all}
use Rattle.std.specs.Option.{option_map_or}
use Rattle.std.proofs.lemmas.Bool.Decides.{nat_tests}
use Rattle.sled_parser.specs.declared.tree.EqTree.{EqTree}
use Rattle.sled_parser.specs.declared.tree.OperandTree.{OperandTree}
use Rattle.sled_parser.specs.declared.tree.PlaceTree.{PlaceTree}
use Rattle.sled_parser.specs.declared.tree.PlaceTree.TheVariants.{Word, Extended, Slice}
use Rattle.sled_parser.specs.declared.tree.TermTree.{TermTree}
use Rattle.sled_parser.specs.declared.tree.TermTree.TheVariants.{Number, Place}
use Rattle.tree_meaning.specs.Names.{is_among}
use Rattle.tree_meaning.specs.Scopes.{Declared}
use Rattle.operand_meaning.specs.Limits.{is_coefficient, has_bits, has_slice_bits, has_term_bits, can_be_held, place_is_within, term_is_within, atoms_differ, terms_are_within, equation_is_within, are_within_limits}
use Rattle.operand_meaning.specs.Operands.{lone_words, is_number}
use Rattle.operand_meaning.specs.Terms.{equation_terms, sliced_names}
use Rattle.operand_meaning.proofs.ListFacts.{both_of, all_weaker}

module _ (declared : Declared) (is_lone is_sliced : List ℕ → Bool) where
  place_bits : (p : PlaceTree) → place_is_within declared is_lone is_sliced p ≡ true → has_slice_bits p ≡ true
  place_bits (Word w) h = refl
  place_bits (Extended w) h = refl
  place_bits (Slice w lo hi) h = (both_of (has_bits lo hi) (is_number declared is_lone w) h).0

  term_bits : (t : TermTree) → term_is_within declared is_lone is_sliced t ≡ true → has_term_bits t ≡ true
  term_bits (Number minus n) h = refl
  term_bits (Place minus c p) h = place_bits p (both_of (option_map_or is_coefficient c true) (place_is_within declared is_lone is_sliced p) h).1

  held : (e : EqTree) → equation_is_within declared is_lone is_sliced e ≡ true → can_be_held e ≡ true
  held e h =
      let test = term_is_within declared is_lone is_sliced in
      let parts = both_of (nat_le (length (equation_terms e)) 16 && list_all test (equation_terms e)) (atoms_differ (equation_terms e)) h in
      let counted = both_of (nat_le (length (equation_terms e)) 16) (list_all test (equation_terms e)) parts.0 in
      rw (counted.0, all_weaker test has_term_bits (equation_terms e) term_bits counted.1) refl

-- the limits of the terms of an equation, where they are few
pub terms_within : (declared : Declared) (is_lone is_sliced : List ℕ → Bool) (ts : List TermTree) (t : Bool) → length ts ≤ 16
    → list_all (term_is_within declared is_lone is_sliced) ts ≡ t → terms_are_within declared is_lone is_sliced ts ≡ (t && atoms_differ ts)
terms_within declared is_lone is_sliced ts t few e =
    let counted : nat_le (length ts) 16 ≡ true = grind (arith, nat_tests) in
    rw (counted, e) refl

pub all_held : (declared : Declared) (operands : List OperandTree) (equations : List EqTree) → are_within_limits declared operands equations ≡ true
    → list_all can_be_held equations ≡ true
all_held declared operands equations h =
    let test = equation_is_within declared (is_among (lone_words operands)) (is_among (sliced_names equations)) in
    let limits = both_of (nat_le (length operands) 16 && nat_le (length equations) 32) (list_all test equations) h in
    all_weaker test can_be_held equations (held declared (is_among (lone_words operands)) (is_among (sliced_names equations))) limits.1
