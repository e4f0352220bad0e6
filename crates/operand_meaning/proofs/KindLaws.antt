-- Names of whole-number operands, and their kinds.
use Rattle.std.proofs.Common.{◌≡◌, ℕ, true, false, cond, List, [], ◌∷◌, get_or, slice_get, Some, None, refl, sym, ap, ◌∙◌}
use Rattle.std.specs.Prelude.{Option, ◌&&◌, ◌||◌, is_some, is_none, position, bytes_eq}
use Rattle.std.specs.List.{list_any}
use Rattle.std.specs.Option.{option_map_or, option_and_then}
use Rattle.std.proofs.lemmas.List.Quantifiers.{position-Some}
use Rattle.std.proofs.lemmas.Slice.Eq.{bytes_eq-Decides}
use Rattle.sled_parser.specs.declared.tree.EqTree.{EqTree}
use Rattle.sled_parser.specs.declared.tree.OperandTree.{OperandTree}
use Rattle.sled_parser.specs.declared.tree.OperandTree.TheVariants.{Word, Extended, Typed}
use Rattle.sled_model.specs.declared.constructor.OperandKind.TheVariants.{Whole, Sliced}
use Rattle.tree_meaning.specs.declared.scope.Meaning.{Meaning}
use Rattle.tree_meaning.specs.Names.{is_among}
use Rattle.tree_meaning.specs.Scopes.{Declared, meaning_of}
use Rattle.tree_meaning.proofs.NamesLemmas.{slice_get-at}
use Rattle.operand_meaning.specs.Equations.{is_lone, number_of}
use Rattle.operand_meaning.specs.Operands.{lone_words, is_number, declared_kind, operand_kind, operand_kinds, operands_are_known}
use Rattle.operand_meaning.specs.Terms.{sliced_names}
use Rattle.operand_meaning.proofs.ListFacts.{slice_get-filter_map, position_none}

lone_is : (w : List ℕ) (o : OperandTree) → is_lone w o ≡ true → o ≡ Word w
lone_is w (Word v) h = let same : w ≡ v = (bytes_eq-Decides w v).0 h in ap Word (sym same)
lone_is w (Extended v) h = cc
lone_is w (Typed n r) h = cc

lone_among : (w : List ℕ) (operands : List OperandTree) → list_any (is_lone w) operands ≡ is_among (lone_words operands) w
lone_among w [] = refl
lone_among w (Word v ∷ os) = ap (λ t. bytes_eq w v || t) (lone_among w os)
lone_among w (Extended v ∷ os) = lone_among w os
lone_among w (Typed n r ∷ os) = lone_among w os

module _ (declared : Declared) (operands : List OperandTree) (w : List ℕ) where
  -- the name of a whole-number operand has a number
  pub number_found : is_number declared (is_among (lone_words operands)) w ≡ true → number_of declared operands w ≡ None → ⊥
  number_found h none = by_meaning (meaning_of declared w) h none where
    by_meaning : (m : Option Meaning) → (is_none m && is_among (lone_words operands) w) ≡ true → cond (is_some m) None (position (is_lone w) operands) ≡ None → ⊥
    by_meaning (Some m) h none = cc
    by_meaning None h none =
        let absent : is_among (lone_words operands) w ≡ false = sym (lone_among w operands) ∙ position_none (is_lone w) operands none in
        cc

  -- what stands at that number: a lone word that was not declared
  pub number_is : (k : ℕ) → number_of declared operands w ≡ Some k → (meaning_of declared w ≡ None) × (slice_get operands k ≡ Some (Word w))
  number_is k e = by_meaning (meaning_of declared w) refl e where
    by_meaning : (m : Option Meaning) → meaning_of declared w ≡ m → cond (is_some m) None (position (is_lone w) operands) ≡ Some k → (meaning_of declared w ≡ None) × (slice_get operands k ≡ Some (Word w))
    by_meaning (Some m) is e = cc
    by_meaning None is e =
        let at = position-Some (is_lone w) operands k (Word []) e in
        let here : get_or operands k (Word []) ≡ Word w = lone_is w (get_or operands k (Word [])) at.1 in
        (is, slice_get-at operands k (Word []) at.0 ∙ ap Some here)

  -- and its kind
  pub number_kind : (equations : List EqTree) (k : ℕ) → operands_are_known declared equations operands ≡ true → number_of declared operands w ≡ Some k
      → slice_get (operand_kinds declared equations operands) k ≡ Some (cond (is_among (sliced_names equations) w) Sliced Whole)
  number_kind equations k known e =
      let at = number_is k e in
      slice_get-filter_map (operand_kind declared equations) operands k known
      ∙ ap (option_and_then (operand_kind declared equations)) at.1
      ∙ ap (λ (m : Option Meaning). option_map_or declared_kind m (Some (cond (is_among (sliced_names equations) w) Sliced Whole))) at.0
