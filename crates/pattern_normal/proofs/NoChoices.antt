-- Operands and applications that have no results.
use Rattle.std.proofs.Common.{◌≡◌, ℕ, ◌+◌, ◌<◌, true, false, List, [], ◌++◌, map, filter, take, get_or, length, slice_get, Some, None, ap, ◌∙◌}
use Rattle.token_bits.specs.declared.tokens.Tokens.{Tokens}
use Rattle.sled_model.specs.declared.constructor.TypeId.{TypeId}
use Rattle.sled_model.specs.declared.constructor.ConstructorId.{ConstructorId}
use Rattle.sled_model.specs.declared.constructor.OperandKind.{OperandKind}
use Rattle.sled_model.specs.declared.constructor.Constructor.{Constructor}
use Rattle.sled_model.specs.declared.pattern.Argument.{Argument}
use Rattle.sled_model.specs.declared.pattern.Pattern.TheVariants.{Apply}
use Rattle.sled_model.specs.Results.{results, results_from, kind_results, operand_results, choices_from, choice_match, makes, known_from}
use Rattle.sled_model.specs.Admitted.{list_admits, applied}
use Rattle.sled_model.proofs.AdmittedLaws.{results-Apply}
use Rattle.pattern_normal.specs.Surroundings.{Surroundings, inside, known_of, context_of}
use Rattle.pattern_normal.specs.Barren.{HasNoResults}
use Rattle.pattern_normal.proofs.Constructors.{known_at_number, known_past, choices_more}

pub barren_apply : (near : Surroundings) (k : ConstructorId) (arguments : List Argument) → ((qs : List Argument) → HasNoResults (applied (known_of near) k.0 qs)) → HasNoResults (results (context_of near) (Apply k arguments))
barren_apply near k arguments h w i = results-Apply (context_of near) k arguments w i ∙ h arguments w i

module _ (near : Surroundings) (k : ℕ) where
  pub operand_kind : (kind : OperandKind) → slice_get near.kinds k ≡ Some kind → HasNoResults (kind_results (known_of near) kind) → HasNoResults (operand_results (context_of near) k)
  operand_kind kind e h w i = ap (λ o. results_from o (λ kind. kind_results (known_of near) kind w i)) e ∙ h w i

  pub operand_none : slice_get near.kinds k ≡ None → HasNoResults (operand_results (context_of near) k)
  operand_none e w i = ap (λ o. results_from o (λ kind. kind_results (known_of near) kind w i)) e

module _ (tokens : Tokens) (cs : List Constructor) (k : ℕ) (c : Constructor) (t : TypeId) (l : k < length cs) (is : c ≡ get_or cs k c) where
  pub type_none_other : makes t c.result ≡ false → HasNoResults (choices_from 0 (known_from tokens [] (take k cs)) t) → HasNoResults (choices_from 0 (known_from tokens [] (take (k + 1) cs)) t)
  type_none_other e h w i = choices_more tokens cs k c t l is false e w i ∙ ap (λ z. z ++ []) (h w i)

  pub type_none_made : makes t c.result ≡ true → HasNoResults (choices_from 0 (known_from tokens [] (take k cs)) t) → HasNoResults (results (context_of (inside tokens (take k cs) c)) c.body)
      → HasNoResults (choices_from 0 (known_from tokens [] (take (k + 1) cs)) t)
  type_none_made e h b w i =
      choices_more tokens cs k c t l is true e w i ∙ ap (λ z. z ++ map (choice_match k []) (results (context_of (inside tokens (take k cs) c)) c.body w i)) (h w i)
      ∙ ap (map (choice_match k [])) (b w i)

module _ (near : Surroundings) (k : ℕ) where
  pub number_unknown : (arguments : List Argument) → slice_get near.constructors k ≡ None → HasNoResults (applied (known_of near) k arguments)
  number_unknown arguments e w i =
      ap (λ o. results_from o (λ d. map (choice_match k arguments) (filter (λ a. list_admits (known_of near) d.constructor a.binds 0 arguments) (d.body w i)))) (known_past near.tokens near.constructors k e)

  pub number_none : (c : Constructor) (arguments : List Argument) → slice_get near.constructors k ≡ Some c → HasNoResults (results (context_of (inside near.tokens (take k near.constructors) c)) c.body)
      → HasNoResults (applied (known_of near) k arguments)
  number_none c arguments e h w i =
      ap (λ o. results_from o (λ d. map (choice_match k arguments) (filter (λ a. list_admits (known_of near) d.constructor a.binds 0 arguments) (d.body w i)))) (known_at_number near.tokens near.constructors k c e)
      ∙ ap (λ xs. map (choice_match k arguments) (filter (λ a. list_admits (known_of near) c a.binds 0 arguments) xs)) (h w i)
