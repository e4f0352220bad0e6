-- How many of the cases of blocks a window meets.
use Rattle.std.proofs.Common.{◌≡◌, ℕ, ◌+◌, ◌-◌, ◌/◌, ◌^◌, ◌<◌, List, [], ◌∷◌, ◌++◌, length, false, cond, Option, Some, None, refl, sym, ap, ◌∙◌, arith}
use Rattle.std.specs.Prelude.{if◌then◌else◌}
use Rattle.std.specs.List.{All, count_by, filter}
use Rattle.std.specs.Option.{option_map_or}
use Rattle.std.proofs.lemmas.List.{length_push}
use Rattle.std.proofs.lemmas.List.Sums.{length-filter}
use Rattle.std.proofs.lemmas.List.Elements.{All-push}
use Rattle.std.proofs.lemmas.Nat.{mod_below, pow_pos}
use Rattle.bit_cases.specs.declared.byte_case.ByteCase.{ByteCase}
use Rattle.sled_model.specs.declared.pattern.Relation.{Relation}
use Rattle.token_bits.specs.declared.tokens.Class.{Class}
use Rattle.token_bits.specs.declared.tokens.Field.{Field}
use Rattle.token_bits.specs.Tokens.{width_of, byte_count, bits_of, token}
use Rattle.sled_model.specs.Results.{has_relation}
use Rattle.sled_model.specs.Measures.{limit_weight}
use Rattle.relation_cases.specs.declared.blocks.Block.{Block}
use Rattle.relation_cases.specs.Blocks.{is_in, AreBlocksOf}
use Rattle.relation_cases.specs.Cases.{is_met, field_is}
use Rattle.relation_cases.proofs.Numbers.{count_by-append}

-- the cases of these blocks, in order
pub record AreCasesOf (class : Class) (field : Field) (at : ℕ) (blocks : List Block) (cases : List ByteCase) : Type 0 where
  pub met : (window : List ℕ) → All (λ byte. byte < 256) window
      → count_by (λ case. is_met window case) cases ≡ count_by (λ block. field_is class field (λ v. is_in v block) at window) blocks
  pub len : All (λ case. case.len ≡ at + byte_count class) cases
  pub count : length cases ≡ length blocks

pub one_more : (class : Class) (field : Field) (at : ℕ) (blocks : List Block) (cases : List ByteCase) (block : Block) (case : ByteCase) → AreCasesOf class field at blocks cases
    → ((window : List ℕ) → All (λ byte. byte < 256) window → is_met window case ≡ field_is class field (λ v. is_in v block) at window) → case.len ≡ at + byte_count class
    → AreCasesOf class field at (blocks ++ block ∷ []) (cases ++ case ∷ [])
one_more class field at blocks cases block case so_far met len = record {
  met = λ window bytes. count_by-append (λ c. is_met window c) cases (case ∷ [])
      ∙ ap (λ n. n + (0 + cond (is_met window case) 1 0)) (so_far.met window bytes)
      ∙ ap (λ b. count_by (λ d. field_is class field (λ v. is_in v d) at window) blocks + (0 + cond b 1 0)) (met window bytes)
      ∙ sym (count_by-append (λ d. field_is class field (λ v. is_in v d) at window) blocks (block ∷ []));
  len = All-push (λ c. c.len ≡ at + byte_count class) cases case so_far.len len;
  count = length_push cases case ∙ ap (λ n. n + 1) so_far.count ∙ sym (length_push blocks block);
}

-- no case of no block
pub no_cases : (class : Class) (field : Field) (at : ℕ) → AreCasesOf class field at [] []
no_cases class field at = record { met = λ window bytes. refl; len = λ k d l. absurd (omega arith); count = refl }

none_counted : (blocks : List Block) → count_by (λ (block : Block). false) blocks ≡ 0
none_counted [] = refl
none_counted (b ∷ bs) = none_counted bs

module _ (field : Field) (relation : Relation) (limit : ℕ) (blocks : List Block) (are : AreBlocksOf relation (width_of field) limit blocks) where
  in_number : (o : Option ℕ) → count_by (λ block. option_map_or (λ number. is_in (bits_of field.lo field.hi number) block) o false) blocks
      ≡ cond (option_map_or (λ number. has_relation relation (bits_of field.lo field.hi number) limit) o false) 1 0
  in_number None = none_counted blocks
  in_number (Some n) = are.once (bits_of field.lo field.hi n) (mod_below (n / 2 ^ field.lo) (2 ^ (field.hi - field.lo + 1)) (pow_pos (field.hi - field.lo + 1)))

  module _ (class : Class) (at : ℕ) (cases : List ByteCase) (made : AreCasesOf class field at blocks cases) where
    -- where the relation holds, one case is met
    pub cases_met : (window : List ℕ) → All (λ byte. byte < 256) window
        → length (filter (λ case. is_met window case) cases) ≡ (if field_is class field (λ v. has_relation relation v limit) at window then 1 else 0)
    cases_met window bytes = length-filter (λ case. is_met window case) cases ∙ made.met window bytes ∙ in_number (token class window at)

    pub cases_count : length cases ≡ limit_weight (width_of field) relation limit
    cases_count = made.count ∙ are.count
