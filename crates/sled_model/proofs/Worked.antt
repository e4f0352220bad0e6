-- What the definitions say of a few patterns and bytes.
use Rattle.std.proofs.Common.{◌≡◌, ℕ, List, [], ◌∷◌, None, refl}
use Rattle.std.proofs.lemmas.List.Elements.{All-nil}
use Rattle.token_bits.specs.declared.tokens.Tokens.{Tokens}
use Rattle.token_bits.specs.declared.tokens.Order.TheVariants.{Big}
use Rattle.sled_model.specs.declared.pattern.Pattern.TheVariants.{Limit, Bind, Both, Empty}
use Rattle.sled_model.specs.declared.pattern.Relation.TheVariants.{Equal}
use Rattle.sled_model.specs.declared.raw.RawEntry.TheVariants.{Value}
use Rattle.sled_model.specs.Results.{alone, results, one_match}
use Rattle.sled_model.specs.Specs.{IsKnownKind, IsConstructorOf}
use Rattle.sled_model.proofs.Equations.{results-Both}

-- fields op 24:31 and v 0:23 of a class of 32 bits
words : Tokens
words = record {
  classes = record { width = 32; order = Big } ∷ [];
  fields = record { class = record { 0 = 0 }; lo = 24; hi = 31 } ∷ record { class = record { 0 = 0 }; lo = 0; hi = 23 } ∷ [];
}

-- `op = 1 & v` has one result on 01 00 00 05, which reads 5
one_and_value : results (alone words) (Both (Limit (record { 0 = 0 }) Equal 1 ∷ Bind (record { 0 = 1 }) ∷ [])) (1 ∷ 0 ∷ 0 ∷ 5 ∷ []) 0 ≡ one_match (Value (record { 0 = 1 }) 5 0 ∷ []) 4
unfolding words
one_and_value = results-Both (alone words) _ 0 _

-- and none on 02 00 00 05
other_value : results (alone words) (Both (Limit (record { 0 = 0 }) Equal 1 ∷ Bind (record { 0 = 1 }) ∷ [])) (2 ∷ 0 ∷ 0 ∷ 5 ∷ []) 0 ≡ []
unfolding words
other_value = results-Both (alone words) _ 0 _

-- nor where a byte of the token is missing
too_short : results (alone words) (Both (Limit (record { 0 = 0 }) Equal 1 ∷ Bind (record { 0 = 1 }) ∷ [])) (1 ∷ 0 ∷ 0 ∷ []) 0 ≡ []
unfolding words
too_short = results-Both (alone words) _ 0 _

-- a constructor without operands, whose body is empty, speaks of nothing
pub nullary_known : (tokens : Tokens) (types : ℕ) (name : List ℕ)
    → IsConstructorOf tokens types (record { name = name; result = None; operands = []; names = []; equations = []; body = Empty })
nullary_known tokens types name = record {
  names = refl;
  operands = All-nil (IsKnownKind tokens types);
  result = tt;
  body = record { class = tt; field = tt; limit = tt; operand = tt; alone = tt };
}
