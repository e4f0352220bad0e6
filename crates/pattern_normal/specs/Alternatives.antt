-- What a list of alternatives says of a window.
use Rattle.std.specs.Prelude.{ℕ, ◌+◌, ◌*◌, ◌≡◌, ◌≤◌, ◌<◌, max, Bool, false, true, nat_le, ◌&&◌, if◌then◌else◌, List, [], ◌∷◌, ◌++◌, length, map, filter, All}
use Rattle.std.specs.List.{flat_map}
use Rattle.token_bits.specs.declared.tokens.Tokens.{Tokens}
use Rattle.token_bits.specs.declared.tokens.Class.{Class}
use Rattle.token_bits.specs.declared.tokens.Field.{Field}
use Rattle.token_bits.specs.Tokens.{byte_count, width_of}
use Rattle.sled_model.specs.declared.pattern.Relation.{Relation}
use Rattle.sled_model.specs.Measures.{limit_weight}
use Rattle.relation_cases.specs.Cases.{field_is}
use Rattle.sled_model.specs.declared.raw.Match.{Match}
use Rattle.sled_model.specs.declared.pattern.Pattern.{Pattern}
use Rattle.sled_model.specs.declared.pattern.Argument.{Argument}
use Rattle.sled_model.specs.Results.{Meaning, results, agrees, has_relation, one_match}
use Rattle.sled_model.specs.Admitted.{list_admits}
use Rattle.sled_model.specs.declared.constructor.Constructor.{Constructor}
use Rattle.bit_cases.specs.Bits.{meets}
use Rattle.bit_cases.specs.declared.byte_case.ByteCase.{ByteCase}
use Rattle.pattern_normal.specs.declared.skeleton.Spot.{Spot}
use Rattle.pattern_normal.specs.declared.skeleton.Spot.TheVariants.{Mark, Choice}
use Rattle.pattern_normal.specs.declared.alternative.Alternative.{Alternative}
use Rattle.pattern_normal.specs.Surroundings.{Surroundings, known_of, context_of, open_weight, len_in}
use Rattle.pattern_normal.specs.Skeletons.{read_spot, read_entries}

abbrev pub IsBytes : List ℕ → Type 0
IsBytes bytes = All (λ byte. byte < 256) bytes

abbrev pub is_met : List ℕ → Alternative → Bool
is_met window a = meets a.bits.mask a.bits.value a.bits.len window

-- what the alternative says of a window that meets it; here a match has its end in place of its length
abbrev pub seen : Tokens → List ℕ → Alternative → Match
seen tokens window a = record { binds = map (read_spot tokens window) a.spots; len = a.bits.len; loose = a.loose }

-- what the alternatives that the window meets say, in order
abbrev pub shown : Tokens → List ℕ → List Alternative → List Match
shown tokens window alternatives = map (seen tokens window) (filter (is_met window) alternatives)

-- a match at an offset, with its end in place of its length
abbrev pub ended : ℕ → Match → Match
ended at a = record { binds = a.binds; len = at + a.len; loose = a.loose }

-- of two matches with ends, both at one place
abbrev pub both_ended : Match → Match → Match
both_ended x y = record { binds = x.binds ++ y.binds; len = max x.len y.len; loose = x.loose && y.loose }

-- of two matches with ends, the second where the first ends
abbrev pub chain_ended : Match → Match → Match
chain_ended x y = record { binds = x.binds ++ y.binds; len = y.len; loose = y.loose }

-- what an alternative says together with each of the others that agrees
abbrev pub both_row : Tokens → List ℕ → Alternative → List Alternative → List Match
both_row tokens window a others = if is_met window a then map (both_ended (seen tokens window a)) (filter (agrees (seen tokens window a)) (shown tokens window others)) else []

-- what an alternative says with each of the others behind it
abbrev pub chain_row : Tokens → List ℕ → Alternative → List Alternative → List Match
chain_row tokens window a others = if is_met window a then map (chain_ended (seen tokens window a)) (shown tokens window others) else []

-- what is said of every window that reaches to the end
abbrev pub reaching : Tokens → List Spot → ℕ → List ℕ → List Match
reaching tokens spots end window = if nat_le end (length window) then record { binds = map (read_spot tokens window) spots; len = end; loose = false } ∷ [] else []

abbrev pub IsBetween : ℕ → ℕ → Alternative → Type 0
IsBetween least most a = (least ≤ a.bits.len) × (a.bits.len ≤ most)

-- each ends at one of these places
abbrev pub AreBetween : ℕ → ℕ → List Alternative → Type 0
AreBetween least most alternatives = All (IsBetween least most) alternatives

-- the alternatives stand for a pattern with this meaning, weight and length at an offset
pub record StandFor (tokens : Tokens) (m : Meaning) (weight len at : ℕ) (alternatives : List Alternative) : Type 0 where
  -- where the pattern fits, those that a window meets are its results, in order
  pub covers : at + len ≤ 32 → (window : List ℕ) → IsBytes window → at ≤ length window → shown tokens window alternatives ≡ map (ended at) (m window at)
  pub ends : AreBetween at (at + len) alternatives
  pub count : length alternatives ≤ weight

abbrev pub StandForPattern : Surroundings → Pattern → ℕ → List Alternative → Type 0
StandForPattern s p at alternatives = StandFor s.tokens (results (context_of s) p) (open_weight s p) (len_in s p) at alternatives

-- each of the firsts with each of the seconds that agrees
pub record ArePairs (firsts seconds pairs : List Alternative) : Type 0 where
  pub shown : (tokens : Tokens) (window : List ℕ)
      → shown tokens window pairs ≡ flat_map (λ x. map (both_ended x) (filter (agrees x) (shown tokens window seconds))) (shown tokens window firsts)
  pub ends : (least most : ℕ) → AreBetween least most firsts → AreBetween least most seconds → AreBetween least most pairs
  pub count : length pairs ≤ length firsts * length seconds

-- each of the firsts with each alternative of a pattern where it ends
pub record AreFollowed (s : Surroundings) (p : Pattern) (firsts pairs : List Alternative) : Type 0 where
  pub shown : All (λ a. a.bits.len + len_in s p ≤ 32) firsts → (window : List ℕ) → IsBytes window
      → shown s.tokens window pairs ≡ flat_map (λ x. map (chain_ended x) (map (ended x.len) (results (context_of s) p window x.len))) (shown s.tokens window firsts)
  pub ends : (least most : ℕ) → AreBetween least most firsts → AreBetween least (most + len_in s p) pairs
  pub count : length pairs ≤ length firsts * open_weight s p

-- the condition, with nothing bound
abbrev pub plain_alternative : ByteCase → Alternative
plain_alternative bits = record { bits = bits; loose = false; spots = [] }

abbrev pub loose_alternative : Alternative → Alternative
loose_alternative a = record { bits = a.bits; loose = true; spots = a.spots }

-- the alternative, with the label at an offset in front
abbrev pub label_alternative : ℕ → ℕ → Alternative → Alternative
label_alternative label at a = record { bits = a.bits; loose = a.loose; spots = Mark label at ∷ a.spots }

-- the alternative, as the choice of constructor number k by an application with these arguments
abbrev pub choice_alternative : ℕ → List Argument → Alternative → Alternative
choice_alternative k arguments a =
    record { bits = a.bits; loose = a.loose; spots = Choice (record { 0 = k }) (record { entries = a.spots }) arguments ∷ [] }

-- the arguments of the constructor admit what the alternative of its body binds, which is no matter of the values
abbrev pub is_admitted : Surroundings → Constructor → List Argument → Alternative → Bool
is_admitted s c arguments a = list_admits (known_of s) c (read_entries s.tokens [] a.spots) 0 arguments

-- the alternatives of a relation of the field in a token of the class
pub record AreLimitsOf (class : Class) (field : Field) (relation : Relation) (limit at : ℕ) (alternatives : List Alternative) : Type 0 where
  pub shown : (tokens : Tokens) (window : List ℕ) → IsBytes window
      → shown tokens window alternatives ≡ (if field_is class field (λ value. has_relation relation value limit) at window then one_match [] (at + byte_count class) else [])
  pub ends : All (λ a. a.bits.len ≡ at + byte_count class) alternatives
  pub count : length alternatives ≤ limit_weight (width_of field) relation limit
