-- What the building of a graph keeps.
use Rattle.std.specs.Prelude.{ℕ, Bool, false, ◌≡◌, ◌==◌, ◌+◌, ◌-◌, ◌*◌, ◌^◌, ◌<◌, ◌≤◌, ◌⊎◌, nat_le, max, List, [], ◌∷◌, ◌++◌, length, slice_get, slice_index, Option, Some, None, bit_and}
use Rattle.std.specs.List.{find, filter}
use Rattle.std.specs.Option.{option_map, option_map_or}
use Rattle.bit_cases.specs.declared.byte_case.ByteCase.{ByteCase}
use Rattle.decision_tree.specs.declared.node.CaseNo.{CaseNo}
use Rattle.decision_tree.specs.declared.node.Node.{Node}
use Rattle.decision_tree.specs.declared.node.NodeNo.{NodeNo}
use Rattle.decision_tree.specs.declared.node.Node.TheVariants.{Leaf, Check, Test}
pub use Rattle.decision_tree.specs.Window.{block, tested_more}
pub use Rattle.decision_tree.specs.Paths.{AsksOpen}
use Rattle.decision_tree.specs.Graph.{is_met_at, case_no, next, answer_of, walk_at, IsGraph, Reaches}

-- what holds of each number of the list
abbrev pub Each : (ℕ → Type 0) → List ℕ → Type 0
Each Holds [] = Unit {0}
Each Holds (number ∷ numbers) = Holds number × Each Holds numbers

-- the first of these cases that the window meets
abbrev pub first_among : List ByteCase → List ℕ → List ℕ → Option CaseNo
first_among cases numbers window = option_map case_no (find (is_met_at cases window) numbers)

-- the tested bits of the window are as the case wants them
abbrev pub IsLike : List ℕ → List ℕ → ByteCase → Type 0
IsLike tested window bits = (index : ℕ) → index < 32
    → bit_and (slice_index window index) (bit_and (slice_index bits.mask index) (slice_index tested index)) ≡ bit_and (slice_index bits.value index) (slice_index tested index)

abbrev pub IsLikeAt : List ByteCase → List ℕ → List ℕ → ℕ → Type 0
IsLikeAt cases tested window number = (bits : ByteCase) → slice_get cases number ≡ Some bits → IsLike tested window bits

-- what is known of a window where these cases are left
pub record Fits (cases : List ByteCase) (numbers tested : List ℕ) (least : ℕ) (window : List ℕ) : Type 0 where
  pub long : least ≤ length window
  pub like : Each (IsLikeAt cases tested window) numbers

-- all that the case asks for was tested
pub record IsSure (tested : List ℕ) (least : ℕ) (bits : ByteCase) : Type 0 where
  pub long : bits.len ≤ least
  pub all : (index : ℕ) → index < 32 → bit_and (slice_index bits.mask index) (slice_index tested index) ≡ slice_index bits.mask index

abbrev pub IsSureAt : List ByteCase → List ℕ → ℕ → ℕ → Type 0
IsSureAt cases tested least number = (bits : ByteCase) → slice_get cases number ≡ Some bits → IsSure tested least bits

-- the node was made, or found
pub record IsMade (cases : List ByteCase) (old new : List Node) (at_node : ℕ) (node : Node) : Type 0 where
  pub grown : (more : List Node) × (new ≡ old ++ more)
  pub graph : IsGraph (length cases) new
  pub within : at_node < length new
  pub at : slice_get new at_node ≡ Some node
  pub answers : (window : List ℕ) → walk_at cases new window at_node ≡ answer_of (walk_at cases old window) (next cases window node)
  pub fresh : (other_node : ℕ) → length old ≤ other_node → other_node < length new → other_node ≡ at_node

-- ---- a test

-- the case is left behind the link of a test: its bits have the value, or it ends before the byte
abbrev pub stays : ℕ → ℕ → ℕ → Option ℕ → ByteCase → Bool
stays byte shift width None bits = nat_le bits.len byte
stays byte shift width (Some value) bits = bit_and (slice_index bits.value byte) (block shift width) == bit_and (value * 2 ^ shift) (slice_index bits.mask byte)

abbrev pub stays_at : List ByteCase → ℕ → ℕ → ℕ → Option ℕ → ℕ → Bool
stays_at cases byte shift width link number = option_map_or (stays byte shift width link) (slice_get cases number) false

abbrev pub kept : List ByteCase → ℕ → ℕ → ℕ → Option ℕ → List ℕ → List ℕ
kept cases byte shift width link numbers = filter (stays_at cases byte shift width link) numbers

-- ---- the rules

-- where a node stands: how many bits may be tested yet, which were tested, the cases left, and the bytes that a window has at least
pub record Place : Type 0 where
  pub room : ℕ
  pub tested : List ℕ
  pub left : List ℕ
  pub least : ℕ

abbrev pub place : ℕ → List ℕ → List ℕ → ℕ → Place
place room tested left least = record { room = room; tested = tested; left = left; least = least }

abbrev pub least_behind : ℕ → Option ℕ → ℕ → ℕ
least_behind byte None least = least
least_behind byte (Some value) least = max least (byte + 1)

-- the place behind the link of a test
abbrev pub behind : List ByteCase → ℕ → ℕ → ℕ → Option ℕ → Place → Place
behind cases byte shift width link here = place (here.room - width) (tested_more byte shift width here.tested) (kept cases byte shift width link here.left) (least_behind byte link here.least)

-- the number is in the list
abbrev pub Has : ℕ → List ℕ → Type 0
Has number [] = ⊥
Has number (first ∷ numbers) = (number ≡ first) ⊎ Has number numbers

-- the answer is one of these cases
abbrev pub IsAmong : Option CaseNo → List ℕ → Type 0
IsAmong None numbers = Unit {0}
IsAmong (Some answer) numbers = Has answer.0 numbers

-- the first case of the place has open bits there, and the run asks for some
pub record IsOpenTest (cases : List ByteCase) (here : Place) (byte shift width : ℕ) : Type 0 where
  pub some : 0 < width
  pub in_byte : shift + width ≤ 8
  pub fits : width ≤ here.room
  pub untested : bit_and (slice_index here.tested byte) (block shift width) ≡ 0
  pub first : ℕ
  pub head : slice_get here.left 0 ≡ Some first
  pub case_left : ByteCase
  pub at : slice_get cases first ≡ Some case_left
  pub in_case : byte < case_left.len
  pub asks : AsksOpen here.tested case_left byte shift width

pub record IsLeafAt (nodes : List Node) (at_node : ℕ) : Type 0 where
  pub answer : Option CaseNo
  pub at : slice_get nodes at_node ≡ Some (Leaf answer)

-- the nodes from this one on follow the rules of their places
pub data Ruled : List ByteCase → List Node → ℕ → Place → Type 0 where
  ruled_leaf : {cases : List ByteCase} {nodes : List Node} {at_node : ℕ} {here : Place} (answer : Option CaseNo) → slice_get nodes at_node ≡ Some (Leaf answer) → IsAmong answer here.left → Ruled cases nodes at_node here
  ruled_check : {cases : List ByteCase} {nodes : List Node} {at_node : ℕ} {here : Place} (checked : CaseNo) (met other : NodeNo) → slice_get nodes at_node ≡ Some (Check checked met other)
      → here.room ≡ 0 → Ruled cases nodes met.0 here → Ruled cases nodes other.0 here → Ruled cases nodes at_node here
  ruled_test : {cases : List ByteCase} {nodes : List Node} {at_node : ℕ} {here : Place} (byte shift width : ℕ) (kids : List ℕ) (short : NodeNo) → slice_get nodes at_node ≡ Some (Test byte shift width kids short)
      → IsOpenTest cases here byte shift width → (here.least ≤ byte) ⊎ IsLeafAt nodes short.0
      → Ruled cases nodes short.0 (behind cases byte shift width None here)
      → ((value : ℕ) → value < length kids → Ruled cases nodes (slice_index kids value) (behind cases byte shift width (Some value) here)) → Ruled cases nodes at_node here

-- ---- what was built

-- the node was made for these cases, and serves the windows that are so
pub record IsBuilt (cases : List ByteCase) (old new : List Node) (at_node : ℕ) (numbers : List ℕ) (room : ℕ) (tested : List ℕ) (least : ℕ) (Serves : List ℕ → Type 0) : Type 0 where
  pub grown : (more : List Node) × (new ≡ old ++ more)
  pub graph : IsGraph (length cases) new
  pub within : at_node < length new
  pub answers : (window : List ℕ) → Serves window → walk_at cases new window at_node ≡ first_among cases numbers window
  pub fresh : (other_node : ℕ) → length old ≤ other_node → other_node < length new → Reaches new at_node other_node
  pub ruled : Ruled cases new at_node (place room tested numbers least)

-- the kids up to a value were made
pub record AreKids (cases : List ByteCase) (old new : List Node) (kids numbers : List ℕ) (room : ℕ) (tested : List ℕ) (least byte shift width : ℕ) : Type 0 where
  pub grown : (more : List Node) × (new ≡ old ++ more)
  pub graph : IsGraph (length cases) new
  pub within : (value : ℕ) → value < length kids → slice_index kids value < length new
  pub answers : (value : ℕ) → value < length kids → (window : List ℕ) → Fits cases (kept cases byte shift width (Some value) numbers) tested least window
      → walk_at cases new window (slice_index kids value) ≡ first_among cases (kept cases byte shift width (Some value) numbers) window
  pub fresh : (other_node : ℕ) → length old ≤ other_node → other_node < length new → (value : ℕ) × (value < length kids) × Reaches new (slice_index kids value) other_node
  pub ruled : (value : ℕ) → value < length kids → Ruled cases new (slice_index kids value) (place room tested (kept cases byte shift width (Some value) numbers) least)

-- the window has no such byte, and these cases are left there
pub record FitsShort (cases : List ByteCase) (numbers tested : List ℕ) (least byte : ℕ) (window : List ℕ) : Type 0 where
  pub short : length window ≤ byte
  pub fits : Fits cases numbers tested least window

-- from `least` on no byte of the case was tested
abbrev pub IsUntested : List ℕ → ℕ → ByteCase → Type 0
IsUntested tested least bits = (index : ℕ) → least ≤ index → index < bits.len → slice_index tested index ≡ 0

abbrev pub AreUntested : List ByteCase → List ℕ → List ℕ → ℕ → Type 0
AreUntested cases numbers tested least = Each (λ number. (bits : ByteCase) → slice_get cases number ≡ Some bits → IsUntested tested least bits) numbers
