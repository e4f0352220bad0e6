-- Walks over the nodes.
use Rattle.std.specs.Prelude.{ℕ, zero, suc, Bool, true, false, ◌≡◌, ◌+◌, ◌^◌, ◌<◌, ◌≤◌, ◌⊎◌, List, [], ◌∷◌, ◌++◌, length, slice_get, slice_index, Option, Some, None, if◌then◌else◌}
use Rattle.std.proofs.Props.{props}
use Rattle.std.specs.List.{position_from}
use Rattle.std.specs.Option.{option_map, option_map_or}
use Rattle.bit_cases.specs.Bits.{meets}
use Rattle.bit_cases.specs.declared.byte_case.ByteCase.{ByteCase}
use Rattle.decision_tree.specs.declared.node.CaseNo.{CaseNo}
use Rattle.decision_tree.specs.declared.node.Node.{Node}
use Rattle.decision_tree.specs.declared.node.Node.TheVariants.{Leaf, Check, Test}
use Rattle.decision_tree.specs.declared.node.Next.{Next}
use Rattle.decision_tree.specs.declared.node.Next.TheVariants.{Done, Go}
use Rattle.decision_tree.specs.Window.{bits_of}

-- the window meets the case
abbrev pub is_met : List ℕ → ByteCase → Bool
is_met window bits = meets bits.mask bits.value bits.len window

-- the window meets the case of that number
abbrev pub is_met_at : List ByteCase → List ℕ → ℕ → Bool
is_met_at cases window number = option_map_or (is_met window) (slice_get cases number) false

abbrev pub case_no : ℕ → CaseNo
case_no number = record { 0 = number }

-- the first case that the window meets
abbrev pub first_met : List ByteCase → List ℕ → Option CaseNo
first_met cases window = option_map case_no (position_from (is_met window) 0 cases)

-- ---- the walk

-- the link that a test takes
abbrev pub test_link : List ℕ → ℕ → Option ℕ → ℕ
test_link kids short None = short
test_link kids short (Some value) = slice_index kids value

-- what the walk does at a node
abbrev pub next : List ByteCase → List ℕ → Node → Next
next cases window (Leaf answer) = Done answer
next cases window (Check checked met other) = Go (record { 0 = if is_met_at cases window checked.0 then met.0 else other.0 })
next cases window (Test byte shift width kids short) = Go (record { 0 = test_link kids short.0 (bits_of byte shift width window) })

abbrev pub next_at : List ByteCase → List ℕ → Option Node → Next
next_at cases window None = Done None
next_at cases window (Some node) = next cases window node

abbrev pub answer_of : (ℕ → Option CaseNo) → Next → Option CaseNo
answer_of go (Done answer) = answer
answer_of go (Go number) = go number.0

-- follows the links over at most so many nodes
unfoldable pub walk_from : ℕ → List ByteCase → List Node → List ℕ → ℕ → Option CaseNo
walk_from zero cases nodes window number = None
walk_from (suc turns) cases nodes window number = answer_of (walk_from turns cases nodes window) (next_at cases window (slice_get nodes number))

-- a link leads to a lower number, so these turns are enough
unfoldable pub walk_at : List ByteCase → List Node → List ℕ → ℕ → Option CaseNo
walk_at cases nodes window number = walk_from (suc number) cases nodes window number

-- a test asks once, and a check at most for 32 bytes
abbrev pub cost : Node → ℕ
cost (Leaf answer) = 0
cost (Check checked met other) = 32
cost (Test byte shift width kids short) = 1

abbrev pub cost_at : Option Node → ℕ
cost_at None = 0
cost_at (Some node) = cost node

abbrev pub cost_of : (ℕ → ℕ) → Next → ℕ
cost_of go (Done answer) = 0
cost_of go (Go number) = go number.0

unfoldable pub asks_from : ℕ → List ByteCase → List Node → List ℕ → ℕ → ℕ
asks_from zero cases nodes window number = 0
asks_from (suc turns) cases nodes window number = cost_at (slice_get nodes number) + cost_of (asks_from turns cases nodes window) (next_at cases window (slice_get nodes number))

unfoldable pub asks_at : List ByteCase → List Node → List ℕ → ℕ → ℕ
asks_at cases nodes window number = asks_from (suc number) cases nodes window number

abbrev pub is_test : Node → Bool
is_test (Test byte shift width kids short) = true
is_test _ = false

-- ---- the form of a graph

-- the node may stand at that number: it names a case, its links are lower, and it asks for bits that there are
pub record IsTest (number byte shift width : ℕ) (kids : List ℕ) (short : ℕ) : Type 0 where
  pub in_window : byte < 32
  pub some : 0 < width
  pub in_byte : shift + width ≤ 8
  pub each : length kids ≡ 2 ^ width
  pub kids_lower : (value : ℕ) → value < length kids → slice_index kids value < number
  pub short_lower : short < number

abbrev pub IsFormed : ℕ → ℕ → Node → Type 0
IsFormed count number (Leaf answer) = Unit {0}
IsFormed count number (Check checked met other) = (checked.0 < count) × (met.0 < number) × (other.0 < number)
IsFormed count number (Test byte shift width kids short) = IsTest number byte shift width kids short.0

pub IsFormed-prop : (count number : ℕ) (node : Node) → IsProp (IsFormed count number node)
IsFormed-prop count number (Leaf answer) = hlevel props
IsFormed-prop count number (Check checked met other) = hlevel props
IsFormed-prop count number (Test byte shift width kids short) = hlevel props

-- all nodes are formed so
pub record IsGraph (count : ℕ) (nodes : List Node) : Type 0 where
  pub formed : (number : ℕ) (node : Node) → slice_get nodes number ≡ Some node → IsFormed count number node

-- the list became longer by the node, which has that number, or stayed
abbrev pub Grows : List Node → List Node → Node → ℕ → Type 0
Grows old new node number = (new ≡ old) ⊎ ((new ≡ old ++ node ∷ []) × (number ≡ length old))

-- ---- what is reached

-- a link of the node leads to the target
abbrev pub IsLink : Node → ℕ → Type 0
IsLink (Leaf answer) target = ⊥
IsLink (Check checked met other) target = (target ≡ met.0) ⊎ (target ≡ other.0)
IsLink (Test byte shift width kids short) target = (target ≡ short.0) ⊎ ((value : ℕ) × (value < length kids) × (slice_index kids value ≡ target))

-- links lead from the one number to the other
pub data Reaches : List Node → ℕ → ℕ → Type 0 where
  here : {nodes : List Node} {number : ℕ} → Reaches nodes number number
  along : {nodes : List Node} {number target last : ℕ} (node : Node) → slice_get nodes number ≡ Some node → IsLink node target → Reaches nodes target last → Reaches nodes number last
