-- The bytes of an instance: the least that mean it, or why there are none.
use Rattle.std.specs.Prelude.{ℕ, ◌+◌, ◌≡◌, ◌==◌, ◌<◌, ◌⊎◌, if◌then◌else◌, List, [], ◌∷◌, ◌++◌, length, map, sum, All, Contains, Option, Some, None, IfSome, slice_get, unwrap_or, ℤ, pos, ◌+ℤ◌, ◌≤ℤ◌}
use Rattle.std.specs.List.{flat_map}
use Rattle.std.specs.Option.{option_map_or}
use Rattle.token_bits.specs.declared.tokens.Tokens.{Tokens}
use Rattle.sled_model.specs.declared.constructor.ConstructorId.{ConstructorId}
use Rattle.sled_model.specs.declared.constructor.OperandKind.{OperandKind}
use Rattle.sled_model.specs.declared.constructor.OperandKind.TheVariants.{Plain, Extended, Typed, Whole, Sliced}
use Rattle.sled_model.specs.declared.constructor.Constructor.{Constructor}
use Rattle.sled_model.specs.declared.instance.Instance.{Instance}
use Rattle.sled_model.specs.declared.instance.LabelId.{LabelId}
use Rattle.sled_model.specs.declared.instance.Operand.{Operand, Row_of-Instance, end_of-Instance, more_of-Instance, Row_of-Operand, end_of-Operand, more_of-Operand, items-the_row-Operand}
use Rattle.sled_model.specs.declared.instance.Operand.TheVariants.{Num, Place, Sub, Sub'}
use Rattle.sled_model.specs.declared.pattern.Pattern.{Pattern, Row_of-Pattern, end_of-Pattern, more_of-Pattern}
use Rattle.sled_model.specs.declared.pattern.Pattern.TheVariants.{Operand as TypedOperand, Label', Both', Either', Chain', Loose'}
use Rattle.sled_model.specs.declared.raw.Match.{Match}
use Rattle.sled_model.specs.declared.spec.Spec.{Spec}
use Rattle.sled_model.specs.Kinds.{range_of}
use Rattle.sled_model.specs.Measures.{longest}
use Rattle.sled_model.specs.Results.{Meaning, Known, known_from}
use Rattle.sled_model.specs.Solutions.{IsFirstUnsolvable, setting_of}
use Rattle.sled_model.specs.Instances.{Means, numbers_of}

-- ---- labels

-- the address of a label, where it has one
abbrev pub address_of : List (Option ℕ) → LabelId → Option ℕ
address_of addresses label = unwrap_or (slice_get addresses label.0) None

mutual
  -- the second instance is the first with each label replaced by its address, and the number added to it
  pub data Resolves : List (Option ℕ) → Instance → Instance → Type 0 where
    resolves : {addresses : List (Option ℕ)} {i j : Instance} → i.constructor ≡ j.constructor → EachResolves addresses i.operands j.operands → Resolves addresses i j

  pub data EachResolves : List (Option ℕ) → List Operand → List Operand → Type 0 where
    no_more : {addresses : List (Option ℕ)} → EachResolves addresses [] []
    num : {addresses : List (Option ℕ)} {n : ℤ} {os ps : List Operand} → EachResolves addresses os ps → EachResolves addresses (Num n ∷ os) (Num n ∷ ps)
    place : {addresses : List (Option ℕ)} {label : LabelId} {add : ℤ} {os ps : List Operand} (address : ℕ)
        → address_of addresses label ≡ Some address → EachResolves addresses os ps → EachResolves addresses (Place label add ∷ os) (Num (pos address +ℤ add) ∷ ps)
    sub : {addresses : List (Option ℕ)} {os ps : List Operand} (i j : Instance) → Resolves addresses i j → EachResolves addresses os ps → EachResolves addresses (Sub i ∷ os) (Sub j ∷ ps)

-- ---- length

-- the length of the body of the constructor of this number, where its operands have these lengths
abbrev pub constructor_len : Spec → ConstructorId → List ℕ → ℕ
constructor_len spec k lens = option_map_or (λ (c : Constructor). longest spec.tokens [] (λ j. unwrap_or (slice_get lens j) 0) c.body) (slice_get spec.constructors k.0) 0

abbrev mutual
  -- the length of what stands for an operand in the body
  pub operand_bytes : Spec → Operand → ℕ
  operand_bytes spec (Sub' s i) = row_bytes spec i
  operand_bytes spec _ = 0

  pub row_bytes : {n : _} → Spec → Row_of-Instance n → ℕ
  row_bytes spec end_of-Instance = 0
  row_bytes spec (more_of-Instance k s operands none) = constructor_len spec k (row_operand_bytes spec operands)

  pub row_operand_bytes : {n : _} → Spec → Row_of-Operand n → List ℕ
  row_operand_bytes spec end_of-Operand = []
  row_operand_bytes spec (more_of-Operand o os) = operand_bytes spec o ∷ row_operand_bytes spec os

-- how many bytes the instance has: its body with the lengths of its operands. All alternatives of a body have one length.
abbrev pub instance_len : Spec → Instance → ℕ
instance_len spec i = constructor_len spec i.constructor (map (operand_bytes spec) i.operands)

-- ---- where labels stand

-- what stands at an offset of a body
pub record Standing : Type 0 where
  pub labels : List (ℕ × ℕ)
  pub operands : List (ℕ × ℕ)

abbrev pub nothing_standing : Standing
nothing_standing = record { labels = []; operands = [] }

abbrev pub and_standing : Standing → Standing → Standing
and_standing a b = record { labels = a.labels ++ b.labels; operands = a.operands ++ b.operands }

abbrev mutual
  -- the labels and the operands of a body with their offsets, where it stands at this offset and its operands have these lengths
  pub standing : Tokens → (ℕ → ℕ) → ℕ → Pattern → Standing
  standing tokens operands at (TypedOperand k) = record { labels = []; operands = (k, at) ∷ [] }
  standing tokens operands at (Label' l s p) = and_standing (record { labels = (l, at) ∷ []; operands = [] }) (side_by_side tokens operands at p)
  standing tokens operands at (Both' s ps) = side_by_side tokens operands at ps
  standing tokens operands at (Either' s ps) = side_by_side tokens operands at ps
  standing tokens operands at (Chain' s ps) = one_by_one tokens operands at ps
  standing tokens operands at (Loose' s p) = side_by_side tokens operands at p
  standing tokens operands at _ = nothing_standing

  -- all at the same offset
  pub side_by_side : {n : _} → Tokens → (ℕ → ℕ) → ℕ → Row_of-Pattern n → Standing
  side_by_side tokens operands at end_of-Pattern = nothing_standing
  side_by_side tokens operands at (more_of-Pattern p ps) = and_standing (standing tokens operands at p) (side_by_side tokens operands at ps)

  -- each where the one before it ends
  pub one_by_one : {n : _} → Tokens → (ℕ → ℕ) → ℕ → Row_of-Pattern n → Standing
  one_by_one tokens operands at end_of-Pattern = nothing_standing
  one_by_one tokens operands at (more_of-Pattern p ps) = and_standing (standing tokens operands at p) (one_by_one tokens operands (at + longest tokens [] operands p) ps)

-- the offset in the list, or 0
abbrev pub offset_of : ℕ → List (ℕ × ℕ) → ℕ
offset_of k [] = 0
offset_of k (x ∷ xs) = if x.0 == k then x.1 else offset_of k xs

-- what stands in the body of an instance that begins at this offset of the instruction
abbrev pub standing_in : Spec → ℕ → ConstructorId → List ℕ → Standing
standing_in spec at k lens = option_map_or (λ (c : Constructor). standing spec.tokens (λ j. unwrap_or (slice_get lens j) 0) at c.body) (slice_get spec.constructors k.0) nothing_standing

-- ---- bytes

abbrev pub IsBytes : List ℕ → Type 0
IsBytes bytes = All (λ b. b < 256) bytes

-- the results of the body of the constructor of this number
abbrev pub body_results : Spec → ConstructorId → Meaning
body_results spec k bytes at = option_map_or (λ (c : Known). c.body bytes at) (slice_get (known_from spec.tokens [] spec.constructors) k.0) []

-- the bytes, all of them, have a result of the instance's body that means it at the location; its labels are resolved
pub record Spells (spec : Spec) (location : ℕ) (i : Instance) (bytes : List ℕ) : Type 0 where
  pub result : Match
  pub has : Contains (body_results spec i.constructor bytes 0) result
  pub whole : result.len ≡ length bytes
  pub means : Means spec location result.binds i

-- bytes of the instance's length that spell it
pub record IsSpelled (spec : Spec) (location : ℕ) (i : Instance) (bytes : List ℕ) : Type 0 where
  pub are_bytes : IsBytes bytes
  pub len : length bytes ≡ instance_len spec i
  pub spells : Spells spec location i bytes

-- at or before, in the order of bytes
abbrev pub IsAtOrBefore : List ℕ → List ℕ → Type 0
IsAtOrBefore [] ys = Unit {0}
IsAtOrBefore (x ∷ xs) [] = ⊥
IsAtOrBefore (x ∷ xs) (y ∷ ys) = (x < y) ⊎ ((x ≡ y) × IsAtOrBefore xs ys)

-- the least bytes of a resolved instance
pub record IsLeast (spec : Spec) (location : ℕ) (i : Instance) (bytes : List ℕ) : Type 0 where
  pub spelled : IsSpelled spec location i bytes
  pub least : (others : List ℕ) → IsSpelled spec location i others → IsAtOrBefore bytes others

-- no bytes spell a resolved instance
abbrev pub IsExcluded : Spec → ℕ → Instance → Type 0
IsExcluded spec location i = (bytes : List ℕ) → IsSpelled spec location i bytes → ⊥

-- ---- faults

pub data EncodeFault : Type 0 where
  Unplaced : LabelId → EncodeFault
  Unfit : ℕ → EncodeFault
  NoSolution : ℕ → ℕ → EncodeFault
  Excluded : EncodeFault

abbrev mutual
  -- the labels of an operand, from left to right
  pub labels_named : Operand → List LabelId
  labels_named (Num n) = []
  labels_named (Place label add) = label ∷ []
  labels_named (Sub' s i) = row_labels_named i

  pub row_labels_named : {n : _} → Row_of-Instance n → List LabelId
  row_labels_named end_of-Instance = []
  row_labels_named (more_of-Instance k s operands none) = operand_labels_named operands

  pub operand_labels_named : {n : _} → Row_of-Operand n → List LabelId
  operand_labels_named end_of-Operand = []
  operand_labels_named (more_of-Operand o os) = labels_named o ++ operand_labels_named os

-- the labels that an instance names
abbrev pub instance_labels : Instance → List LabelId
instance_labels i = flat_map labels_named i.operands

-- the first of the labels without an address
pub data IsFirstUnplaced : List (Option ℕ) → List LabelId → LabelId → Type 0 where
  here : {addresses : List (Option ℕ)} {label : LabelId} {labels : List LabelId} → address_of addresses label ≡ None → IsFirstUnplaced addresses (label ∷ labels) label
  later : {addresses : List (Option ℕ)} {label other : LabelId} {labels : List LabelId} (address : ℕ) → address_of addresses other ≡ Some address
      → IsFirstUnplaced addresses labels label → IsFirstUnplaced addresses (other ∷ labels) label

-- a node of a resolved instance: its number, counted from 0 for the whole with each holder before what it holds and from left to right, the
-- offset in the instruction at which its bytes begin, its constructor and its operands
pub record Node : Type 0 where
  pub number : ℕ
  pub at : ℕ
  pub constructor : ConstructorId
  pub operands : List Operand
  pub lens : List ℕ

abbrev mutual
  -- how many operands there are: this one, and those that it holds
  pub operand_count : Operand → ℕ
  operand_count (Sub' s i) = 1 + row_count i
  operand_count _ = 1

  pub row_count : {n : _} → Row_of-Instance n → ℕ
  row_count end_of-Instance = 0
  row_count (more_of-Instance k s operands none) = operand_row_count operands

  pub operand_row_count : {n : _} → Row_of-Operand n → ℕ
  operand_row_count end_of-Operand = 0
  operand_row_count (more_of-Operand o os) = operand_count o + operand_row_count os

abbrev mutual
  -- the nodes of an operand with this number and this offset, those that are held before those that hold them
  pub nodes_in : Spec → ℕ → ℕ → Operand → List Node
  nodes_in spec number at (Sub' s i) = row_nodes spec number at i
  nodes_in spec number at _ = []

  pub row_nodes : {n : _} → Spec → ℕ → ℕ → Row_of-Instance n → List Node
  row_nodes spec number at end_of-Instance = []
  row_nodes spec number at (more_of-Instance k s operands none) =
      operand_nodes spec (number + 1) 0 (standing_in spec at k (row_operand_bytes spec operands)).operands operands
      ++ record { number = number; at = at; constructor = k; operands = items-the_row-Operand _ operands; lens = row_operand_bytes spec operands } ∷ []

  -- those of the operands from number j of their constructor on, the first of which has this number of all; they stand at these offsets
  pub operand_nodes : {n : _} → Spec → ℕ → ℕ → List (ℕ × ℕ) → Row_of-Operand n → List Node
  operand_nodes spec number j offsets end_of-Operand = []
  operand_nodes spec number j offsets (more_of-Operand o os) = nodes_in spec number (offset_of j offsets) o ++ operand_nodes spec (number + operand_count o) (j + 1) offsets os

-- the nodes of an instance
abbrev pub nodes_of : Spec → Instance → List Node
nodes_of spec i = nodes_in spec 0 0 (Sub i)

-- the number lies in the range of its kind; an instance always does
abbrev pub IsInRange : Tokens → OperandKind → Operand → Type 0
IsInRange tokens kind (Num n) = IfSome (range_of tokens kind) (λ range. (range.0 ≤ℤ n) × (n ≤ℤ range.1))
IsInRange tokens kind _ = Unit {0}

-- the first operand out of its range has this number, where the first of the list has number k
abbrev pub IsFirstUnfit : Tokens → ℕ → List OperandKind → List Operand → ℕ → Type 0
IsFirstUnfit tokens k (kind ∷ kinds) (o ∷ os) n =
    ((n ≡ k) × (IsInRange tokens kind o → ⊥)) ⊎ (IsInRange tokens kind o × IsFirstUnfit tokens (k + operand_count o) kinds os n)
IsFirstUnfit tokens k _ _ n = ⊥

-- the addresses of the labels of a node's body, for the instruction at this location
abbrev pub node_labels : Spec → ℕ → Node → ℕ → ℤ
node_labels spec location node l = pos (location + offset_of l (standing_in spec node.at node.constructor node.lens).labels)

-- what is wrong at a node of a resolved instance: an operand, or else an equation
pub data IsFaultAt : Spec → ℕ → Node → EncodeFault → Type 0 where
  unfit : {spec : Spec} {location : ℕ} {node : Node} {operand : ℕ} (c : Constructor) → slice_get spec.constructors node.constructor.0 ≡ Some c
      → IsFirstUnfit spec.tokens (node.number + 1) c.operands node.operands operand → IsFaultAt spec location node (Unfit operand)
  unsolvable : {spec : Spec} {location : ℕ} {node : Node} {equation : ℕ} (c : Constructor) → slice_get spec.constructors node.constructor.0 ≡ Some c
      → ((n : ℕ) → IsFirstUnfit spec.tokens (node.number + 1) c.operands node.operands n → ⊥)
      → IsFirstUnsolvable (setting_of spec.tokens (numbers_of node.operands) (node_labels spec location node)) c equation → IsFaultAt spec location node (NoSolution node.number equation)

-- nothing is wrong at the nodes
abbrev pub HaveNoFault : Spec → ℕ → List Node → Type 0
HaveNoFault spec location nodes = All (λ node. (fault : EncodeFault) → IsFaultAt spec location node fault → ⊥) nodes

-- the fault at the first of the nodes at which something is wrong
pub data IsFirstFault : Spec → ℕ → List Node → EncodeFault → Type 0 where
  here : {spec : Spec} {location : ℕ} {node : Node} {nodes : List Node} {fault : EncodeFault} → IsFaultAt spec location node fault → IsFirstFault spec location (node ∷ nodes) fault
  later : {spec : Spec} {location : ℕ} {node : Node} {nodes : List Node} {fault : EncodeFault}
      → ((f : EncodeFault) → IsFaultAt spec location node f → ⊥) → IsFirstFault spec location nodes fault → IsFirstFault spec location (node ∷ nodes) fault

-- why an instance has no bytes at a location, where labels have these addresses: a label without one, or else what is wrong at the first node
-- at which something is, or else that no bytes spell it
pub data IsEncodeFault : Spec → List (Option ℕ) → ℕ → Instance → EncodeFault → Type 0 where
  unplaced : {spec : Spec} {addresses : List (Option ℕ)} {location : ℕ} {i : Instance} (label : LabelId) → IsFirstUnplaced addresses (instance_labels i) label
      → IsEncodeFault spec addresses location i (Unplaced label)
  at_node : {spec : Spec} {addresses : List (Option ℕ)} {location : ℕ} {i : Instance} {fault : EncodeFault} (resolved : Instance) → Resolves addresses i resolved
      → IsFirstFault spec location (nodes_of spec resolved) fault → IsEncodeFault spec addresses location i fault
  excluded : {spec : Spec} {addresses : List (Option ℕ)} {location : ℕ} {i : Instance} (resolved : Instance) → Resolves addresses i resolved
      → HaveNoFault spec location (nodes_of spec resolved) → IsExcluded spec location resolved → IsEncodeFault spec addresses location i Excluded

-- the bytes of an instance at a location, where labels have these addresses and nothing is wrong
pub record HasBytes (spec : Spec) (addresses : List (Option ℕ)) (location : ℕ) (i : Instance) (bytes : List ℕ) : Type 0 where
  pub resolved : Instance
  pub resolves : Resolves addresses i resolved
  pub fits : HaveNoFault spec location (nodes_of spec resolved)
  pub least : IsLeast spec location resolved bytes
