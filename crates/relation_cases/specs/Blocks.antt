-- The values of a field, in blocks whose values have the same bits from some bit on.
use Rattle.std.specs.Prelude.{ℕ, ◌≡◌, ◌-◌, ◌/◌, ◌^◌, ◌<◌, ◌≤◌, ◌==◌, Bool, List, [], ◌∷◌, length, count_by, All, bit_xor, if◌then◌else◌}
use Rattle.sled_model.specs.declared.pattern.Relation.{Relation}
use Rattle.sled_model.specs.declared.pattern.Relation.TheVariants.{Differs, Below, Above}
use Rattle.sled_model.specs.Results.{has_relation}
use Rattle.sled_model.specs.Measures.{limit_weight}
use Rattle.relation_cases.specs.declared.blocks.Block.{Block}

-- the value's bits from the free ones on are the block's
abbrev pub is_in : ℕ → Block → Bool
is_in value block = value / 2 ^ block.free == block.top

-- all values of the block have at most so many bits
pub record IsBlock (width : ℕ) (block : Block) : Type 0 where
  pub free : block.free ≤ width
  pub top : block.top < 2 ^ (width - block.free)

-- each value of so many bits lies in exactly one of the blocks where it has the relation to the limit, and else in none
pub record AreBlocksOf (relation : Relation) (width limit : ℕ) (blocks : List Block) : Type 0 where
  pub once : (value : ℕ) → value < 2 ^ width → count_by (λ block. is_in value block) blocks ≡ (if has_relation relation value limit then 1 else 0)
  pub count : length blocks ≡ limit_weight width relation limit
  pub all : All (IsBlock width) blocks

-- a relation that no value has to itself
abbrev pub IsStrict : Relation → Type 0
IsStrict Differs = Unit {0}
IsStrict Below = Unit {0}
IsStrict Above = Unit {0}
IsStrict _ = ⊥

-- the values that are the limit's above this bit, and differ from it in the bit
abbrev pub parting : ℕ → ℕ → Block
parting limit bit = record { top = bit_xor (limit / 2 ^ bit) 1; free = bit }

-- this block, where its values have the relation to the limit
abbrev pub parted : Relation → ℕ → ℕ → List Block
parted relation limit bit = if has_relation relation (parting limit bit).top (limit / 2 ^ bit) then parting limit bit ∷ [] else []
