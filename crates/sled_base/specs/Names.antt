-- Names that are kept once for each failure.
use Rattle.std.specs.Prelude.{ℕ, ◌<◌, List, count_by, bytes_eq, Vec, vec_len, vec_capacity}
use Rattle.std.specs.declared.alloc.Global.{Global}
use Rattle.sled_base.specs.declared.fault_names.FaultNames.{FaultNames}

-- how often that name is kept
abbrev pub name_count : List (Vec ℕ Global) → List ℕ → ℕ
name_count names name = count_by (λ v. bytes_eq v.items name) names

-- how often a load of that name failed
abbrev pub fault_count : FaultNames → List ℕ → ℕ
fault_count s name = name_count s.names.items name

-- one more name can be kept without memory
abbrev pub HasRoom : FaultNames → Type 0
HasRoom s = vec_len s.names < vec_capacity s.names
