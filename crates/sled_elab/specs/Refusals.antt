-- How a refusal names the first declaration that lacks a condition.
use Rattle.std.specs.Prelude.{ℕ, Option, Some}
use Rattle.sled_elab.specs.declared.fault.ElabFault.{ElabFault}
use Rattle.sled_elab.specs.declared.fault.ElabFault.TheVariants as fault

-- the refusal names what this holds of
abbrev pub IsRefusedBy : (Option (ℕ × ℕ) → Type 0) → ElabFault → Type 0
IsRefusedBy IsFirst (fault.Unmet declaration condition) = IsFirst (Some (declaration, condition))
IsRefusedBy IsFirst fault.NoMemory = Unit {0}
