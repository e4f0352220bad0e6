-- What a message leaves.
use Rattle.std.specs.Prelude.{◌≡◌, ◌⊎◌, ℕ, List, Option}
use Rattle.std.specs.Io.KnownBytes.{Appends, Keeps}
use Rattle.sled_base.specs.Causes.{Rose}
use Rattle.sled_base.specs.Contents.{AppendsProperPrefix}
use Rattle.toolkit_cli.specs.declared.status.Status.{Status}
use Rattle.toolkit_cli.specs.declared.status.Status.TheVariants.{WriteFault, NoMemory}

-- the message is whole, or the sink failed within it, or there was no memory for it
abbrev pub Told : Option (List ℕ) → Option (List ℕ) → ℕ → ℕ → List ℕ → Status → Status → Type 0
Told old new count new_count text wanted status =
    ((status ≡ wanted) × Appends old new text)
    ⊎ (((status ≡ WriteFault) × Rose count new_count × AppendsProperPrefix old new text)
    ⊎ ((status ≡ NoMemory) × Keeps old new))
