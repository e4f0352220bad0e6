-- The files of the current folder as a shelf.
use Rattle.std.specs.Prelude.{ℕ, Bool, false, List, Option, None}
use Rattle.sled_base.specs.Names.{fault_count}
use Rattle.toolkit_edge.specs.declared.folder.Folder.{Folder}

-- no text of a file is told
abbrev pub folder_text : {R : Type 0} → Folder R → List ℕ → Option (List ℕ)
folder_text s name = None

-- nor that a file is absent
abbrev pub folder_lacks : {R : Type 0} → Folder R → List ℕ → Bool
folder_lacks s name = false

-- how many loads of that name failed
abbrev pub folder_faults : {R : Type 0} → Folder R → List ℕ → ℕ
folder_faults s name = fault_count s.failed name
