-- A shelf in memory.
use Rattle.std.specs.Prelude.{◌≡◌, ℕ, ◌⊎◌, Bool, List, reverse, Option, is_none, None, Contains, find, option_map, bytes_eq}
use Rattle.sled_base.specs.Memory.{counted}
use Rattle.sled_base.specs.declared.shelf.MemShelf.{MemShelf}
use Rattle.sled_base.specs.declared.shelf.Entry.{Entry}
use Rattle.sled_base.specs.Names.{fault_count}

-- the text of that name, where there is one: the one that was added last
abbrev pub entry_text : List Entry → List ℕ → Option (List ℕ)
entry_text entries name = option_map (λ e. e.text.items) (find (λ e. bytes_eq e.name.items name) (reverse entries))

abbrev pub shelf_text : MemShelf → List ℕ → Option (List ℕ)
shelf_text s name = entry_text s.entries.items name

-- there is no text of that name
abbrev pub shelf_lacks : MemShelf → List ℕ → Bool
shelf_lacks s name = is_none (shelf_text s name)

-- how many loads of that name failed
abbrev pub shelf_faults : MemShelf → List ℕ → ℕ
shelf_faults s name = fault_count s.failed name

abbrev pub shelf_failing : MemShelf → List ℕ
shelf_failing s = s.failing.items

abbrev pub shelf_calls : MemShelf → ℕ
shelf_calls s = s.calls

-- the next load of that name fails
abbrev pub LoadFails : MemShelf → List ℕ → Type 0
LoadFails s name = Contains s.failing.items (counted s.calls) ⊎ (shelf_text s name ≡ None)
