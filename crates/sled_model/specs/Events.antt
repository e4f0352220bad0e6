-- The events of an assembly text: items, and labels.
use Rattle.std.specs.Prelude.{ℕ, ◌+◌, ◌==◌, List, [], ◌∷◌, Option, Some, None, if◌then◌else◌}
use Rattle.sled_model.specs.declared.instance.Instance.{Instance}
use Rattle.sled_model.specs.declared.instance.LabelId.{LabelId}
use Rattle.sled_model.specs.declared.spec.Spec.{Spec}
use Rattle.sled_model.specs.Encoding.{instance_len}

-- an item or a label, with the number of its line
pub data Event : Type 0 where
  Item : Instance → ℕ → Event
  Placed : LabelId → ℕ → Event

abbrev pub event_len : Spec → Event → ℕ
event_len spec (Item i line) = instance_len spec i
event_len spec (Placed label line) = 0

-- the address behind the events: items lie one after another, the first at the base
abbrev pub address : Spec → ℕ → List Event → ℕ
address spec base [] = base
address spec base (e ∷ es) = address spec (base + event_len spec e) es

-- the address and the line of a label, where one of the events places it: the address is that of what comes next
abbrev pub placed : Spec → ℕ → List Event → LabelId → Option (ℕ × ℕ)
placed spec base [] label = None
placed spec base (Item i line ∷ es) label = placed spec (base + instance_len spec i) es label
placed spec base (Placed other line ∷ es) label = if other.0 == label.0 then Some (base, line) else placed spec base es label
