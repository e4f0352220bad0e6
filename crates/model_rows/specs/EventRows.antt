-- Rows and laws on the addresses of events and on the labels that they place.
use Rattle.std.specs.Prelude.{ℕ, ◌≡◌, ◌+◌, List, [], ◌∷◌, ◌++◌, Some, None, Contains, pos}
use Rattle.sled_model.specs.declared.instance.Instance.{Instance}
use Rattle.sled_model.specs.declared.instance.LabelId.{LabelId}
use Rattle.sled_model.specs.declared.instance.Operand.TheVariants.{Num}
use Rattle.sled_model.specs.declared.spec.Spec.{Spec}
use Rattle.sled_model.specs.Encoding.{instance_len}
use Rattle.sled_model.specs.Events.{Event, Item, Placed, address, placed}
use Rattle.model_rows.specs.Description.{description, c_of, d_of, g_of}
use Rattle.model_rows.specs.EncodingRows.{label}

-- an item of one byte on line 1, label 0 on line 3, an item of two bytes on line 4, and label 1 on line 5
abbrev pub text : List Event
text = Item (c_of (Num (pos 10))) 1 ∷ Placed (label 0) 3 ∷ Item (g_of (Num (pos 10)) (d_of (Num (pos 4)))) 4 ∷ Placed (label 1) 5 ∷ []

pub record EventRows : Type 0 where
  -- items lie one after another, the first at the base
  pub behind : address description 100 text ≡ 103
  pub behind_nothing : address description 100 [] ≡ 100
  -- a label has the address of the next item, or the end
  pub between : placed description 100 text (label 0) ≡ Some (101, 3)
  pub last : placed description 100 text (label 1) ≡ Some (103, 5)
  pub unplaced : placed description 100 text (label 2) ≡ None

-- of whatever description and events
pub record EventLaws : Type 0 where
  -- an item takes its length behind the events before it, and a label nothing
  pub address_item : (spec : Spec) (base : ℕ) (es : List Event) (i : Instance) (line : ℕ) → address spec base (es ++ Item i line ∷ []) ≡ address spec base es + instance_len spec i
  pub address_label : (spec : Spec) (base : ℕ) (es : List Event) (l : LabelId) (line : ℕ) → address spec base (es ++ Placed l line ∷ []) ≡ address spec base es
  -- a label that the events before do not place has the address behind them, and its line
  pub placed_there : (spec : Spec) (base : ℕ) (es fs : List Event) (l : LabelId) (line : ℕ) → placed spec base es l ≡ None → placed spec base (es ++ Placed l line ∷ fs) l ≡ Some (address spec base es, line)
  -- what the events before place stays
  pub placed_before : (spec : Spec) (base : ℕ) (es fs : List Event) (l : LabelId) (p : ℕ × ℕ) → placed spec base es l ≡ Some p → placed spec base (es ++ fs) l ≡ Some p
  -- a label is placed by an event that places it, and by no other
  pub placed_by : (spec : Spec) (base : ℕ) (es : List Event) (l : LabelId) (p : ℕ × ℕ) → placed spec base es l ≡ Some p → Contains es (Placed l p.1)
  pub placed_nowhere : (spec : Spec) (base : ℕ) (es : List Event) (l : LabelId) (line : ℕ) → placed spec base es l ≡ None → Contains es (Placed l line) → ⊥
