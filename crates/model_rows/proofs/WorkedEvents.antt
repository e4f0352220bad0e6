-- Addresses and labels of events.
use Rattle.std.proofs.Common.{◌≡◌, ℕ, ◌+◌, Bool, true, false, eqb, List, [], ◌∷◌, ◌++◌, Option, Some, None, All, Contains, refl, ap, ◌∙◌, arith}
use Rattle.std.specs.Prelude.{if◌then◌else◌}
use Rattle.std.proofs.lemmas.Bool.{eqb-true, eq-eqb}
use Rattle.std.proofs.lemmas.List.Elements.{All-nil, All-cons, All-contains, Contains-append_right}
use Rattle.sled_model.specs.declared.instance.Instance.{Instance}
use Rattle.sled_model.specs.declared.instance.LabelId.{LabelId}
use Rattle.sled_model.specs.declared.instance.Operand.TheBlock.{hidden-the_row-Instance-1, hidden-the_row-Operand-0}
use Rattle.sled_model.specs.declared.pattern.Argument.TheBlock.{hidden-the_row-Pattern-1}
use denote.Hole.Carrier.{hidden}
use Rattle.sled_model.specs.declared.spec.Spec.{Spec}
use Rattle.sled_model.specs.Encoding.{instance_len}
use Rattle.sled_model.specs.Events.{Event, Item, Placed, event_len, address, placed}
use Rattle.model_rows.specs.EventRows.{EventRows, EventLaws}

pub event_rows : EventRows
unfolding hidden-the_row-Instance-1 hidden-the_row-Operand-0 hidden-the_row-Pattern-1 hidden
event_rows = record { behind = refl; behind_nothing = refl; between = refl; last = refl; unplaced = refl }

module _ (spec : Spec) where
  address_joined : (base : ℕ) (es fs : List Event) → address spec base (es ++ fs) ≡ address spec (address spec base es) fs
  address_joined base [] fs = refl
  address_joined base (e ∷ es) fs = address_joined (base + event_len spec e) es fs

  address_item : (base : ℕ) (es : List Event) (i : Instance) (line : ℕ) → address spec base (es ++ Item i line ∷ []) ≡ address spec base es + instance_len spec i
  address_item base es i line = address_joined base es (Item i line ∷ [])

  address_label : (base : ℕ) (es : List Event) (l : LabelId) (line : ℕ) → address spec base (es ++ Placed l line ∷ []) ≡ address spec base es
  address_label base es l line = address_joined base es (Placed l line ∷ []) ∙ omega arith

  abbrev choose : Bool → ℕ × ℕ → Option (ℕ × ℕ) → Option (ℕ × ℕ)
  choose t p o = if t then Some p else o

  placed_joined : (base : ℕ) (es fs : List Event) (l : LabelId) → placed spec base es l ≡ None → placed spec base (es ++ fs) l ≡ placed spec (address spec base es) fs l
  placed_joined base [] fs l e = refl
  placed_joined base (Item i line ∷ es) fs l e = placed_joined (base + instance_len spec i) es fs l e
  placed_joined base (Placed m line ∷ es) fs l e = by_test (λ q. placed_joined base es fs l q) (eqb m.0 l.0) e
    where
      by_test : (placed spec base es l ≡ None → placed spec base (es ++ fs) l ≡ placed spec (address spec base es) fs l) → (t : Bool) → choose t (base, line) (placed spec base es l) ≡ None → choose t (base, line) (placed spec base (es ++ fs) l) ≡ placed spec (address spec (base + 0) es) fs l
      by_test more true q = cc
      by_test more false q = more q ∙ ap (λ b. placed spec (address spec b es) fs l) (let z : base ≡ base + 0 = omega arith in z)

  placed_there : (base : ℕ) (es fs : List Event) (l : LabelId) (line : ℕ) → placed spec base es l ≡ None → placed spec base (es ++ Placed l line ∷ fs) l ≡ Some (address spec base es, line)
  placed_there base es fs l line e =
      placed_joined base es (Placed l line ∷ fs) l e
      ∙ ap (λ t. choose t (address spec base es, line) (placed spec (address spec base es) fs l)) (eq-eqb l.0 l.0 refl)

  placed_before : (base : ℕ) (es fs : List Event) (l : LabelId) (p : ℕ × ℕ) → placed spec base es l ≡ Some p → placed spec base (es ++ fs) l ≡ Some p
  placed_before base [] fs l p e = cc
  placed_before base (Item i line ∷ es) fs l p e = placed_before (base + instance_len spec i) es fs l p e
  placed_before base (Placed m line ∷ es) fs l p e = by_test (λ q. placed_before base es fs l p q) (eqb m.0 l.0) e
    where
      by_test : (placed spec base es l ≡ Some p → placed spec base (es ++ fs) l ≡ Some p) → (t : Bool) → choose t (base, line) (placed spec base es l) ≡ Some p → choose t (base, line) (placed spec base (es ++ fs) l) ≡ Some p
      by_test more true q = q
      by_test more false q = more q

  same_label : (m l : LabelId) → m.0 ≡ l.0 → m ≡ l
  same_label m l e = ap (λ n. record { 0 = n }) e

  contains_later : (e f : Event) (es : List Event) → Contains es f → Contains (e ∷ es) f
  contains_later e f es h = Contains-append_right (e ∷ []) es f h

  placed_by : (base : ℕ) (es : List Event) (l : LabelId) (p : ℕ × ℕ) → placed spec base es l ≡ Some p → Contains es (Placed l p.1)
  placed_by base [] l p e = cc
  placed_by base (Item i line ∷ es) l p e = contains_later (Item i line) (Placed l p.1) es (placed_by (base + instance_len spec i) es l p e)
  placed_by base (Placed m line ∷ es) l p e = by_test (λ q. placed_by base es l p q) (eqb m.0 l.0) refl e
    where
      by_test : (placed spec base es l ≡ Some p → Contains es (Placed l p.1)) → (t : Bool) → eqb m.0 l.0 ≡ t → choose t (base, line) (placed spec base es l) ≡ Some p → Contains (Placed m line ∷ es) (Placed l p.1)
      by_test more true s q = (let named : m ≡ l = same_label m l (eqb-true m.0 l.0 s) in let pair : (let r : ℕ × ℕ = (base, line) in r) ≡ p = cc in (0, omega arith, ap (λ n. Placed n line) named ∙ ap (λ (r : ℕ × ℕ). Placed l r.1) pair))
      by_test more false s q = contains_later (Placed m line) (Placed l p.1) es (more q)

  -- no event of the list places the label
  abbrev IsOther : LabelId → Event → Type 0
  IsOther l e = (line : ℕ) → e ≡ Placed l line → ⊥

  others : (base : ℕ) (es : List Event) (l : LabelId) → placed spec base es l ≡ None → All (IsOther l) es
  others base [] l e = All-nil (IsOther l)
  others base (Item i line ∷ es) l e = All-cons (IsOther l) (Item i line) es (λ n q. cc) (others (base + instance_len spec i) es l e)
  others base (Placed m line ∷ es) l e = by_test (λ q. others base es l q) (eqb m.0 l.0) refl e
    where
      by_test : (placed spec base es l ≡ None → All (IsOther l) es) → (t : Bool) → eqb m.0 l.0 ≡ t → choose t (base, line) (placed spec base es l) ≡ None → All (IsOther l) (Placed m line ∷ es)
      by_test more true s q = cc
      by_test more false s q = All-cons (IsOther l) (Placed m line) es (λ n r. let named : m ≡ l = cc in let same = eq-eqb m.0 l.0 (ap (λ (k : LabelId). k.0) named) in cc) (more q)

  placed_nowhere : (base : ℕ) (es : List Event) (l : LabelId) (line : ℕ) → placed spec base es l ≡ None → Contains es (Placed l line) → ⊥
  placed_nowhere base es l line e h = All-contains (IsOther l) es (Placed l line) (others base es l e) h line refl

pub event_laws : EventLaws
event_laws = record {
  address_item = address_item;
  address_label = address_label;
  placed_there = placed_there;
  placed_before = placed_before;
  placed_by = placed_by;
  placed_nowhere = placed_nowhere;
}
