-- An entry that is a choice is of its constructor and entries alone.
use Rattle.std.proofs.Common.{◌≡◌, ℕ, List, [], ◌∷◌, ap, sym, ◌∙◌}
use Rattle.sled_model.specs.declared.constructor.ConstructorId.{ConstructorId}
use Rattle.sled_model.specs.declared.pattern.Argument.{Argument}
use Rattle.sled_model.specs.declared.raw.Raw.{Raw}
use Rattle.sled_model.specs.declared.raw.RawEntry.{RawEntry, items-the_row-RawEntry, items_hidden-the_row-RawEntry-0}
use Rattle.sled_model.specs.declared.raw.RawEntry.TheVariants.{Value, Mark, Choice, Choice'}
use Rattle.token_bits.specs.declared.tokens.FieldId.{FieldId}

taken : RawEntry → List (ConstructorId × List RawEntry)
taken (Choice' k s inner arguments) = (k, items-the_row-RawEntry _ inner) ∷ []
taken _ = []

taken_constructor : ConstructorId → List (ConstructorId × List RawEntry) → ConstructorId
taken_constructor k [] = k
taken_constructor k (t ∷ ts) = t.0

taken_entries : List (ConstructorId × List RawEntry) → List RawEntry
taken_entries [] = []
taken_entries (t ∷ ts) = t.1

taken_choice : (k : ConstructorId) (inner : Raw) (arguments : List Argument) → taken (Choice k inner arguments) ≡ (k, inner.entries) ∷ []
unfolding taken
taken_choice k inner arguments = ap (λ es. let p : ConstructorId × List RawEntry = (k, es) in p ∷ []) (items_hidden-the_row-RawEntry-0 inner.entries)

-- so it is whatever its arguments are
pub choice_like : (k j : ConstructorId) (inner outer : Raw) (arguments others : List Argument) → Choice k inner arguments ≡ Choice j outer others → (k ≡ j) × (inner.entries ≡ outer.entries)
unfolding taken_constructor taken_entries
choice_like k j inner outer arguments others e =
    let same : ((k, inner.entries) ∷ []) ≡ ((j, outer.entries) ∷ []) = sym (taken_choice k inner arguments) ∙ ap taken e ∙ taken_choice j outer others in
    (ap (taken_constructor k) same, ap taken_entries same)

pub choice_same : (k j : ConstructorId) (inner outer : List RawEntry) → Choice k (record { entries = inner }) [] ≡ Choice j (record { entries = outer }) [] → (k ≡ j) × (inner ≡ outer)
choice_same k j inner outer e = choice_like k j (record { entries = inner }) (record { entries = outer }) [] [] e

pub never_value : (f : FieldId) (value at' : ℕ) (k : ConstructorId) (inner : Raw) (arguments : List Argument) → Value f value at' ≡ Choice k inner arguments → ⊥
never_value f value at' k inner arguments e = cc

pub never_mark : (label at' : ℕ) (k : ConstructorId) (inner : Raw) (arguments : List Argument) → Mark label at' ≡ Choice k inner arguments → ⊥
never_mark label at' k inner arguments e = cc
