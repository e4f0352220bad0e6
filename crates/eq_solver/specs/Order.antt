-- Which fields a sum is about.
use Rattle.std.specs.Prelude.{ℕ, ◌≡◌, ◌==◌, Bool, true, false, ◌⊎◌, if◌then◌else◌, List, [], ◌∷◌, get_or, ℤ, pos, ◌+ℤ◌, ◌*ℤ◌}
use Rattle.sled_model.specs.declared.constructor.Atom.{Atom}
use Rattle.sled_model.specs.declared.constructor.Atom.TheVariants.{Name, Field, Signed, Slice, Label}
use Rattle.sled_model.specs.declared.constructor.Term.{Term}
use Rattle.sled_model.specs.Equations.{sign_extended}

-- whether a field is not yet determined
abbrev pub is_open : List Bool → ℕ → Bool
is_open left f = get_or left f true

-- what a field f of value x gives an atom
abbrev pub part_of : ℤ → ℕ → ℤ → Atom → ℤ
part_of half f x (Field g) = if g.0 == f then x else pos 0
part_of half f x (Signed g) = if g.0 == f then sign_extended half x else pos 0
part_of half f x (Name k) = pos 0
part_of half f x (Slice k lo hi) = pos 0
part_of half f x (Label k) = pos 0

-- what it gives a sum
abbrev pub share : ℤ → ℕ → ℤ → List Term → ℤ
share half f x [] = pos 0
share half f x (t ∷ ts) = (t.coefficient *ℤ part_of half f x t.atom) +ℤ share half f x ts

-- no field of the atom but f is open
abbrev pub IsOpenAtMost : List Bool → ℕ → Atom → Type 0
IsOpenAtMost left f (Field g) = (is_open left g.0 ≡ false) ⊎ (g.0 ≡ f)
IsOpenAtMost left f (Signed g) = (is_open left g.0 ≡ false) ⊎ (g.0 ≡ f)
IsOpenAtMost left f (Name k) = Unit {0}
IsOpenAtMost left f (Slice k lo hi) = Unit {0}
IsOpenAtMost left f (Label k) = Unit {0}

abbrev pub AreOpenAtMost : List Bool → ℕ → List Term → Type 0
AreOpenAtMost left f [] = Unit {0}
AreOpenAtMost left f (t ∷ ts) = IsOpenAtMost left f t.atom × AreOpenAtMost left f ts

abbrev pub IsClosed : List Bool → Atom → Type 0
IsClosed left (Field g) = is_open left g.0 ≡ false
IsClosed left (Signed g) = is_open left g.0 ≡ false
IsClosed left (Name k) = Unit {0}
IsClosed left (Slice k lo hi) = Unit {0}
IsClosed left (Label k) = Unit {0}

abbrev pub AreClosed : List Bool → List Term → Type 0
AreClosed left [] = Unit {0}
AreClosed left (t ∷ ts) = IsClosed left t.atom × AreClosed left ts

-- the same values where nothing is open
abbrev pub Agree : List Bool → (ℕ → ℤ) → (ℕ → ℤ) → Type 0
Agree left u v = (g : ℕ) → is_open left g ≡ false → u g ≡ v g
