-- The values of a field at which a sum is least or greatest.
use Rattle.std.specs.Prelude.{ℕ, ◌==◌, if◌then◌else◌, int_lt, List, [], ◌∷◌, ℤ, pos, ◌+ℤ◌, ◌-ℤ◌, ◌≤ℤ◌}
use Rattle.sled_model.specs.declared.constructor.Term.{Term}
use Rattle.sled_model.specs.declared.constructor.Atom.{Atom}
use Rattle.sled_model.specs.declared.constructor.Atom.TheVariants.{Name, Field, Signed, Slice, Label}
use Rattle.eq_solver.specs.Order.{share}

-- how much the sum grows where the field grows by one
abbrev pub slope_of : ℕ → ℤ → Atom → ℤ
slope_of f c (Field g) = if g.0 == f then c else pos 0
slope_of f c (Signed g) = if g.0 == f then c else pos 0
slope_of f c (Name k) = pos 0
slope_of f c (Slice k lo hi) = pos 0
slope_of f c (Label k) = pos 0

abbrev pub slope : ℕ → List Term → ℤ
slope f [] = pos 0
slope f (t ∷ ts) = slope_of f t.coefficient t.atom +ℤ slope f ts

-- of two values that at which the field gives the sum more
abbrev pub better_of : ℤ → ℕ → List Term → ℤ → ℤ → ℤ
better_of half f ts a b = if int_lt (share half f a ts) (share half f b ts) then b else a

-- of the ends of both halves of the field's range, the value at which it gives the sum most
unfoldable pub best_of : ℤ → ℕ → List Term → ℤ
best_of half f ts = better_of half f ts (better_of half f ts (pos 0) (half -ℤ pos 1)) (better_of half f ts half ((half +ℤ half) -ℤ pos 1))
