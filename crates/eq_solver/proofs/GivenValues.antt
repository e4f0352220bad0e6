-- The values of a constructor's equations, with each field named by its cell.
use Rattle.std.proofs.Common.{ℕ, ◌+◌, ◌≡◌, ◌<◌, List, length, get_or, All, slice_get, Some, ap, sym, ◌∙◌, arith, subst}
use Rattle.std.proofs.lemmas.Option.{slice_get-get_or, get_or_from_slice_get}
use Rattle.std.proofs.lemmas.List.Elements.{All-get_or}
use Rattle.token_bits.specs.declared.tokens.Tokens.{Tokens}
use Rattle.sled_model.specs.declared.constructor.Atom.{Atom}
use Rattle.sled_model.specs.declared.constructor.Term.{Term}
use Rattle.sled_model.specs.declared.constructor.Equation.{Equation}
use Rattle.sled_model.specs.declared.constructor.Constructor.{Constructor}
use Rattle.sled_model.specs.SolvingOrder.{bare_fields}
use Rattle.sled_model.specs.declared.constructor.Atom.TheVariants.{Name, Field, Signed, Slice, Label}
use Rattle.sled_model.specs.Linear.{IsAtomOf, IsLinear}
use Rattle.eq_solver.specs.declared.plan.Value.{Value}
use Rattle.eq_solver.specs.Cells.{IsAtomAmong}
use Rattle.eq_solver.specs.Values.{AreValuesOf}
use Rattle.eq_solver.specs.Isolated.{others}
use Rattle.eq_solver.proofs.Staying.{others_atoms}
use Rattle.eq_solver.proofs.Conditions.{some_at}

pub among_of : (c : Constructor) (a : Atom) → IsAtomOf c a → IsAtomAmong (bare_fields c.body) a
among_of c (Name k) h = tt
among_of c (Field f) h = h
among_of c (Signed f) h = h
among_of c (Slice k lo hi) h = tt
among_of c (Label l) h = tt

all_among : (tokens : Tokens) (c : Constructor) → IsLinear tokens c → All (λ (e : Equation). All (λ (t : Term). IsAtomAmong (bare_fields c.body) t.atom) e.terms) c.equations
all_among tokens c linear i d l j x m = among_of c _ ((linear.equations i d l).terms j x m).atom

-- what is true of the atoms of each equation is true of those of its value
pub value_atoms : (P : Atom → Type 0) (tokens : Tokens) (es : List Equation) (gs : List Value) → AreValuesOf tokens es gs → All (λ (e : Equation). All (λ (t : Term). P t.atom) e.terms) es → (i : ℕ) (g : Value) → i < length gs → slice_get gs i ≡ Some g
    → All (λ (t : Term). P t.atom) g.terms
value_atoms P tokens es gs v h i g l s =
    let m : i < length es = (let z = v.one_each in omega arith) in
    let e = some_at es i m in
    let x = v.each i e.0 g e.1 s in
    let a = subst (λ (e : Equation). All (λ (t : Term). P t.atom) e.terms) (get_or_from_slice_get es i e.0 e.0 e.1) (All-get_or (λ (e : Equation). All (λ (t : Term). P t.atom) e.terms) es i e.0 m h) in
    subst (λ ts. All (λ (t : Term). P t.atom) ts) (sym x.terms_are) (others_atoms P x.turn e.0.terms a)

pub values_among : (tokens : Tokens) (c : Constructor) (fs : List ℕ) (gs gs' : List Value) → fs ≡ bare_fields c.body → gs' ≡ gs → IsLinear tokens c → AreValuesOf tokens c.equations gs → All (λ (g : Value). All (λ (t : Term). IsAtomAmong fs t.atom) g.terms) gs'
values_among tokens c fs gs gs' f e linear v =
    subst (λ xs. All (λ (g : Value). All (λ (t : Term). IsAtomAmong fs t.atom) g.terms) xs) (sym e)
    (subst (λ xs. All (λ (g : Value). All (λ (t : Term). IsAtomAmong xs t.atom) g.terms) gs) (sym f)
    (λ i d l. value_atoms (IsAtomAmong (bare_fields c.body)) tokens c.equations gs v (all_among tokens c linear) i (get_or gs i d) l (slice_get-get_or gs i d l)))
