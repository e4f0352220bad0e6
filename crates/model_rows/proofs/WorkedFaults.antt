-- Faults of instances of the rows' description.
use Rattle.std.proofs.Common.{◌≡◌, ℕ, ◌+◌, ◌-◌, ◌^◌, List, [], ◌∷◌, Some, None, slice_get, ℤ, pos, ◌-ℤ◌, ◌+ℤ◌, take, refl, ap, sym, arith, subst, inl, inr}
use Rattle.std.proofs.lemmas.Int.{ints}
use Rattle.std.proofs.lemmas.List.Elements.{All-nil, All-cons, All-head}
use Rattle.sled_model.specs.declared.constructor.Constructor.{Constructor}
use Rattle.sled_model.specs.declared.constructor.OperandKind.TheVariants.{Plain, Whole}
use Rattle.sled_model.specs.declared.instance.Instance.{Instance}
use Rattle.sled_model.specs.declared.instance.Operand.{Operand}
use Rattle.sled_model.specs.declared.instance.Operand.TheVariants.{Num, Place, Sub}
use Rattle.sled_model.specs.declared.instance.Operand.TheBlock.{hidden-the_row-Instance-1, hidden-the_row-Operand-0}
use Rattle.sled_model.specs.declared.pattern.Argument.TheBlock.{hidden-the_row-Pattern-1}
use denote.Hole.Carrier.{hidden}
use Rattle.sled_model.specs.Equations.{Setting, IsSatisfied, EachSatisfied, IsBetween, AreFieldValues, half_of}
use Rattle.sled_model.specs.Solutions.{IsFirstUnsolvable, OperandsFit, equations_at}
use Rattle.sled_model.specs.SolvingOrder.{solving_order}
use Rattle.sled_model.specs.Encoding.{EncodeFault, Unplaced, Unfit, NoSolution, Excluded, Node, IsInRange, IsFirstUnfit, IsFaultAt, unfit, unsolvable, HaveNoFault, IsFirstFault, here, later, IsEncodeFault, unplaced, at_node, excluded, HasBytes, Resolves, resolves, EachResolves, no_more, num, place, sub, nodes_of, IsFirstUnplaced}
use Rattle.sled_model.specs.Encoding as encoding
use Rattle.model_rows.specs.Description.{description, tokens, y, twice_x, doubled, doubled_half, two_bytes, only_three, c_of, k_of, d_of, g_of, e_of}
use Rattle.model_rows.proofs.Fits.{assigned, assigned_values, solvable, node_setting, no_fault}

-- ---- nodes

abbrev pub node : ℕ → ℕ → ℕ → List Operand → List ℕ → Node
node number at k operands lens = record { number = number; at = at; constructor = record { 0 = k }; operands = operands; lens = lens }

abbrev pub c_node : ℤ → Node
c_node n = node 0 0 0 (Num n ∷ []) (0 ∷ [])

abbrev pub d_node : ℤ → Node
d_node n = node 2 1 2 (Num n ∷ []) (0 ∷ [])

abbrev pub g_node : ℤ → Instance → Node
g_node n i = node 0 0 4 (Num n ∷ Sub i ∷ []) (0 ∷ 1 ∷ [])

pub nodes_c : (n : ℤ) → nodes_of description (c_of (Num n)) ≡ c_node n ∷ []
unfolding hidden-the_row-Instance-1 hidden-the_row-Operand-0 hidden-the_row-Pattern-1 hidden
nodes_c n = refl

pub nodes_g : (m n : ℤ) → nodes_of description (g_of (Num m) (d_of (Num n))) ≡ d_node n ∷ g_node m (d_of (Num n)) ∷ []
unfolding hidden-the_row-Instance-1 hidden-the_row-Operand-0 hidden-the_row-Pattern-1 hidden
nodes_g m n = refl

-- ---- ranges

IsWhole : ℤ → Type 0
IsWhole n = IsInRange tokens Whole (Num n)

-- the only operand, a whole one, fits
pub fits_one : (k : ℕ) (n : ℤ) → IsInRange tokens Whole (Num n) → (m : ℕ) → IsFirstUnfit tokens k (Whole ∷ []) (Num n ∷ []) m → ⊥
fits_one k n h m (inl p) = p.1 h
fits_one k n h m (inr p) = p.1

-- ---- equations

-- no x is half of n
abbrev IsNoDouble : ℤ → Type 0
IsNoDouble n = (f : ℤ) → IsBetween (pos 0) (pos 16) f → n -ℤ f -ℤ f ≡ pos 0 → ⊥

twice_fails : (setting : Setting) (n : ℤ) → setting.operands 0 ≡ n → IsNoDouble n → (fields : ℕ → ℤ) → AreFieldValues (half_of tokens) fields → EachSatisfied setting fields (twice_x ∷ []) → ⊥
twice_fails setting n q h fields values sat =
    let s = All-head (IsSatisfied setting fields) twice_x [] sat in
    h (fields 0) (values 0) (omega (arith, ints, s, q))

module _ (location : ℕ) (a : Node) (c : Constructor) (order : solving_order c ≡ 0 ∷ []) (equations : c.equations ≡ twice_x ∷ [])
    (fit : (fields : ℕ → ℤ) → OperandsFit (node_setting description location a) fields 0 c.operands) where
  -- where no x is half of the first operand, the one equation is the first without a solution
  unsolved : (n : ℤ) → (node_setting description location a).operands 0 ≡ n → IsNoDouble n → IsFirstUnsolvable (node_setting description location a) c 0
  unsolved n q h =
      let s = node_setting description location a in
      record {
        place = 0;
        named = ap (λ ks. slice_get ks 0) order;
        before = (assigned (pos 0) (pos 0), record { values = assigned_values (pos 0) (pos 0) (record { at_least = omega (arith, ints); below = omega (arith, ints) }) (record { at_least = omega (arith, ints); below = omega (arith, ints) }); operands = fit (assigned (pos 0) (pos 0)) }, All-nil (IsSatisfied s (assigned (pos 0) (pos 0))));
        after = λ w. twice_fails s n q h w.0 w.1.values
            (subst (λ es. EachSatisfied s w.0 (equations_at es (0 ∷ []))) equations (subst (λ ks. EachSatisfied s w.0 (equations_at c.equations (take 1 ks))) order w.2));
      }

  -- where f is half of it there is a solution
  pub solved : (f : ℤ) → IsBetween (pos 0) (pos 16) f → (node_setting description location a).operands 0 ≡ f +ℤ f → (n : ℕ) → IsFirstUnsolvable (node_setting description location a) c n → ⊥
  solved f b q =
      let s = node_setting description location a in
      let zero_between : IsBetween (pos 0) (pos 16) (pos 0) = record { at_least = omega (arith, ints); below = omega (arith, ints) } in
      let holds : IsSatisfied s (assigned f (pos 0)) twice_x = omega (arith, ints, q) in
      solvable s c (assigned f (pos 0)) (record { values = assigned_values f (pos 0) b zero_between; operands = fit (assigned f (pos 0)) })
      (subst (EachSatisfied s (assigned f (pos 0))) (sym equations) (All-cons (IsSatisfied s (assigned f (pos 0))) twice_x [] holds (All-nil (IsSatisfied s (assigned f (pos 0))))))

-- ---- c

pub no_fault_c : (n f : ℤ) → IsInRange tokens Whole (Num n) → IsBetween (pos 0) (pos 16) f → n ≡ f +ℤ f → (fault : EncodeFault) → IsFaultAt description 0 (c_node n) fault → ⊥
no_fault_c n f r b q = no_fault description 0 (c_node n) doubled refl (fits_one 1 n r) (solved 0 (c_node n) doubled refl refl (λ fields. tt) f b q)

fault_c : (n : ℤ) (fault : EncodeFault) → IsFaultAt description 0 (c_node n) fault → IsEncodeFault description [] 0 (c_of (Num n)) fault
fault_c n fault h = at_node (c_of (Num n)) (resolves refl (num no_more)) (subst (λ ns. IsFirstFault description 0 ns fault) (sym (nodes_c n)) (here h))

unsolvable_c : (n : ℤ) → IsInRange tokens Whole (Num n) → IsNoDouble n → IsEncodeFault description [] 0 (c_of (Num n)) (NoSolution 0 0)
unsolvable_c n r h = fault_c n (NoSolution 0 0) (unsolvable doubled refl (fits_one 1 n r) (unsolved 0 (c_node n) doubled refl refl (λ fields. tt) n refl h))

unfit_c : (n : ℤ) → (IsInRange tokens Whole (Num n) → ⊥) → IsEncodeFault description [] 0 (c_of (Num n)) (Unfit 1)
unfit_c n h = fault_c n (Unfit 1) (unfit doubled refl (inl (refl, h)))

pub odd : IsEncodeFault description [] 0 (c_of (Num (pos 11))) (NoSolution 0 0)
odd = unsolvable_c (pos 11) (omega (arith, ints), omega (arith, ints)) (λ f b e. omega (arith, ints))

pub too_far : IsEncodeFault description [] 0 (c_of (Num (pos 32))) (NoSolution 0 0)
too_far = unsolvable_c (pos 32) (omega (arith, ints), omega (arith, ints)) (λ f b e. omega (arith, ints))

pub too_great : IsEncodeFault description [] 0 (c_of (Num (pos (2 ^ 34)))) (Unfit 1)
too_great = unfit_c (pos (2 ^ 34)) (λ r. omega (arith, ints))

pub greatest : IsEncodeFault description [] 0 (c_of (Num (pos (2 ^ 34 - 1)))) (NoSolution 0 0)
greatest = unsolvable_c (pos (2 ^ 34 - 1)) (omega (arith, ints), omega (arith, ints)) (λ f b e. omega (arith, ints))

pub least : IsEncodeFault description [] 0 (c_of (Num (pos 0 -ℤ pos (2 ^ 34)))) (NoSolution 0 0)
least = unsolvable_c (pos 0 -ℤ pos (2 ^ 34)) (omega (arith, ints), omega (arith, ints)) (λ f b e. omega (arith, ints))

pub too_small : IsEncodeFault description [] 0 (c_of (Num (pos 0 -ℤ pos (2 ^ 34 + 1)))) (Unfit 1)
too_small = unfit_c (pos 0 -ℤ pos (2 ^ 34 + 1)) (λ r. omega (arith, ints))

-- ---- e

abbrev pub e_node : ℤ → Node
e_node n = node 0 0 5 (Num n ∷ []) (0 ∷ [])

pub nodes_e : (n : ℤ) → nodes_of description (e_of (Num n)) ≡ e_node n ∷ []
unfolding hidden-the_row-Instance-1 hidden-the_row-Operand-0 hidden-the_row-Pattern-1 hidden
nodes_e n = refl

order_e : solving_order only_three ≡ []
unfolding hidden-the_row-Pattern-1 hidden
order_e = refl

unfit_e : (n : ℤ) → (IsInRange tokens (Plain y) (Num n) → ⊥) → IsEncodeFault description [] 0 (e_of (Num n)) (Unfit 1)
unfit_e n h = at_node (e_of (Num n)) (resolves refl (num no_more)) (subst (λ ns. IsFirstFault description 0 ns (Unfit 1)) (sym (nodes_e n)) (here (unfit only_three refl (inl (refl, h)))))

pub too_wide : IsEncodeFault description [] 0 (e_of (Num (pos 16))) (Unfit 1)
too_wide = unfit_e (pos 16) (λ r. omega (arith, ints))

pub negative : IsEncodeFault description [] 0 (e_of (Num (pos 0 -ℤ pos 1))) (Unfit 1)
negative = unfit_e (pos 0 -ℤ pos 1) (λ r. omega (arith, ints))

pub no_fault_e : (n : ℤ) → IsBetween (pos 0) (pos 16) n → (fault : EncodeFault) → IsFaultAt description 0 (e_node n) fault → ⊥
no_fault_e n b =
    let zero_between : IsBetween (pos 0) (pos 16) (pos 0) = record { at_least = omega (arith, ints); below = omega (arith, ints) } in
    let s = node_setting description 0 (e_node n) in
    no_fault description 0 (e_node n) only_three refl fits
    (solvable s only_three (assigned (pos 0) n) (record { values = assigned_values (pos 0) n zero_between b; operands = (refl, tt) }) (All-nil (IsSatisfied s (assigned (pos 0) n))))
  where
    fits : (m : ℕ) → IsFirstUnfit tokens 1 (Plain y ∷ []) (Num n ∷ []) m → ⊥
    fits m (inl p) = p.1 (b.at_least, omega (arith, ints, b.below))
    fits m (inr p) = p.1

-- ---- labels without an address

pub label_unplaced : IsEncodeFault description (None ∷ []) 0 (k_of (Place (record { 0 = 0 }) (pos 0))) (Unplaced (record { 0 = 0 }))
label_unplaced = unplaced (record { 0 = 0 }) (encoding.IsFirstUnplaced.here refl)

pub label_unknown : IsEncodeFault description (Some 16 ∷ []) 0 (g_of (Num (pos 11)) (d_of (Place (record { 0 = 1 }) (pos 0)))) (Unplaced (record { 0 = 1 }))
unfolding hidden-the_row-Instance-1 hidden-the_row-Operand-0 hidden
label_unknown = unplaced (record { 0 = 1 }) (encoding.IsFirstUnplaced.here refl)

-- ---- g

pub order_g : solving_order two_bytes ≡ 0 ∷ []
unfolding hidden-the_row-Pattern-1 hidden
order_g = refl

pub no_fault_d : (m : ℤ) (n f : ℤ) → IsInRange tokens Whole (Num n) → IsBetween (pos 0) (pos 16) f → n ≡ f +ℤ f → (fault : EncodeFault) → IsFaultAt description 0 (d_node n) fault → ⊥
no_fault_d m n f r b q = no_fault description 0 (d_node n) doubled_half refl (fits_one 3 n r) (solved 0 (d_node n) doubled_half refl refl (λ fields. tt) f b q)

pub resolved_g : (m : ℤ) (n : ℤ) → Resolves [] (g_of (Num m) (d_of (Num n))) (g_of (Num m) (d_of (Num n)))
resolved_g m n = resolves refl (num (sub (d_of (Num n)) (d_of (Num n)) (resolves refl (num no_more)) no_more))

fault_g : (m n : ℤ) (fault : EncodeFault) → IsFirstFault description 0 (d_node n ∷ g_node m (d_of (Num n)) ∷ []) fault → IsEncodeFault description [] 0 (g_of (Num m) (d_of (Num n))) fault
fault_g m n fault h = at_node (g_of (Num m) (d_of (Num n))) (resolved_g m n) (subst (λ ns. IsFirstFault description 0 ns fault) (sym (nodes_g m n)) h)

pub held_first : IsEncodeFault description [] 0 (g_of (Num (pos (2 ^ 34))) (d_of (Num (pos 11)))) (NoSolution 2 0)
held_first =
    fault_g (pos (2 ^ 34)) (pos 11) (NoSolution 2 0)
    (here (unsolvable doubled_half refl (fits_one 3 (pos 11) (omega (arith, ints), omega (arith, ints)))
    (unsolved 0 (d_node (pos 11)) doubled_half refl refl (λ fields. tt) (pos 11) refl (λ f b e. omega (arith, ints)))))

pub holder : IsEncodeFault description [] 0 (g_of (Num (pos (2 ^ 34))) (d_of (Num (pos 4)))) (Unfit 1)
holder =
    fault_g (pos (2 ^ 34)) (pos 4) (Unfit 1)
    (later (no_fault_d (pos 0) (pos 4) (pos 2) (omega (arith, ints), omega (arith, ints)) (record { at_least = omega (arith, ints); below = omega (arith, ints) }) refl)
    (here (unfit two_bytes refl (inl (refl, λ r. omega (arith, ints))))))

pub operand_of_held : IsEncodeFault description [] 0 (g_of (Num (pos 11)) (d_of (Num (pos (2 ^ 34))))) (Unfit 3)
operand_of_held = fault_g (pos 11) (pos (2 ^ 34)) (Unfit 3) (here (unfit doubled_half refl (inl (refl, λ r. omega (arith, ints)))))
