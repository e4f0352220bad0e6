-- Slices, extended operands, the order of equations and the order of bytes, over the rows' description.
use Rattle.std.proofs.Common.{◌≡◌, ℕ, zero, suc, ◌+◌, ◌-◌, ◌*◌, ◌/◌, ◌%◌, ◌^◌, ◌<◌, ◌≤◌, Bool, true, false, eqb, List, [], ◌∷◌, Some, slice_get, take, Contains, ℤ, pos, ◌-ℤ◌, refl, ap, sym, ◌∙◌, arith, subst, inl, inr}
use Rattle.std.specs.Prelude.{not, if◌then◌else◌, int_lt}
use Rattle.std.proofs.lemmas.Int.{ints}
use Rattle.std.proofs.lemmas.List.Elements.{All-nil, All-cons, All-head, All-tail}
use Rattle.sled_model.specs.declared.constructor.Constructor.{Constructor}
use Rattle.sled_model.specs.declared.constructor.Equation.{Equation}
use Rattle.sled_model.specs.declared.constructor.OperandKind.TheVariants.{Extended, Typed, Whole, Sliced}
use Rattle.sled_model.specs.declared.instance.Instance.{Instance}
use Rattle.sled_model.specs.declared.instance.Operand.TheVariants.{Num, Sub}
use Rattle.sled_model.specs.declared.instance.Operand.TheBlock.{hidden-the_row-Instance-1, hidden-the_row-Operand-0}
use Rattle.sled_model.specs.declared.pattern.Argument.TheBlock.{hidden-the_row-Pattern-0, hidden-the_row-Pattern-1}
use denote.Hole.Carrier.{hidden}
use Rattle.sled_model.specs.declared.raw.Match.{Match}
use Rattle.sled_model.specs.declared.raw.RawEntry.{RawEntry}
use Rattle.sled_model.specs.declared.raw.RawEntry.TheVariants.{Mark}
use Rattle.sled_model.specs.Equations.{Setting, IsSatisfied, EachSatisfied, IsBetween}
use Rattle.sled_model.specs.Solutions.{IsFirstUnsolvable, OperandsFit, equations_at}
use Rattle.sled_model.specs.SolvingOrder.{solving_order}
use Rattle.sled_model.specs.Results.{one_match}
use Rattle.sled_model.specs.Instances.{Means, means, OperandsMean, extended, typed, whole, sliced, no_more, fields_in}
use Rattle.sled_model.specs.Encoding.{EncodeFault, Unfit, NoSolution, IsEncodeFault, at_node, IsFirstFault, here, later, sub, node_labels, unfit, unsolvable, IsFirstUnfit, IsFaultAt, Node, HasBytes, Resolves, resolves, num, nodes_of, instance_len, body_results, Spells, IsSpelled, IsLeast, IsAtOrBefore}
use Rattle.sled_model.specs.Encoding as encoding
use Rattle.model_rows.specs.Description as rows
use Rattle.model_rows.specs.Description.{description, tokens, x, low_is_x, high_is_zero, x_and_y, other_twice_x, two_hidden, signed, is_label, label_behind, behind_loose, wide, s_of, h_of, q_of, z_of, one_of, two_of, m_of, n_of, x_read, y_read, chosen}
use Rattle.model_rows.specs.SolvingRows.{SolvingRows}
use Rattle.model_rows.proofs.Fits.{assigned, assigned_values, solvable, node_setting, no_fault}
use Rattle.model_rows.proofs.Meant.{contains_one, one_equation, no_equation, stands}
use Rattle.model_rows.proofs.WorkedFaults.{node}
use Rattle.model_rows.proofs.WorkedEncoding.{Fits, one_node, two_nodes, is_byte, of_one, of_two, before_cons, low_of, high_of, low_least}

zero_between : IsBetween (pos 0) (pos 16) (pos 0)
zero_between = record { at_least = omega (arith, ints); below = omega (arith, ints) }

-- an instance without instances in it, and without labels
module _ (i : Instance) (a : Node) (only : nodes_of description i ≡ a ∷ []) (same : Resolves [] i i) where
  fault_one : (fault : EncodeFault) → IsFaultAt description 0 a fault → IsEncodeFault description [] 0 i fault
  fault_one fault h = at_node i same (subst (λ ns. IsFirstFault description 0 ns fault) (sym only) (here h))

  bytes_one : (bytes : List ℕ) → Fits 0 a → IsLeast description 0 i bytes → HasBytes description [] 0 i bytes
  bytes_one bytes fits least = record { resolved = i; resolves = same; fits = one_node 0 a (nodes_of description i) only fits; least = least }

-- a byte that spells the instance, and is no greater than any other that does
least_byte : (i : Instance) (n : ℕ) → instance_len description i ≡ 1 → n < 256 → Spells description 0 i (n ∷ []) → ((b : ℕ) → Spells description 0 i (b ∷ []) → n ≤ b) → IsLeast description 0 i (n ∷ [])
least_byte i n len byte spells least = record {
  spelled = record { are_bytes = is_byte n byte; len = sym len; spells = spells };
  least = λ others h. of_one (λ bs. Spells description 0 i bs → IsAtOrBefore (n ∷ []) bs) (λ b s. before_cons n b [] [] (least b s) tt) others (h.len ∙ len) h.spells;
}

two_equations : (setting : Setting) (fields : ℕ → ℤ) (e f : Equation) → IsSatisfied setting fields e → IsSatisfied setting fields f → EachSatisfied setting fields (e ∷ f ∷ [])
two_equations setting fields e f h k = All-cons (IsSatisfied setting fields) e (f ∷ []) h (All-cons (IsSatisfied setting fields) f [] k (All-nil (IsSatisfied setting fields)))

-- ---- slices

abbrev h_node : ℤ → Node
h_node n = node 0 0 7 (Num n ∷ []) (0 ∷ [])

nodes_h : (n : ℤ) → nodes_of description (h_of (Num n)) ≡ h_node n ∷ []
unfolding hidden-the_row-Instance-1 hidden-the_row-Operand-0 hidden
nodes_h n = refl

resolved_one : (k : ℕ) (n : ℤ) → Resolves [] (rows.instance k (Num n ∷ [])) (rows.instance k (Num n ∷ []))
resolved_one k n = resolves refl (num encoding.EachResolves.no_more)

fits_sliced : (n : ℤ) → IsBetween (pos 0) (pos (2 ^ 32)) n → (m : ℕ) → IsFirstUnfit tokens 1 (Sliced ∷ []) (Num n ∷ []) m → ⊥
fits_sliced n b m (inl p) = p.1 (b.at_least, omega (arith, ints, b.below))
fits_sliced n b m (inr p) = p.1

unfit_h : (n : ℤ) → (encoding.IsInRange tokens Sliced (Num n) → ⊥) → IsEncodeFault description [] 0 (h_of (Num n)) (Unfit 1)
unfit_h n h = fault_one (h_of (Num n)) (h_node n) (nodes_h n) (resolved_one 7 n) (Unfit 1) (unfit rows.sliced refl (inl (refl, h)))

outside_h : (n : ℕ) → n < 2 ^ 32 → 16 ≤ n → IsEncodeFault description [] 0 (h_of (Num (pos n))) (NoSolution 0 1)
outside_h n h k =
    let s = node_setting description 0 (h_node (pos n)) in
    let fields = assigned (pos (n / 2 ^ 0 % 2 ^ (3 - 0 + 1))) (pos 0) in
    let first : IsSatisfied s fields low_is_x = omega (arith, ints) in
    let unsolved : IsFirstUnsolvable s rows.sliced 1 = record {
      place = 1;
      named = refl;
      before = (fields, record { values = assigned_values (pos (n / 2 ^ 0 % 2 ^ (3 - 0 + 1))) (pos 0) (record { at_least = omega (arith, ints); below = omega (arith, ints) }) zero_between; operands = tt }, All-cons (IsSatisfied s fields) low_is_x [] first (All-nil (IsSatisfied s fields)));
      after = λ w. let second = All-head (IsSatisfied s w.0) high_is_zero [] (All-tail (IsSatisfied s w.0) low_is_x (high_is_zero ∷ []) w.2) in omega (arith, ints, second, h, k);
    } in
    fault_one (h_of (Num (pos n))) (h_node (pos n)) (nodes_h (pos n)) (resolved_one 7 (pos n)) (NoSolution 0 1)
    (unsolvable rows.sliced refl (fits_sliced (pos n) (record { at_least = omega (arith, ints); below = omega (arith, ints) })) unsolved)

sliced_operand : (v : ℕ) (n : ℤ) → Means description 0 (x_read v 0 ∷ []) (h_of (Num n)) → IsSatisfied (stands 0 (Num n ∷ []) (x_read v 0 ∷ [])) (fields_in (x_read v 0 ∷ [])) low_is_x
sliced_operand v n (means c k os es) =
    let same : c ≡ rows.sliced = cc in
    let s = stands 0 (Num n ∷ []) (x_read v 0 ∷ []) in
    let fields = fields_in (x_read v 0 ∷ []) in
    All-head (IsSatisfied s fields) low_is_x (high_is_zero ∷ []) (subst (λ (c : Constructor). EachSatisfied s fields c.equations) same es)

spelled_h : (b : ℕ) → Spells description 0 (h_of (Num (pos 5))) (b ∷ []) → 5 ≤ b
spelled_h b h =
    let same = ap (λ (m : Match). m.binds) (contains_one (record { binds = x_read (low_of b) 0 ∷ []; len = 1; loose = false }) h.result h.has) in
    let e = sliced_operand (low_of b) (pos 5) (subst (λ es. Means description 0 es (h_of (Num (pos 5)))) (sym same) h.means) in
    low_least b 5 (omega (arith, ints, e))

bytes_h : HasBytes description [] 0 (h_of (Num (pos 5))) (5 ∷ [])
bytes_h =
    let s = node_setting description 0 (h_node (pos 5)) in
    let fields = assigned (pos 5) (pos 0) in
    let t = stands 0 (Num (pos 5) ∷ []) (x_read 5 0 ∷ []) in
    bytes_one (h_of (Num (pos 5))) (h_node (pos 5)) (nodes_h (pos 5)) (resolved_one 7 (pos 5)) (5 ∷ [])
    (no_fault description 0 (h_node (pos 5)) rows.sliced refl (fits_sliced (pos 5) (record { at_least = omega (arith, ints); below = omega (arith, ints) }))
    (solvable s rows.sliced fields (record { values = assigned_values (pos 5) (pos 0) (record { at_least = omega (arith, ints); below = omega (arith, ints) }) zero_between; operands = tt }) (two_equations s fields low_is_x high_is_zero refl refl)))
    (least_byte (h_of (Num (pos 5))) 5 refl (omega arith) (record {
      result = record { binds = x_read 5 0 ∷ []; len = 1; loose = false };
      has = (0, omega arith, refl);
      whole = refl;
      means = means rows.sliced refl (sliced (record { at_least = omega (arith, ints); below = omega (arith, ints) }) no_more) (two_equations t (fields_in (x_read 5 0 ∷ [])) low_is_x high_is_zero refl refl);
    }) spelled_h)

-- ---- extended operands

abbrev s_node : ℤ → Node
s_node n = node 0 0 6 (Num n ∷ []) (0 ∷ [])

nodes_s : (n : ℤ) → nodes_of description (s_of (Num n)) ≡ s_node n ∷ []
unfolding hidden-the_row-Instance-1 hidden-the_row-Operand-0 hidden
nodes_s n = refl

unfit_s : (n : ℤ) → (encoding.IsInRange tokens (Extended x) (Num n) → ⊥) → IsEncodeFault description [] 0 (s_of (Num n)) (Unfit 1)
unfit_s n h = fault_one (s_of (Num n)) (s_node n) (nodes_s n) (resolved_one 6 n) (Unfit 1) (unfit signed refl (inl (refl, h)))

-- four bits that stand for -3 are 13
sign_of : (v : ℕ) (t : Bool) → int_lt (pos v) (pos 8) ≡ t → (if t then pos v else (pos v -ℤ pos 16)) ≡ pos 0 -ℤ pos 3 → v ≡ 13
sign_of v true q e = absurd (omega (arith, ints, e))
sign_of v false q e = omega (arith, ints, e)

extended_operand : (v : ℕ) (n : ℤ) → n ≡ pos 0 -ℤ pos 3 → OperandsMean description 0 signed (x_read v 0 ∷ []) 0 (Extended x ∷ []) (Num n ∷ []) → v ≡ 13
extended_operand v n e (extended value at h no_more) =
    let read : v ≡ value = cc (contains_one (x_read v 0) (x_read value at) h) in
    read ∙ sign_of value (int_lt (pos value) (pos 8)) refl e

spelled_s : (b : ℕ) → Spells description 0 (s_of (Num (pos 0 -ℤ pos 3))) (b ∷ []) → 13 ≤ b
spelled_s b h =
    let same = ap (λ (m : Match). m.binds) (contains_one (record { binds = x_read (low_of b) 0 ∷ []; len = 1; loose = false }) h.result h.has) in
    low_least b 13 (sym (low (subst (λ es. Means description 0 es (s_of (Num (pos 0 -ℤ pos 3)))) (sym same) h.means)))
  where
    low : Means description 0 (x_read (low_of b) 0 ∷ []) (s_of (Num (pos 0 -ℤ pos 3))) → low_of b ≡ 13
    low (means c k os es) =
        let same : c ≡ signed = cc in
        extended_operand (low_of b) (pos 0 -ℤ pos 3) refl (subst (λ c. OperandsMean description 0 c (x_read (low_of b) 0 ∷ []) 0 c.operands (Num (pos 0 -ℤ pos 3) ∷ [])) same os)

bytes_s : HasBytes description [] 0 (s_of (Num (pos 0 -ℤ pos 3))) (13 ∷ [])
bytes_s =
    let n = pos 0 -ℤ pos 3 in
    let s = node_setting description 0 (s_node n) in
    let fields = assigned (pos 13) (pos 0) in
    bytes_one (s_of (Num n)) (s_node n) (nodes_s n) (resolved_one 6 n) (13 ∷ [])
    (no_fault description 0 (s_node n) signed refl fits
    (solvable s signed fields (record { values = assigned_values (pos 13) (pos 0) (record { at_least = omega (arith, ints); below = omega (arith, ints) }) zero_between; operands = (refl, tt) }) (no_equation s fields)))
    (least_byte (s_of (Num n)) 13 refl (omega arith) (record {
      result = record { binds = x_read 13 0 ∷ []; len = 1; loose = false };
      has = (0, omega arith, refl);
      whole = refl;
      means = means signed refl (extended 13 0 (0, omega arith, refl) no_more) (no_equation (stands 0 (Num n ∷ []) (x_read 13 0 ∷ [])) (fields_in (x_read 13 0 ∷ [])));
    }) spelled_s)
  where
    fits : (m : ℕ) → IsFirstUnfit tokens 1 (Extended x ∷ []) (Num (pos 0 -ℤ pos 3) ∷ []) m → ⊥
    fits m (inl p) = p.1 (omega (arith, ints), omega (arith, ints))
    fits m (inr p) = p.1

-- ---- two hidden fields

abbrev q_node : ℤ → ℤ → Node
q_node m n = node 0 0 8 (Num m ∷ Num n ∷ []) (0 ∷ 0 ∷ [])

nodes_q : (m n : ℤ) → nodes_of description (q_of (Num m) (Num n)) ≡ q_node m n ∷ []
unfolding hidden-the_row-Instance-1 hidden-the_row-Operand-0 hidden-the_row-Pattern-1 hidden
nodes_q m n = refl

resolved_q : (m n : ℤ) → Resolves [] (q_of (Num m) (Num n)) (q_of (Num m) (Num n))
resolved_q m n = resolves refl (num (num encoding.EachResolves.no_more))

order_q : solving_order two_hidden ≡ 1 ∷ 0 ∷ []
unfolding hidden-the_row-Pattern-1 hidden
order_q = refl

fits_q : (m n : ℕ) → m ≤ 100 → n ≤ 100 → (k : ℕ) → IsFirstUnfit tokens 1 (Whole ∷ Whole ∷ []) (Num (pos m) ∷ Num (pos n) ∷ []) k → ⊥
fits_q m n h j k (inl p) = p.1 (omega (arith, ints, h), omega (arith, ints, h))
fits_q m n h j k (inr (r, inl p)) = p.1 (omega (arith, ints, j), omega (arith, ints, j))
fits_q m n h j k (inr (r, inr p)) = p.1

-- the equations that the order has at these places
abbrev in_order : List ℕ → ℕ → List Equation
in_order ks n = equations_at two_hidden.equations (take n ks)

second_fails : IsEncodeFault description [] 0 (q_of (Num (pos 3)) (Num (pos 5))) (NoSolution 0 1)
second_fails =
    let s = node_setting description 0 (q_node (pos 3) (pos 5)) in
    let fields = assigned (pos 0) (pos 0) in
    let unsolved : IsFirstUnsolvable s two_hidden 1 = record {
      place = 0;
      named = ap (λ ks. slice_get ks 0) order_q;
      before = (fields, record { values = assigned_values (pos 0) (pos 0) zero_between zero_between; operands = tt }, no_equation s fields);
      after = λ w. let first = All-head (IsSatisfied s w.0) other_twice_x [] (subst (λ ks. EachSatisfied s w.0 (in_order ks 1)) order_q w.2) in omega (arith, ints, first);
    } in
    fault_one (q_of (Num (pos 3)) (Num (pos 5))) (q_node (pos 3) (pos 5)) (nodes_q (pos 3) (pos 5)) (resolved_q (pos 3) (pos 5)) (NoSolution 0 1)
    (unsolvable two_hidden refl (fits_q 3 5 (omega arith) (omega arith)) unsolved)

first_fails : IsEncodeFault description [] 0 (q_of (Num (pos 40)) (Num (pos 2))) (NoSolution 0 0)
first_fails =
    let s = node_setting description 0 (q_node (pos 40) (pos 2)) in
    let fields = assigned (pos 1) (pos 0) in
    let holds : IsSatisfied s fields other_twice_x = refl in
    let unsolved : IsFirstUnsolvable s two_hidden 0 = record {
      place = 1;
      named = ap (λ ks. slice_get ks 1) order_q;
      before = (
        fields,
        record { values = assigned_values (pos 1) (pos 0) (record { at_least = omega (arith, ints); below = omega (arith, ints) }) zero_between; operands = tt },
        subst (λ ks. EachSatisfied s fields (in_order ks 1)) (sym order_q) (All-cons (IsSatisfied s fields) other_twice_x [] holds (All-nil (IsSatisfied s fields))),
      );
      after = λ w.
          let both = subst (λ ks. EachSatisfied s w.0 (in_order ks 2)) order_q w.2 in
          let first = All-head (IsSatisfied s w.0) other_twice_x (x_and_y ∷ []) both in
          let second = All-head (IsSatisfied s w.0) x_and_y [] (All-tail (IsSatisfied s w.0) other_twice_x (x_and_y ∷ []) both) in
          omega (arith, ints, first, second, (w.1.values 1).below);
    } in
    fault_one (q_of (Num (pos 40)) (Num (pos 2))) (q_node (pos 40) (pos 2)) (nodes_q (pos 40) (pos 2)) (resolved_q (pos 40) (pos 2)) (NoSolution 0 0)
    (unsolvable two_hidden refl (fits_q 40 2 (omega arith) (omega arith)) unsolved)

abbrev both_read : ℕ → ℕ → List RawEntry
both_read v w = x_read v 0 ∷ y_read w 0 ∷ []

results_q : (b : ℕ) → body_results description (record { 0 = 8 }) (b ∷ []) 0 ≡ one_match (both_read (low_of b) (high_of b)) 1
unfolding hidden-the_row-Pattern-1 hidden
results_q b = refl

length_q : (m n : ℤ) → instance_len description (q_of (Num m) (Num n)) ≡ 1
unfolding hidden-the_row-Pattern-1 hidden
length_q m n = refl

spelled_q : (b : ℕ) → Spells description 0 (q_of (Num (pos 5)) (Num (pos 2))) (b ∷ []) → 65 ≤ b
spelled_q b h =
    let found = subst (λ ms. Contains ms h.result) (results_q b) h.has in
    let same = ap (λ (m : Match). m.binds) (contains_one (record { binds = both_read (low_of b) (high_of b); len = 1; loose = false }) h.result found) in
    least (subst (λ es. Means description 0 es (q_of (Num (pos 5)) (Num (pos 2)))) (sym same) h.means)
  where
    least : Means description 0 (both_read (low_of b) (high_of b)) (q_of (Num (pos 5)) (Num (pos 2))) → 65 ≤ b
    least (means c k os es) =
        let same : c ≡ two_hidden = cc in
        let s = stands 0 (Num (pos 5) ∷ Num (pos 2) ∷ []) (both_read (low_of b) (high_of b)) in
        let fields = fields_in (both_read (low_of b) (high_of b)) in
        let both = subst (λ (c : Constructor). EachSatisfied s fields c.equations) same es in
        let first = All-head (IsSatisfied s fields) x_and_y (other_twice_x ∷ []) both in
        let second = All-head (IsSatisfied s fields) other_twice_x [] (All-tail (IsSatisfied s fields) x_and_y (other_twice_x ∷ []) both) in
        omega (arith, ints, first, second)

bytes_q : HasBytes description [] 0 (q_of (Num (pos 5)) (Num (pos 2))) (65 ∷ [])
bytes_q =
    let s = node_setting description 0 (q_node (pos 5) (pos 2)) in
    let fields = assigned (pos 1) (pos 4) in
    let t = stands 0 (Num (pos 5) ∷ Num (pos 2) ∷ []) (both_read 1 4) in
    bytes_one (q_of (Num (pos 5)) (Num (pos 2))) (q_node (pos 5) (pos 2)) (nodes_q (pos 5) (pos 2)) (resolved_q (pos 5) (pos 2)) (65 ∷ [])
    (no_fault description 0 (q_node (pos 5) (pos 2)) two_hidden refl (fits_q 5 2 (omega arith) (omega arith))
    (solvable s two_hidden fields (record { values = assigned_values (pos 1) (pos 4) (record { at_least = omega (arith, ints); below = omega (arith, ints) }) (record { at_least = omega (arith, ints); below = omega (arith, ints) }); operands = tt })
    (two_equations s fields x_and_y other_twice_x refl refl)))
    (least_byte (q_of (Num (pos 5)) (Num (pos 2))) 65 (length_q (pos 5) (pos 2)) (omega arith) (record {
      result = record { binds = both_read 1 4; len = 1; loose = false };
      has = subst (λ ms. Contains ms (record { binds = both_read 1 4; len = 1; loose = false })) (sym (results_q 65)) (0, omega arith, refl);
      whole = refl;
      means = means two_hidden refl (whole (record { at_least = omega (arith, ints); below = omega (arith, ints) }) (whole (record { at_least = omega (arith, ints); below = omega (arith, ints) }) no_more))
          (two_equations t (fields_in (both_read 1 4)) x_and_y other_twice_x refl refl);
    }) spelled_q)

-- ---- the order of bytes

results_z : (b e : ℕ) → body_results description (record { 0 = 9 }) (b ∷ e ∷ []) 0 ≡ (if not (eqb ((256 * (256 * 0 + e) + b) / 2 ^ 0 % 2 ^ (15 - 0 + 1)) 0) then one_match [] 2 else [])
results_z b e = refl

least_z : (b e : ℕ) → Spells description 0 z_of (b ∷ e ∷ []) → IsAtOrBefore (0 ∷ 1 ∷ []) (b ∷ e ∷ [])
least_z zero zero h = absurd (omega (arith, h.has.1))
least_z zero (suc zero) h = inr (refl, inr (refl, tt))
least_z zero (suc (suc e)) h = inr (refl, inl (omega arith))
least_z (suc b) e h = inl (omega arith)

nodes_z : nodes_of description z_of ≡ node 0 0 9 [] [] ∷ []
unfolding hidden-the_row-Instance-1 hidden-the_row-Operand-0 hidden
nodes_z = refl

bytes_z : HasBytes description [] 0 z_of (0 ∷ 1 ∷ [])
bytes_z =
    let a = node 0 0 9 [] [] in
    let s = node_setting description 0 a in
    let fields = assigned (pos 0) (pos 0) in
    bytes_one z_of a nodes_z (resolves refl encoding.EachResolves.no_more) (0 ∷ 1 ∷ [])
    (no_fault description 0 a rows.not_zero refl (λ m h. h) (solvable s rows.not_zero fields (record { values = assigned_values (pos 0) (pos 0) zero_between zero_between; operands = tt }) (no_equation s fields)))
    (record {
      spelled = record {
        are_bytes = All-cons (λ b. b < 256) 0 (1 ∷ []) (omega arith) (is_byte 1 (omega arith));
        len = refl;
        spells = record { result = record { binds = []; len = 2; loose = false }; has = (0, omega arith, refl); whole = refl; means = means rows.not_zero refl no_more (no_equation (stands 0 [] []) (fields_in [])) };
      };
      least = λ others h. of_two (λ bs. Spells description 0 z_of bs → IsAtOrBefore (0 ∷ 1 ∷ []) bs) least_z others h.len h.spells;
    })

-- ---- labels behind instances

-- the holder of an instance of this number and length, whose own number is n
abbrev m_node : Instance → ℕ → ℤ → Node
m_node i len n = node 0 0 12 (Sub i ∷ Num n ∷ []) (len ∷ 0 ∷ [])

-- constructors number 10 and 11 are held
abbrev held_node : ℕ → Node
held_node k = node 1 0 k [] []

nodes_short : (n : ℤ) → nodes_of description (m_of one_of (Num n)) ≡ held_node 10 ∷ m_node one_of 1 n ∷ []
unfolding hidden-the_row-Instance-1 hidden-the_row-Operand-0 hidden-the_row-Pattern-0 hidden-the_row-Pattern-1 hidden
nodes_short n = refl

nodes_long : (n : ℤ) → nodes_of description (m_of two_of (Num n)) ≡ held_node 11 ∷ m_node two_of 2 n ∷ []
unfolding hidden-the_row-Instance-1 hidden-the_row-Operand-0 hidden-the_row-Pattern-0 hidden-the_row-Pattern-1 hidden
nodes_long n = refl

-- the label is at the location and the length
label_m : (i : Instance) (len : ℕ) (n : ℤ) → node_labels description 16 (m_node i len n) 0 ≡ pos (16 + (0 + len))
unfolding hidden-the_row-Pattern-0 hidden-the_row-Pattern-1 hidden
label_m i len n = refl

order_m : solving_order label_behind ≡ 0 ∷ []
unfolding hidden-the_row-Pattern-0 hidden-the_row-Pattern-1 hidden
order_m = refl

length_short : (n : ℤ) → instance_len description (m_of one_of (Num n)) ≡ 2
unfolding hidden-the_row-Instance-1 hidden-the_row-Operand-0 hidden-the_row-Pattern-0 hidden-the_row-Pattern-1 hidden
length_short n = refl

length_long : (n : ℤ) → instance_len description (m_of two_of (Num n)) ≡ 3
unfolding hidden-the_row-Instance-1 hidden-the_row-Operand-0 hidden-the_row-Pattern-0 hidden-the_row-Pattern-1 hidden
length_long n = refl

fits_held : (k : ℕ) (c : Constructor) → slice_get description.constructors k ≡ Some c → c.operands ≡ [] → c.equations ≡ [] → Fits 16 (held_node k)
fits_held k c e o q =
    let s = node_setting description 16 (held_node k) in
    let fields = assigned (pos 0) (pos 0) in
    no_fault description 16 (held_node k) c e (λ m h. subst (λ kinds. IsFirstUnfit tokens 2 kinds [] m) o h)
    (solvable s c fields (record { values = assigned_values (pos 0) (pos 0) zero_between zero_between; operands = subst (λ kinds. OperandsFit s fields 0 kinds) (sym o) tt }) (subst (EachSatisfied s fields) (sym q) (no_equation s fields)))

module _ (i : Instance) (len : ℕ) (n : ℕ) (small : n ≤ 100) where
  in_range : (m : ℕ) → IsFirstUnfit tokens 1 (Typed wide ∷ Whole ∷ []) (Sub i ∷ Num (pos n) ∷ []) m → ⊥
  unfolding hidden-the_row-Instance-1 hidden
  in_range m (inl p) = p.1 tt
  in_range m (inr (r, inl p)) = p.1 (omega (arith, ints, small), omega (arith, ints, small))
  in_range m (inr (r, inr p)) = p.1

  fits_m : n ≡ 16 + len → Fits 16 (m_node i len (pos n))
  fits_m e =
      let s = node_setting description 16 (m_node i len (pos n)) in
      let fields = assigned (pos 0) (pos 0) in
      let holds : IsSatisfied s fields is_label = omega (arith, ints, label_m i len (pos n), e) in
      no_fault description 16 (m_node i len (pos n)) label_behind refl in_range
      (solvable s label_behind fields (record { values = assigned_values (pos 0) (pos 0) zero_between zero_between; operands = tt }) (one_equation s fields is_label holds))

  fault_m : (n ≡ 16 + len → ⊥) → IsFaultAt description 16 (m_node i len (pos n)) (NoSolution 0 0)
  fault_m e =
      let s = node_setting description 16 (m_node i len (pos n)) in
      let fields = assigned (pos 0) (pos 0) in
      let unsolved : IsFirstUnsolvable s label_behind 0 = record {
        place = 0;
        named = ap (λ ks. slice_get ks 0) order_m;
        before = (fields, record { values = assigned_values (pos 0) (pos 0) zero_between zero_between; operands = tt }, no_equation s fields);
        after = λ w. let first = All-head (IsSatisfied s w.0) is_label [] (subst (λ ks. EachSatisfied s w.0 (equations_at label_behind.equations (take 1 ks))) order_m w.2) in
            e (omega (arith, ints, first, label_m i len (pos n)));
      } in
      unsolvable label_behind refl in_range unsolved

resolved_m : (k : ℕ) (n : ℤ) → Resolves [] (m_of (rows.instance k []) (Num n)) (m_of (rows.instance k []) (Num n))
resolved_m k n = resolves refl (sub (rows.instance k []) (rows.instance k []) (resolves refl encoding.EachResolves.no_more) (num encoding.EachResolves.no_more))

not_behind_short : IsEncodeFault description [] 16 (m_of one_of (Num (pos 18))) (NoSolution 0 0)
not_behind_short =
    at_node (m_of one_of (Num (pos 18))) (resolved_m 10 (pos 18))
    (subst (λ ns. IsFirstFault description 16 ns (NoSolution 0 0)) (sym (nodes_short (pos 18))) (later (fits_held 10 rows.one_long refl refl refl) (here (fault_m one_of 1 18 (omega arith) (λ e. omega (arith, e))))))

not_behind_long : IsEncodeFault description [] 16 (m_of two_of (Num (pos 17))) (NoSolution 0 0)
not_behind_long =
    at_node (m_of two_of (Num (pos 17))) (resolved_m 11 (pos 17))
    (subst (λ ns. IsFirstFault description 16 ns (NoSolution 0 0)) (sym (nodes_long (pos 17))) (later (fits_held 11 rows.two_long refl refl refl) (here (fault_m two_of 2 17 (omega arith) (λ e. omega (arith, e))))))

-- what is bound where an instance of this number and length is held
abbrev m_entries : ℕ → ℕ → List RawEntry
m_entries k len = chosen k [] [] ∷ Mark 0 len ∷ []

means_held : (k : ℕ) (c : Constructor) → slice_get description.constructors k ≡ Some c → c.operands ≡ [] → c.equations ≡ [] → Means description 16 [] (rows.instance k [])
means_held k c e o q = means c e (subst (λ kinds. OperandsMean description 16 c [] 0 kinds []) (sym o) no_more) (subst (EachSatisfied (stands 16 [] []) (fields_in [])) (sym q) (no_equation (stands 16 [] []) (fields_in [])))

means_m : (k len : ℕ) → len ≤ 100 → Means description 16 [] (rows.instance k []) → Means description 16 (m_entries k len) (m_of (rows.instance k []) (Num (pos (16 + len))))
unfolding hidden-the_row-Pattern-0 hidden-the_row-Pattern-1 hidden
means_m k len h inner =
    let i = rows.instance k [] in
    means label_behind refl (typed i [] refl inner (whole (record { at_least = omega (arith, ints); below = omega (arith, ints, h) }) no_more))
    (one_equation (stands 16 (Sub (rows.instance k []) ∷ Num (pos (16 + len)) ∷ []) (m_entries k len)) (fields_in (m_entries k len)) is_label (omega (arith, ints)))

spelled_short : IsSpelled description 16 (m_of one_of (Num (pos 17))) (1 ∷ 80 ∷ [])
unfolding hidden-the_row-Pattern-0 hidden-the_row-Pattern-1 hidden
spelled_short = record {
  are_bytes = All-cons (λ b. b < 256) 1 (80 ∷ []) (omega arith) (is_byte 80 (omega arith));
  len = sym (length_short (pos 17));
  spells = record { result = record { binds = m_entries 10 1; len = 2; loose = false }; has = (0, omega arith, refl); whole = refl; means = means_m 10 1 (omega arith) (means_held 10 rows.one_long refl refl refl) };
}

spelled_long : IsSpelled description 16 (m_of two_of (Num (pos 18))) (2 ∷ 0 ∷ 80 ∷ [])
unfolding hidden-the_row-Pattern-0 hidden-the_row-Pattern-1 hidden
spelled_long = record {
  are_bytes = All-cons (λ b. b < 256) 2 (0 ∷ 80 ∷ []) (omega arith) (All-cons (λ b. b < 256) 0 (80 ∷ []) (omega arith) (is_byte 80 (omega arith)));
  len = sym (length_long (pos 18));
  spells = record { result = record { binds = m_entries 11 2; len = 3; loose = false }; has = (0, omega arith, refl); whole = refl; means = means_m 11 2 (omega arith) (means_held 11 rows.two_long refl refl refl) };
}

-- ---- labels behind what is loose

abbrev n_node : Node
n_node = node 0 0 13 (Sub one_of ∷ Num (pos 18) ∷ []) (1 ∷ 0 ∷ [])

nodes_n : nodes_of description (n_of one_of (Num (pos 18))) ≡ held_node 10 ∷ n_node ∷ []
unfolding hidden-the_row-Instance-1 hidden-the_row-Operand-0 hidden-the_row-Pattern-0 hidden-the_row-Pattern-1 hidden
nodes_n = refl

label_n : node_labels description 16 n_node 0 ≡ pos 18
unfolding hidden-the_row-Pattern-0 hidden-the_row-Pattern-1 hidden
label_n = refl

length_n : instance_len description (n_of one_of (Num (pos 18))) ≡ 3
unfolding hidden-the_row-Instance-1 hidden-the_row-Operand-0 hidden-the_row-Pattern-0 hidden-the_row-Pattern-1 hidden
length_n = refl

fits_n : Fits 16 n_node
fits_n =
    let s = node_setting description 16 n_node in
    let fields = assigned (pos 0) (pos 0) in
    let holds : IsSatisfied s fields is_label = omega (arith, ints, label_n) in
    no_fault description 16 n_node behind_loose refl (in_range one_of 1 18 (omega arith))
    (solvable s behind_loose fields (record { values = assigned_values (pos 0) (pos 0) zero_between zero_between; operands = tt }) (one_equation s fields is_label holds))

means_n : Means description 16 (m_entries 10 2) (n_of one_of (Num (pos 18)))
unfolding hidden-the_row-Pattern-0 hidden-the_row-Pattern-1 hidden
means_n =
    means behind_loose refl (typed one_of [] refl (means_held 10 rows.one_long refl refl refl) (whole (record { at_least = omega (arith, ints); below = omega (arith, ints) }) no_more))
    (one_equation (stands 16 (Sub one_of ∷ Num (pos 18) ∷ []) (m_entries 10 2)) (fields_in (m_entries 10 2)) is_label refl)

spelled_n : IsSpelled description 16 (n_of one_of (Num (pos 18))) (1 ∷ 3 ∷ 80 ∷ [])
unfolding hidden-the_row-Pattern-0 hidden-the_row-Pattern-1 hidden
spelled_n = record {
  are_bytes = All-cons (λ b. b < 256) 1 (3 ∷ 80 ∷ []) (omega arith) (All-cons (λ b. b < 256) 3 (80 ∷ []) (omega arith) (is_byte 80 (omega arith)));
  len = sym length_n;
  spells = record { result = record { binds = m_entries 10 2; len = 3; loose = false }; has = (0, omega arith, refl); whole = refl; means = means_n };
}

pub solving_rows : SolvingRows
solving_rows = record {
  sliced = bytes_h;
  outside_slice = outside_h 16 (omega arith) (omega arith);
  greatest = outside_h (2 ^ 32 - 1) (omega arith) (omega arith);
  too_great = unfit_h (pos (2 ^ 32)) (λ r. omega (arith, ints));
  negative = unfit_h (pos 0 -ℤ pos 1) (λ r. omega (arith, ints));
  extended = bytes_s;
  above = unfit_s (pos 8) (λ r. omega (arith, ints));
  below = unfit_s (pos 0 -ℤ pos 9) (λ r. omega (arith, ints));
  both_hold = bytes_q;
  second_fails = second_fails;
  first_fails = first_fails;
  byte_order = bytes_z;
  short = length_short (pos 17);
  long = length_long (pos 18);
  spelled_short = spelled_short;
  spelled_long = spelled_long;
  fits_short = two_nodes 16 (held_node 10) (m_node one_of 1 (pos 17)) (nodes_of description (m_of one_of (Num (pos 17)))) (nodes_short (pos 17)) (fits_held 10 rows.one_long refl refl refl) (fits_m one_of 1 17 (omega arith) refl);
  fits_long = two_nodes 16 (held_node 11) (m_node two_of 2 (pos 18)) (nodes_of description (m_of two_of (Num (pos 18)))) (nodes_long (pos 18)) (fits_held 11 rows.two_long refl refl refl) (fits_m two_of 2 18 (omega arith) refl);
  not_behind_short = not_behind_short;
  not_behind_long = not_behind_long;
  loose_length = length_n;
  spelled_loose = spelled_n;
  fits_loose = two_nodes 16 (held_node 10) n_node (nodes_of description (n_of one_of (Num (pos 18)))) nodes_n (fits_held 10 rows.one_long refl refl refl) fits_n;
}
