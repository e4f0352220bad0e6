-- The least bytes of instances of the rows' description.
use Rattle.std.proofs.Common.{◌≡◌, ℕ, ◌+◌, ◌-◌, ◌*◌, ◌/◌, ◌%◌, ◌^◌, ◌<◌, ◌≤◌, Bool, true, false, eqb, List, [], ◌∷◌, ◌++◌, map, filter, length, if◌then◌else◌, Some, slice_get, take, Contains, ℤ, pos, ◌+ℤ◌, refl, ap, sym, ◌∙◌, arith, subst, ◌⊎◌, inl, inr}
use Rattle.std.proofs.lemmas.Int.{ints}
use Rattle.std.proofs.lemmas.Bool.{cases_lt, eqb-true}
use Rattle.std.proofs.lemmas.List.Elements.{All-nil, All-cons, All-head}
use Rattle.sled_model.specs.declared.instance.Instance.{Instance}
use Rattle.sled_model.specs.declared.instance.Operand.TheVariants.{Num, Place, Sub}
use Rattle.sled_model.specs.declared.instance.Operand.TheBlock.{hidden-the_row-Instance-1, hidden-the_row-Operand-0}
use Rattle.sled_model.specs.declared.pattern.Argument.TheBlock.{hidden-the_row-Pattern-0, hidden-the_row-Pattern-1}
use denote.Hole.Carrier.{hidden}
use Rattle.sled_model.specs.declared.raw.Match.{Match}
use Rattle.sled_model.specs.declared.raw.RawEntry.{RawEntry}
use Rattle.sled_model.specs.declared.raw.RawEntry.TheVariants.{Mark}
use Rattle.sled_model.specs.Equations.{IsSatisfied, EachSatisfied, IsBetween}
use Rattle.sled_model.specs.Solutions.{IsFirstUnsolvable, equations_at}
use Rattle.sled_model.specs.SolvingOrder.{solving_order}
use Rattle.sled_model.specs.declared.constructor.OperandKind.TheVariants.{Typed, Whole}
use Rattle.model_rows.specs.EncodingRows.{EncodingRows}
use Rattle.sled_model.specs.Results.{one_match, both_match, agrees}
use Rattle.sled_model.specs.Instances.{Means}
use Rattle.sled_model.specs.Encoding.{HaveNoFault, HasBytes, Resolves, resolves, no_more, num, place, sub, nodes_of, instance_len, IsFaultAt, EncodeFault, NoSolution, Excluded, IsEncodeFault, excluded, at_node, IsFirstFault, here, unsolvable, IsFirstUnfit, Node, node_labels, body_results, Spells, IsLeast, IsAtOrBefore, IsBytes}
use Rattle.model_rows.specs.Description.{description, tokens, half, label_and_x, labelled, labelled_half, two_bytes, c_of, k_of, d_of, l_of, g_of, e_of, x_read, y_read}
use Rattle.model_rows.proofs.Meant.{contains_one, contains_two, one_equation, means_c, only_c, means_k, only_k, means_e, only_e, with_d, with_l, means_gd, means_gl, only_gd, only_gl, no_d, no_l}
use Rattle.model_rows.proofs.Fits.{assigned, assigned_values, solvable, node_setting, no_fault}
use Rattle.model_rows.proofs.WorkedFaults.{node, d_node, g_node, nodes_g, order_g, resolved_g, no_fault_d, solved, odd, too_far, too_great, greatest, least, too_small, too_wide, negative, label_unplaced, label_unknown, held_first, holder, operand_of_held, c_node, nodes_c, e_node, nodes_e, no_fault_c, no_fault_e, fits_one}

-- ---- lists of bytes

pub before_cons : (a b : ℕ) (cs bs : List ℕ) → a ≤ b → IsAtOrBefore cs bs → IsAtOrBefore (a ∷ cs) (b ∷ bs)
before_cons a b cs bs h m = elim (cases_lt a b) [ inl l ↦ inl l | inr l ↦ inr (omega arith, m) ]

pub of_one : (P : List ℕ → Type 0) → ((b : ℕ) → P (b ∷ [])) → (bs : List ℕ) → length bs ≡ 1 → P bs
of_one P h [] l = absurd (omega (arith, l))
of_one P h (b ∷ []) l = h b
of_one P h (b ∷ e ∷ bs) l = absurd (omega (arith, l))

pub of_two : (P : List ℕ → Type 0) → ((b e : ℕ) → P (b ∷ e ∷ [])) → (bs : List ℕ) → length bs ≡ 2 → P bs
of_two P h [] l = absurd (omega (arith, l))
of_two P h (b ∷ []) l = absurd (omega (arith, l))
of_two P h (b ∷ e ∷ []) l = h b e
of_two P h (b ∷ e ∷ f ∷ bs) l = absurd (omega (arith, l))

pub is_byte : (b : ℕ) → b < 256 → IsBytes (b ∷ [])
is_byte b h = All-cons (λ b. b < 256) b [] h (All-nil (λ b. b < 256))

-- nothing is wrong at the node
abbrev pub Fits : ℕ → Node → Type 0
Fits location node = (fault : EncodeFault) → IsFaultAt description location node fault → ⊥

pub one_node : (location : ℕ) (node : Node) (nodes : List Node) → nodes ≡ node ∷ [] → Fits location node → HaveNoFault description location nodes
one_node location node nodes e h = subst (HaveNoFault description location) (sym e) (All-cons (Fits location) node [] h (All-nil (Fits location)))

pub two_nodes : (location : ℕ) (node other : Node) (nodes : List Node) → nodes ≡ node ∷ other ∷ [] → Fits location node → Fits location other → HaveNoFault description location nodes
two_nodes location node other nodes e h k =
    subst (HaveNoFault description location) (sym e) (All-cons (Fits location) node (other ∷ []) h (All-cons (Fits location) other [] k (All-nil (Fits location))))

-- what the bits 0 to 3, and 4 to 7, of a byte make
abbrev pub low_of : ℕ → ℕ
low_of b = (256 * 0 + b) / 2 ^ 0 % 2 ^ (3 - 0 + 1)

abbrev pub high_of : ℕ → ℕ
high_of b = (256 * 0 + b) / 2 ^ 4 % 2 ^ (7 - 4 + 1)

pub low_least : (b n : ℕ) → n ≡ low_of b → n ≤ b
low_least b n e = omega (arith, e)

pub high_least : (b n : ℕ) → n ≡ high_of b → 16 * n ≤ b
high_least b n e = omega (arith, e)

-- ---- c

results_c : (b : ℕ) → body_results description (record { 0 = 0 }) (b ∷ []) 0 ≡ one_match (x_read (low_of b) 0 ∷ []) 1
results_c b = refl

-- a byte that spells c has half the operand in x
spelled_c : (n : ℤ) (b : ℕ) → Spells description 0 (c_of (Num n)) (b ∷ []) → n ≡ pos (low_of b) +ℤ pos (low_of b)
spelled_c n b h =
    let same = ap (λ (m : Match). m.binds) (contains_one (record { binds = x_read (low_of b) 0 ∷ []; len = 1; loose = false }) h.result h.has) in
    only_c 0 (low_of b) 0 n (subst (λ es. Means description 0 es (c_of (Num n))) (sym same) h.means)

least_c : IsLeast description 0 (c_of (Num (pos 10))) (5 ∷ [])
least_c = record {
  spelled = record {
    are_bytes = is_byte 5 (omega arith);
    len = refl;
    spells = record { result = record { binds = x_read 5 0 ∷ []; len = 1; loose = false }; has = (0, omega arith, refl); whole = refl; means = means_c 0 5 0 (record { at_least = omega (arith, ints); below = omega (arith, ints) }) };
  };
  least = λ others h. of_one (λ bs. Spells description 0 (c_of (Num (pos 10))) bs → IsAtOrBefore (5 ∷ []) bs)
      (λ b s. let e = spelled_c (pos 10) b s in before_cons 5 b [] [] (low_least b 5 (omega (arith, ints, e))) tt) others h.len h.spells;
}

bytes_c : HasBytes description [] 0 (c_of (Num (pos 10))) (5 ∷ [])
bytes_c = record {
  resolved = c_of (Num (pos 10));
  resolves = resolves refl (num no_more);
  fits = one_node 0 (c_node (pos 10)) (nodes_of description (c_of (Num (pos 10)))) (nodes_c (pos 10)) (no_fault_c (pos 10) (pos 5) (omega (arith, ints), omega (arith, ints)) (record { at_least = omega (arith, ints); below = omega (arith, ints) }) refl);
  least = least_c;
}

-- ---- k

abbrev k_node : ℤ → Node
k_node n = node 0 0 1 (Num n ∷ []) (0 ∷ [])

nodes_k : (n : ℤ) → nodes_of description (k_of (Num n)) ≡ k_node n ∷ []
unfolding hidden-the_row-Instance-1 hidden-the_row-Operand-0 hidden-the_row-Pattern-0 hidden-the_row-Pattern-1 hidden
nodes_k n = refl

-- the label at the first byte is the location
label_k : (n : ℤ) → node_labels description 16 (k_node n) 0 ≡ pos 16
unfolding hidden-the_row-Pattern-0 hidden
label_k n = refl

fits_k : Fits 16 (k_node (pos 21))
fits_k =
    let s = node_setting description 16 (k_node (pos 21)) in
    let fields = assigned (pos 5) (pos 0) in
    let holds : IsSatisfied s fields label_and_x = omega (arith, ints, label_k (pos 21)) in
    no_fault description 16 (k_node (pos 21)) labelled refl (fits_one 1 (pos 21) (omega (arith, ints), omega (arith, ints)))
    (solvable s labelled fields (record { values = assigned_values (pos 5) (pos 0) (record { at_least = omega (arith, ints); below = omega (arith, ints) }) (record { at_least = omega (arith, ints); below = omega (arith, ints) }); operands = tt })
    (one_equation s fields label_and_x holds))

length_k : instance_len description (k_of (Num (pos 21))) ≡ 1
unfolding hidden-the_row-Pattern-0 hidden
length_k = refl

results_k : (b : ℕ) → body_results description (record { 0 = 1 }) (b ∷ []) 0 ≡ one_match (Mark 0 0 ∷ x_read (low_of b) 0 ∷ []) 1
unfolding hidden-the_row-Pattern-0 hidden
results_k b = refl

spelled_k : (n : ℤ) (b : ℕ) → Spells description 16 (k_of (Num n)) (b ∷ []) → n ≡ pos 16 +ℤ pos (low_of b)
spelled_k n b h =
    let found = subst (λ ms. Contains ms h.result) (results_k b) h.has in
    let same = ap (λ (m : Match). m.binds) (contains_one (record { binds = Mark 0 0 ∷ x_read (low_of b) 0 ∷ []; len = 1; loose = false }) h.result found) in
    only_k 16 (low_of b) 0 n (subst (λ es. Means description 16 es (k_of (Num n))) (sym same) h.means)

least_k : IsLeast description 16 (k_of (Num (pos 21))) (5 ∷ [])
least_k = record {
  spelled = record {
    are_bytes = is_byte 5 (omega arith);
    len = sym length_k;
    spells = record {
      result = record { binds = Mark 0 0 ∷ x_read 5 0 ∷ []; len = 1; loose = false };
      has = subst (λ ms. Contains ms (record { binds = Mark 0 0 ∷ x_read 5 0 ∷ []; len = 1; loose = false })) (sym (results_k 5)) (0, omega arith, refl);
      whole = refl;
      means = means_k 16 5 0 (record { at_least = omega (arith, ints); below = omega (arith, ints) });
    };
  };
  least = λ others h. of_one (λ bs. Spells description 16 (k_of (Num (pos 21))) bs → IsAtOrBefore (5 ∷ []) bs)
      (λ b s. let e = spelled_k (pos 21) b s in before_cons 5 b [] [] (low_least b 5 (omega (arith, ints, e))) tt) others (h.len ∙ length_k) h.spells;
}

bytes_k : HasBytes description (Some 18 ∷ []) 16 (k_of (Place (record { 0 = 0 }) (pos 3))) (5 ∷ [])
bytes_k = record {
  resolved = k_of (Num (pos 21));
  resolves = resolves refl (place 18 refl no_more);
  fits = one_node 16 (k_node (pos 21)) (nodes_of description (k_of (Num (pos 21)))) (nodes_k (pos 21)) fits_k;
  least = least_k;
}

-- ---- e

length_e : (n : ℤ) → instance_len description (e_of (Num n)) ≡ 1
unfolding hidden-the_row-Pattern-1 hidden
length_e n = refl

-- the results of y, where it is 3
abbrev if_three : Bool → ℕ → List Match
if_three t v = map (both_match (record { binds = y_read v 0 ∷ []; len = 1; loose = false })) (filter (agrees (record { binds = y_read v 0 ∷ []; len = 1; loose = false })) (if t then one_match [] 1 else [])) ++ []

results_e : (b : ℕ) → body_results description (record { 0 = 5 }) (b ∷ []) 0 ≡ if_three (eqb (high_of b) 3) (high_of b)
unfolding hidden-the_row-Pattern-1 hidden
results_e b = refl

is_three : (v : ℕ) (t : Bool) (m : Match) → eqb v 3 ≡ t → Contains (if_three t v) m → (v ≡ 3) × ((y_read v 0 ∷ []) ≡ m.binds)
is_three v true m e h = (eqb-true v 3 e, ap (λ (m : Match). m.binds) (contains_one (record { binds = y_read v 0 ∷ []; len = 1; loose = false }) m h))
is_three v false m e h = absurd (omega (arith, h.1))

spelled_e : (n : ℤ) (b : ℕ) → Spells description 0 (e_of (Num n)) (b ∷ []) → (n ≡ pos 3) × (high_of b ≡ 3)
spelled_e n b h =
    let found = is_three (high_of b) (eqb (high_of b) 3) h.result refl (subst (λ ms. Contains ms h.result) (results_e b) h.has) in
    let e = only_e 0 (high_of b) 0 n (subst (λ es. Means description 0 es (e_of (Num n))) (sym found.1) h.means) in
    (e ∙ ap pos found.0, found.0)

excluded_e : IsEncodeFault description [] 0 (e_of (Num (pos 4))) Excluded
excluded_e =
    excluded (e_of (Num (pos 4))) (resolves refl (num no_more))
    (one_node 0 (e_node (pos 4)) (nodes_of description (e_of (Num (pos 4)))) (nodes_e (pos 4)) (no_fault_e (pos 4) (record { at_least = omega (arith, ints); below = omega (arith, ints) })))
    (λ bytes h. of_one (λ bs. Spells description 0 (e_of (Num (pos 4))) bs → ⊥) (λ b s. omega (arith, ints, (spelled_e (pos 4) b s).0)) bytes (h.len ∙ length_e (pos 4)) h.spells)

least_e : IsLeast description 0 (e_of (Num (pos 3))) (48 ∷ [])
least_e = record {
  spelled = record {
    are_bytes = is_byte 48 (omega arith);
    len = sym (length_e (pos 3));
    spells = record {
      result = record { binds = y_read 3 0 ∷ []; len = 1; loose = false };
      has = subst (λ ms. Contains ms (record { binds = y_read 3 0 ∷ []; len = 1; loose = false })) (sym (results_e 48)) (0, omega arith, refl);
      whole = refl;
      means = means_e 0 3 0;
    };
  };
  least = λ others h. of_one (λ bs. Spells description 0 (e_of (Num (pos 3))) bs → IsAtOrBefore (48 ∷ []) bs)
      (λ b s. before_cons 48 b [] [] (high_least b 3 (sym (spelled_e (pos 3) b s).1)) tt) others (h.len ∙ length_e (pos 3)) h.spells;
}

bytes_e : HasBytes description [] 0 (e_of (Num (pos 3))) (48 ∷ [])
bytes_e = record {
  resolved = e_of (Num (pos 3));
  resolves = resolves refl (num no_more);
  fits = one_node 0 (e_node (pos 3)) (nodes_of description (e_of (Num (pos 3)))) (nodes_e (pos 3)) (no_fault_e (pos 3) (record { at_least = omega (arith, ints); below = omega (arith, ints) }));
  least = least_e;
}

-- ---- g

abbrev chosen_match : List RawEntry → Match
chosen_match entries = record { binds = entries; len = 2; loose = false }

results_g : (b e : ℕ) → body_results description (record { 0 = 4 }) (b ∷ e ∷ []) 0 ≡ chosen_match (with_d (low_of b) (low_of e)) ∷ chosen_match (with_l (low_of b) (low_of e)) ∷ []
unfolding hidden-the_row-Pattern-0 hidden-the_row-Pattern-1 hidden
results_g b e = refl

module _ (location : ℕ) (m n : ℤ) where
  -- g of a d is of two bytes
  length_gd : instance_len description (g_of (Num m) (d_of (Num n))) ≡ 2
  unfolding hidden-the_row-Instance-1 hidden-the_row-Operand-0 hidden-the_row-Pattern-1 hidden
  length_gd = refl

  length_gl : instance_len description (g_of (Num m) (l_of (Num n))) ≡ 2
  unfolding hidden-the_row-Instance-1 hidden-the_row-Operand-0 hidden-the_row-Pattern-0 hidden-the_row-Pattern-1 hidden
  length_gl = refl

  module _ (b e : ℕ) where
    either_choice : (i : Instance) → Spells description location (g_of (Num m) i) (b ∷ e ∷ [])
        → Means description location (with_d (low_of b) (low_of e)) (g_of (Num m) i) ⊎ Means description location (with_l (low_of b) (low_of e)) (g_of (Num m) i)
    either_choice i h =
        elim (contains_two (chosen_match (with_d (low_of b) (low_of e))) (chosen_match (with_l (low_of b) (low_of e))) h.result (subst (λ ms. Contains ms h.result) (results_g b e) h.has)) [
          | inl q ↦ inl (subst (λ es. Means description location es (g_of (Num m) i)) (sym (ap (λ (r : Match). r.binds) q)) h.means)
          | inr q ↦ inr (subst (λ es. Means description location es (g_of (Num m) i)) (sym (ap (λ (r : Match). r.binds) q)) h.means)
        ]

    spelled_gd : Spells description location (g_of (Num m) (d_of (Num n))) (b ∷ e ∷ []) → (m ≡ pos (low_of b) +ℤ pos (low_of b)) × (n ≡ pos (low_of e) +ℤ pos (low_of e))
    spelled_gd h = elim (either_choice (d_of (Num n)) h) [ inl q ↦ only_gd (low_of b) (low_of e) location m n q | inr q ↦ absurd (no_d (low_of b) (low_of e) location m n q) ]

    spelled_gl : Spells description location (g_of (Num m) (l_of (Num n))) (b ∷ e ∷ []) → (m ≡ pos (low_of b) +ℤ pos (low_of b)) × (n ≡ pos (location + 1) +ℤ pos (low_of e))
    spelled_gl h = elim (either_choice (l_of (Num n)) h) [ inl q ↦ absurd (no_l (low_of b) (low_of e) location m n q) | inr q ↦ only_gl (low_of b) (low_of e) location m n q ]

-- the holder of an instance fits, where 5 is half of its operand
fits_g : (location : ℕ) (i : Instance) → Fits location (g_node (pos 10) i)
unfolding hidden-the_row-Instance-1 hidden
fits_g location i =
    no_fault description location (g_node (pos 10) i) two_bytes refl fits
    (solved location (g_node (pos 10) i) two_bytes order_g refl (λ fields. tt) (pos 5) (record { at_least = omega (arith, ints); below = omega (arith, ints) }) refl)
  where
    fits : (m : ℕ) → IsFirstUnfit tokens 1 (Whole ∷ Typed half ∷ []) (Num (pos 10) ∷ Sub i ∷ []) m → ⊥
    fits m (inl p) = p.1 (omega (arith, ints), omega (arith, ints))
    fits m (inr (r, inl p)) = p.1 tt
    fits m (inr (r, inr p)) = p.1

two_are_bytes : IsBytes (5 ∷ 2 ∷ [])
two_are_bytes = All-cons (λ b. b < 256) 5 (2 ∷ []) (omega arith) (is_byte 2 (omega arith))

least_gd : IsLeast description 0 (g_of (Num (pos 10)) (d_of (Num (pos 4)))) (5 ∷ 2 ∷ [])
least_gd = record {
  spelled = record {
    are_bytes = two_are_bytes;
    len = sym (length_gd 0 (pos 10) (pos 4));
    spells = record {
      result = chosen_match (with_d 5 2);
      has = subst (λ ms. Contains ms (chosen_match (with_d 5 2))) (sym (results_g 5 2)) (0, omega arith, refl);
      whole = refl;
      means = means_gd 5 2 0 (record { at_least = omega (arith, ints); below = omega (arith, ints) }) (record { at_least = omega (arith, ints); below = omega (arith, ints) });
    };
  };
  least = λ others h. of_two (λ bs. Spells description 0 (g_of (Num (pos 10)) (d_of (Num (pos 4)))) bs → IsAtOrBefore (5 ∷ 2 ∷ []) bs)
      (λ b e s. let q = spelled_gd 0 (pos 10) (pos 4) b e s in before_cons 5 b (2 ∷ []) (e ∷ []) (low_least b 5 (omega (arith, ints, q.0))) (before_cons 2 e [] [] (low_least e 2 (omega (arith, ints, q.1))) tt))
      others (h.len ∙ length_gd 0 (pos 10) (pos 4)) h.spells;
}

bytes_gd : HasBytes description [] 0 (g_of (Num (pos 10)) (d_of (Num (pos 4)))) (5 ∷ 2 ∷ [])
bytes_gd = record {
  resolved = g_of (Num (pos 10)) (d_of (Num (pos 4)));
  resolves = resolved_g (pos 10) (pos 4);
  fits = two_nodes 0 (d_node (pos 4)) (g_node (pos 10) (d_of (Num (pos 4)))) (nodes_of description (g_of (Num (pos 10)) (d_of (Num (pos 4))))) (nodes_g (pos 10) (pos 4))
      (no_fault_d (pos 0) (pos 4) (pos 2) (omega (arith, ints), omega (arith, ints)) (record { at_least = omega (arith, ints); below = omega (arith, ints) }) refl) (fits_g 0 (d_of (Num (pos 4))));
  least = least_gd;
}

-- ---- a label inside what is held

abbrev l_node : ℤ → Node
l_node n = node 2 1 3 (Num n ∷ []) (0 ∷ [])

nodes_gl : (m n : ℤ) → nodes_of description (g_of (Num m) (l_of (Num n))) ≡ l_node n ∷ g_node m (l_of (Num n)) ∷ []
unfolding hidden-the_row-Instance-1 hidden-the_row-Operand-0 hidden-the_row-Pattern-0 hidden-the_row-Pattern-1 hidden
nodes_gl m n = refl

label_l : (n : ℤ) → node_labels description 16 (l_node n) 0 ≡ pos 17
unfolding hidden-the_row-Pattern-0 hidden
label_l n = refl

order_l : solving_order labelled_half ≡ 0 ∷ []
unfolding hidden-the_row-Pattern-0 hidden
order_l = refl

fits_l : Fits 16 (l_node (pos 19))
fits_l =
    let s = node_setting description 16 (l_node (pos 19)) in
    let fields = assigned (pos 2) (pos 0) in
    let holds : IsSatisfied s fields label_and_x = omega (arith, ints, label_l (pos 19)) in
    no_fault description 16 (l_node (pos 19)) labelled_half refl (fits_one 3 (pos 19) (omega (arith, ints), omega (arith, ints)))
    (solvable s labelled_half fields (record { values = assigned_values (pos 2) (pos 0) (record { at_least = omega (arith, ints); below = omega (arith, ints) }) (record { at_least = omega (arith, ints); below = omega (arith, ints) }); operands = tt })
    (one_equation s fields label_and_x holds))

least_gl : IsLeast description 16 (g_of (Num (pos 10)) (l_of (Num (pos 19)))) (5 ∷ 2 ∷ [])
least_gl = record {
  spelled = record {
    are_bytes = two_are_bytes;
    len = sym (length_gl 16 (pos 10) (pos 19));
    spells = record {
      result = chosen_match (with_l 5 2);
      has = subst (λ ms. Contains ms (chosen_match (with_l 5 2))) (sym (results_g 5 2)) (1, omega arith, refl);
      whole = refl;
      means = means_gl 5 2 16 (record { at_least = omega (arith, ints); below = omega (arith, ints) }) (record { at_least = omega (arith, ints); below = omega (arith, ints) });
    };
  };
  least = λ others h. of_two (λ bs. Spells description 16 (g_of (Num (pos 10)) (l_of (Num (pos 19)))) bs → IsAtOrBefore (5 ∷ 2 ∷ []) bs)
      (λ b e s. let q = spelled_gl 16 (pos 10) (pos 19) b e s in before_cons 5 b (2 ∷ []) (e ∷ []) (low_least b 5 (omega (arith, ints, q.0))) (before_cons 2 e [] [] (low_least e 2 (omega (arith, ints, q.1))) tt))
      others (h.len ∙ length_gl 16 (pos 10) (pos 19)) h.spells;
}

resolved_gl : (m n : ℤ) → Resolves [] (g_of (Num m) (l_of (Num n))) (g_of (Num m) (l_of (Num n)))
resolved_gl m n = resolves refl (num (sub (l_of (Num n)) (l_of (Num n)) (resolves refl (num no_more)) no_more))

bytes_gl : HasBytes description [] 16 (g_of (Num (pos 10)) (l_of (Num (pos 19)))) (5 ∷ 2 ∷ [])
bytes_gl = record {
  resolved = g_of (Num (pos 10)) (l_of (Num (pos 19)));
  resolves = resolved_gl (pos 10) (pos 19);
  fits = two_nodes 16 (l_node (pos 19)) (g_node (pos 10) (l_of (Num (pos 19)))) (nodes_of description (g_of (Num (pos 10)) (l_of (Num (pos 19))))) (nodes_gl (pos 10) (pos 19)) fits_l (fits_g 16 (l_of (Num (pos 19))));
  least = least_gl;
}

-- no x is 16 less 17
before_label : IsEncodeFault description [] 16 (g_of (Num (pos 10)) (l_of (Num (pos 16)))) (NoSolution 2 0)
before_label =
    let s = node_setting description 16 (l_node (pos 16)) in
    let zero_between : IsBetween (pos 0) (pos 16) (pos 0) = record { at_least = omega (arith, ints); below = omega (arith, ints) } in
    let first : IsFirstUnsolvable s labelled_half 0 = record {
      place = 0;
      named = ap (λ ks. slice_get ks 0) order_l;
      before = (assigned (pos 0) (pos 0), record { values = assigned_values (pos 0) (pos 0) zero_between zero_between; operands = tt }, All-nil (IsSatisfied s (assigned (pos 0) (pos 0))));
      after = λ w. let holds = All-head (IsSatisfied s w.0) label_and_x [] (subst (λ ks. EachSatisfied s w.0 (equations_at labelled_half.equations (take 1 ks))) order_l w.2) in
          omega (arith, ints, holds, label_l (pos 16), (w.1.values 0).at_least);
    } in
    at_node (g_of (Num (pos 10)) (l_of (Num (pos 16)))) (resolved_gl (pos 10) (pos 16))
    (subst (λ ns. IsFirstFault description 16 ns (NoSolution 2 0)) (sym (nodes_gl (pos 10) (pos 16))) (here (unsolvable labelled_half refl (fits_one 3 (pos 16) (omega (arith, ints), omega (arith, ints))) first)))

pub encoding_rows : EncodingRows
encoding_rows = record {
  doubled = bytes_c;
  odd = odd;
  too_far = too_far;
  too_great = too_great;
  greatest = greatest;
  least = least;
  too_small = too_small;
  too_wide = too_wide;
  negative = negative;
  unplaced = label_unplaced;
  unknown = label_unknown;
  placed = bytes_k;
  excluded = excluded_e;
  left_in = bytes_e;
  held_first = held_first;
  holder = holder;
  operand_of_held = operand_of_held;
  two_bytes = bytes_gd;
  inner_label = bytes_gl;
  before_label = before_label;
}
