-- A node that is added.
use Rattle.std.proofs.Common.{◌≡◌, ℕ, zero, suc, ◌<◌, ◌≤◌, ◌⊎◌, inl, inr, List, [], ◌∷◌, ◌++◌, length, slice_get, Option, Some, None, refl, sym, ap, ◌∙◌, subst, arith, append_assoc, length-append}
use Rattle.std.proofs.lemmas.Bool.{cases_lt}
use Rattle.std.proofs.lemmas.Option.{slice_get_within, get_or_from_slice_get}
use Rattle.bit_cases.specs.declared.byte_case.ByteCase.{ByteCase}
use Rattle.decision_tree.specs.declared.node.CaseNo.{CaseNo}
use Rattle.decision_tree.specs.declared.node.NodeNo.{NodeNo}
use Rattle.decision_tree.specs.declared.node.Node.{Node}
use Rattle.decision_tree.specs.declared.node.Node.TheVariants.{Check}
use Rattle.decision_tree.specs.declared.node.Next.{Next}
use Rattle.decision_tree.specs.declared.node.Next.TheVariants.{Done, Go}
use Rattle.decision_tree.specs.Graph.{next, next_at, answer_of, walk_from, walk_at, IsFormed, IsGraph, Grows, Reaches}
use Rattle.decision_tree.specs.Graph.Reaches.{here, along}
use Rattle.std.proofs.Common.{AllPairs, ◌≢◌}
use Rattle.std.proofs.Math.Seq.{get_or-append_seam}
use Rattle.decision_tree.specs.Building.{IsMade}
use Rattle.decision_tree.proofs.Walks.{Leads, leads, walk_step}

pub slice_get-front : {X : Type 0} (xs ys : List X) (n : ℕ) → n < length xs → slice_get (xs ++ ys) n ≡ slice_get xs n
slice_get-front [] ys n h = absurd (omega arith)
slice_get-front (x ∷ xs) ys zero h = refl
slice_get-front (x ∷ xs) ys (suc n) h = slice_get-front xs ys n (omega arith)

slice_get-last : {X : Type 0} (xs : List X) (y : X) (n : ℕ) (z : X) → slice_get (xs ++ y ∷ []) n ≡ Some z → length xs ≤ n → (n ≡ length xs) × (z ≡ y)
slice_get-last [] y zero z e h = (refl, cc)
slice_get-last [] y (suc n) z e h = cc
slice_get-last (x ∷ xs) y zero z e h = absurd (omega arith)
slice_get-last (x ∷ xs) y (suc n) z e h = let r = slice_get-last xs y n z e (omega arith) in (ap suc r.0, r.1)

below_or : (n m : ℕ) → (n < m) ⊎ (m ≤ n)
below_or n m = cases_lt n m

-- more nodes change no walk
module _ (cases : List ByteCase) (nodes more : List Node) (graph : IsGraph (length cases) nodes) (window : List ℕ) where
  leads_there : (n : ℕ) (o : Option Node) → slice_get nodes n ≡ o → Leads n (next_at cases window o)
  leads_there n None e = tt
  leads_there n (Some node) e = leads cases (length cases) window n node (graph.formed n node e)

  walk_more : (turns n : ℕ) → n < length nodes → walk_from turns cases (nodes ++ more) window n ≡ walk_from turns cases nodes window n
  unfolding walk_from
  walk_more zero n h = refl
  walk_more (suc turns) n h =
      ap (λ o. answer_of (walk_from turns cases (nodes ++ more) window) (next_at cases window o)) (slice_get-front nodes more n h)
      ∙ by (next_at cases window (slice_get nodes n)) (leads_there n (slice_get nodes n) refl) (λ m l. walk_more turns m (omega arith))
    where
      by : (x : Next) → Leads n x → ((m : ℕ) → m < n → walk_from turns cases (nodes ++ more) window m ≡ walk_from turns cases nodes window m)
          → answer_of (walk_from turns cases (nodes ++ more) window) x ≡ answer_of (walk_from turns cases nodes window) x
      by (Done answer) l below = refl
      by (Go m) l below = below m.0 l

  pub walk_grown : (n : ℕ) → n < length nodes → walk_at cases (nodes ++ more) window n ≡ walk_at cases nodes window n
  unfolding walk_at
  walk_grown n h = walk_more (suc n) n h

module _ (cases : List ByteCase) (old new : List Node) (node : Node) (graph : IsGraph (length cases) old) (formed : IsFormed (length cases) (length old) node) where
  graph_grown : (i : ℕ) → Grows old new node i → IsGraph (length cases) new
  graph_grown i (inl e) = subst (IsGraph (length cases)) (sym e) graph
  graph_grown i (inr e) = subst (IsGraph (length cases)) (sym e.0) (record { formed = λ n x at. by n x at (below_or n (length old)) })
    where
      by : (n : ℕ) (x : Node) → slice_get (old ++ node ∷ []) n ≡ Some x → (n < length old) ⊎ (length old ≤ n) → IsFormed (length cases) n x
      by n x at (inl l) = graph.formed n x (sym (slice_get-front old (node ∷ []) n l) ∙ at)
      by n x at (inr g) = let r = slice_get-last old node n x at g in
          subst (λ m. IsFormed (length cases) m x) (sym r.0) (subst (IsFormed (length cases) (length old)) (sym r.1) formed)

  more_of : (i : ℕ) → Grows old new node i → (more : List Node) × (new ≡ old ++ more)
  more_of i (inl e) = ([], e ∙ sym (append_nil old))
    where
      append_nil : {X : Type 0} (xs : List X) → xs ++ [] ≡ xs
      append_nil [] = refl
      append_nil (x ∷ xs) = ap (λ ys. x ∷ ys) (append_nil xs)
  more_of i (inr e) = (node ∷ [], e.0)

  fresh_of : (i : ℕ) → Grows old new node i → (m : ℕ) → length old ≤ m → m < length new → m ≡ i
  fresh_of i (inl e) m g l = absurd (let f : length new ≡ length old = ap (length {A = Node}) e in omega (arith, f))
  fresh_of i (inr e) m g l = let f : length new ≡ length (old ++ node ∷ []) = ap (length {A = Node}) e.0 in omega (arith, f, length-append old (node ∷ []), e.1)

  pub made : (n : ℕ) → Grows old new node n → slice_get new n ≡ Some node → n < length new → IsMade cases old new n node
  made n grows at within =
      let m = more_of n grows in let g = graph_grown n grows in
      record {
        grown = m;
        graph = g;
        within = within;
        at = at;
        fresh = fresh_of n grows;
        answers = λ window. walk_step cases new g window n node at ∙ by window (next cases window node) (leads cases (length cases) window (length old) node formed) m;
      }
    where
      by : (window : List ℕ) (x : Next) → Leads (length old) x → ((more : List Node) × (new ≡ old ++ more)) → answer_of (walk_at cases new window) x ≡ answer_of (walk_at cases old window) x
      by window (Done answer) l m = refl
      by window (Go k) l m = ap (λ nodes. walk_at cases nodes window k.0) m.1 ∙ walk_grown cases old m.0 graph window k.0 l

-- what was made stays, when more is made
pub grown_twice : (a b c : List Node) → ((more : List Node) × (b ≡ a ++ more)) → ((more : List Node) × (c ≡ b ++ more)) → (more : List Node) × (c ≡ a ++ more)
grown_twice a b c p q = (p.0 ++ q.0, q.1 ∙ ap (λ x. x ++ q.0) p.1 ∙ simp append_assoc)

pub walk_stays : (cases : List ByteCase) (old new : List Node) → IsGraph (length cases) old → ((more : List Node) × (new ≡ old ++ more)) → (window : List ℕ) (n : ℕ) → n < length old
    → walk_at cases new window n ≡ walk_at cases old window n
walk_stays cases old new graph m window n h = ap (λ nodes. walk_at cases nodes window n) m.1 ∙ walk_grown cases old m.0 graph window n h

pub stays_within : (old new : List Node) → ((more : List Node) × (new ≡ old ++ more)) → (n : ℕ) → n < length old → n < length new
stays_within old new m n h = subst (λ x. n < length x) (sym m.1) (omega (arith, length-append old m.0))

-- what is reached stays reached
pub reach_grown : (old new : List Node) → ((more : List Node) × (new ≡ old ++ more)) → (n m : ℕ) → Reaches old n m → Reaches new n m
reach_grown old new g n m here = here
reach_grown old new g n m (along {target = k} node at link rest) =
    along node (ap (λ nodes. slice_get nodes n) g.1 ∙ slice_get-front old g.0 n (slice_get_within old n node at) ∙ at) link (reach_grown old new g k m rest)

pub new_last : (old : List Node) (node : Node) (n : ℕ) → AllPairs (λ a b. a ≢ b) (old ++ node ∷ []) → slice_get (old ++ node ∷ []) n ≡ Some node → n ≡ length old
new_last old node n apart at = elim (cases_lt n (length old)) [
  | inl l ↦ absurd (apart n (length old) node l (omega (arith, length-append old (node ∷ [])))
      (get_or_from_slice_get (old ++ node ∷ []) n node node at ∙ sym (get_or-append_seam old node [] node)))
  | inr g ↦ (let w = slice_get_within (old ++ node ∷ []) n node at in omega (arith, length-append old (node ∷ []), w))
]

pub grows_so : (old new : List Node) (node : Node) (n : ℕ) → AllPairs (λ a b. a ≢ b) new → slice_get new n ≡ Some node → (new ≡ old) ⊎ (new ≡ old ++ node ∷ []) → Grows old new node n
grows_so old new node n apart at (inl e) = inl e
grows_so old new node n apart at (inr e) = inr (e, new_last old node n (subst (AllPairs (λ a b. a ≢ b)) e apart) (ap (λ nodes. slice_get nodes n) (sym e) ∙ at))

-- one more check reaches all
pub check_reaches : (a b d e : List Node) (c : CaseNo) (met other n : NodeNo) → ((more : List Node) × (d ≡ b ++ more)) → ((more : List Node) × (e ≡ d ++ more))
    → ((m : ℕ) → length a ≤ m → m < length b → Reaches b other.0 m) → ((m : ℕ) → length b ≤ m → m < length d → m ≡ met.0) → ((m : ℕ) → length d ≤ m → m < length e → m ≡ n.0)
    → slice_get e n.0 ≡ Some (Check c met other) → (m : ℕ) → length a ≤ m → m < length e → Reaches e n.0 m
check_reaches a b d e c met other n g h before first second at m l k = elim (cases_lt m (length b)) [
  | inl x ↦ along (Check c met other) at (inr refl) (reach_grown b e (grown_twice b d e g h) other.0 m (before m l x))
  | inr x ↦ elim (cases_lt m (length d)) [
    | inl y ↦ along (Check c met other) at (inl (first m x y)) here
    | inr y ↦ subst (λ i. Reaches e i m) (second m y k) here
  ]
]
