-- How a walk goes on.
use Rattle.std.proofs.Common.{◌≡◌, ℕ, zero, suc, ◌+◌, ◌/◌, ◌%◌, ◌^◌, ◌<◌, Bool, true, false, List, length, slice_get, Option, Some, None, refl, sym, ap, ◌∙◌, subst, arith, cond}
use Rattle.std.specs.Option.{option_map}
use Rattle.bit_cases.specs.declared.byte_case.ByteCase.{ByteCase}
use Rattle.decision_tree.specs.declared.node.CaseNo.{CaseNo}
use Rattle.decision_tree.specs.declared.node.NodeNo.{NodeNo}
use Rattle.decision_tree.specs.declared.node.Node.{Node}
use Rattle.decision_tree.specs.declared.node.Node.TheVariants.{Leaf, Check, Test}
use Rattle.decision_tree.specs.declared.node.Next.{Next}
use Rattle.decision_tree.specs.declared.node.Next.TheVariants.{Done, Go}
use Rattle.decision_tree.specs.Graph.{is_met_at, test_link, next, next_at, answer_of, walk_from, walk_at, cost, cost_at, cost_of, asks_from, asks_at, IsTest, IsFormed, IsGraph}
use Rattle.std.proofs.lemmas.Nat.{pow_pos}

-- the link of a step
abbrev pub Leads : ℕ → Next → Type 0
Leads n (Done answer) = Unit {0}
Leads n (Go m) = m.0 < n

pub value_below : (kids : List ℕ) (width : ℕ) (b shift : ℕ) → length kids ≡ 2 ^ width → b / 2 ^ shift % 2 ^ width < length kids
value_below kids width b shift e = let positive : 0 < 2 ^ width = pow_pos width in omega (arith, e)

kid_lower : (n byte shift width : ℕ) (kids : List ℕ) (short : ℕ) → IsTest n byte shift width kids short → (window : List ℕ) (b : Option ℕ) → slice_get window byte ≡ b
    → test_link kids short (option_map (λ x. x / 2 ^ shift % 2 ^ width) b) < n
kid_lower n byte shift width kids short t window None e = t.short_lower
kid_lower n byte shift width kids short t window (Some x) e = t.kids_lower (x / 2 ^ shift % 2 ^ width) (value_below kids width x shift t.each)

pub leads : (cases : List ByteCase) (count : ℕ) (window : List ℕ) (n : ℕ) (node : Node) → IsFormed count n node → Leads n (next cases window node)
leads cases count window n (Leaf answer) f = tt
leads cases count window n (Check c met other) f = by (is_met_at cases window c.0)
  where
    by : (b : Bool) → cond b met.0 other.0 < n
    by true = f.1
    by false = f.2
leads cases count window n (Test byte shift width kids short) f = kid_lower n byte shift width kids short.0 f window (slice_get window byte) refl

module _ (cases : List ByteCase) (nodes : List Node) (graph : IsGraph (length cases) nodes) (window : List ℕ) where
  leads_at : (n : ℕ) (o : Option Node) → slice_get nodes n ≡ o → Leads n (next_at cases window o)
  leads_at n None e = tt
  leads_at n (Some node) e = leads cases (length cases) window n node (graph.formed n node e)

  -- more turns change nothing
  pub walk_turns : (a b n : ℕ) → n < a → n < b → walk_from a cases nodes window n ≡ walk_from b cases nodes window n
  unfolding walk_from
  walk_turns zero b n h k = absurd (omega arith)
  walk_turns (suc a) zero n h k = absurd (omega arith)
  walk_turns (suc a) (suc b) n h k = by (next_at cases window (slice_get nodes n)) (leads_at n (slice_get nodes n) refl) (λ m l. walk_turns a b m (omega arith) (omega arith))
    where
      by : (x : Next) → Leads n x → ((m : ℕ) → m < n → walk_from a cases nodes window m ≡ walk_from b cases nodes window m)
          → answer_of (walk_from a cases nodes window) x ≡ answer_of (walk_from b cases nodes window) x
      by (Done answer) l below = refl
      by (Go m) l below = below m.0 l

  pub asks_turns : (a b n : ℕ) → n < a → n < b → asks_from a cases nodes window n ≡ asks_from b cases nodes window n
  unfolding asks_from
  asks_turns zero b n h k = absurd (omega arith)
  asks_turns (suc a) zero n h k = absurd (omega arith)
  asks_turns (suc a) (suc b) n h k = ap (λ x. cost_at (slice_get nodes n) + x) (by (next_at cases window (slice_get nodes n)) (leads_at n (slice_get nodes n) refl) (λ m l. asks_turns a b m (omega arith) (omega arith)))
    where
      by : (x : Next) → Leads n x → ((m : ℕ) → m < n → asks_from a cases nodes window m ≡ asks_from b cases nodes window m)
          → cost_of (asks_from a cases nodes window) x ≡ cost_of (asks_from b cases nodes window) x
      by (Done answer) l below = refl
      by (Go m) l below = below m.0 l

  module _ (n : ℕ) (node : Node) (at : slice_get nodes n ≡ Some node) where
    -- one step of the walk
    pub walk_step : walk_at cases nodes window n ≡ answer_of (walk_at cases nodes window) (next cases window node)
    unfolding walk_at walk_from
    walk_step = ap (λ o. answer_of (walk_from n cases nodes window) (next_at cases window o)) at
        ∙ by (next cases window node) (leads_at n (Some node) at)
      where
        by : (x : Next) → Leads n x → answer_of (walk_from n cases nodes window) x ≡ answer_of (λ m. walk_from (suc m) cases nodes window m) x
        by (Done answer) l = refl
        by (Go m) l = walk_turns n (suc m.0) m.0 l (omega arith)

    pub asks_step : asks_at cases nodes window n ≡ cost node + cost_of (asks_at cases nodes window) (next cases window node)
    unfolding asks_at asks_from
    asks_step = ap (λ o. cost_at o + cost_of (asks_from n cases nodes window) (next_at cases window o)) at
        ∙ ap (λ x. cost node + x) (by (next cases window node) (leads_at n (Some node) at))
      where
        by : (x : Next) → Leads n x → cost_of (asks_from n cases nodes window) x ≡ cost_of (λ m. asks_from (suc m) cases nodes window m) x
        by (Done answer) l = refl
        by (Go m) l = asks_turns n (suc m.0) m.0 l (omega arith)

    pub go_walk : (m : NodeNo) → Go m ≡ next cases window node → walk_at cases nodes window n ≡ walk_at cases nodes window m.0
    go_walk m e = walk_step ∙ ap (answer_of (walk_at cases nodes window)) (sym e)

    pub done_walk : (answer : Option CaseNo) → Done answer ≡ next cases window node → walk_at cases nodes window n ≡ answer
    done_walk answer e = walk_step ∙ ap (answer_of (walk_at cases nodes window)) (sym e)

    pub go_asks : (m : NodeNo) → Go m ≡ next cases window node → asks_at cases nodes window n ≡ cost node + asks_at cases nodes window m.0
    go_asks m e = asks_step ∙ ap (λ x. cost node + cost_of (asks_at cases nodes window) x) (sym e)

    pub done_asks : (answer : Option CaseNo) → Done answer ≡ next cases window node → asks_at cases nodes window n ≡ cost node + 0
    done_asks answer e = asks_step ∙ ap (λ x. cost node + cost_of (asks_at cases nodes window) x) (sym e)

    pub go_lower : (m : NodeNo) → Go m ≡ next cases window node → m.0 < n
    go_lower m e = subst (Leads n) (sym e) (leads_at n (Some node) at)
