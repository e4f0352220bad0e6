-- How large a pattern is: what falls as its measures are taken.
use Rattle.std.proofs.Common.{◌≡◌, ℕ, ◌+◌, ◌≤◌, ◌<◌, List, take, get_or, length, refl, sym, ap, subst, ◌∙◌, sum_by, arith}
use Rattle.std.proofs.lemmas.List.Sums.{sum_by-cons, get_or-le-sum_by, sum_by_more_le}
use Rattle.sled_model.specs.declared.constructor.Constructor.{Constructor}
use Rattle.sled_model.specs.declared.pattern.Pattern.{Pattern, Row_of-Pattern, end_of-Pattern, more_of-Pattern, items-the_row-Pattern, items_hidden-the_row-Pattern-1}
use Rattle.sled_model.specs.declared.pattern.Argument.TheBlock.{hidden-the_row-Pattern-0, hidden-the_row-Pattern-1}
use denote.Hole.Carrier.{hidden}
use Rattle.sled_model.specs.declared.pattern.Pattern.TheVariants.{Label', Both', Either', Chain', Loose', Label, Both, Either, Chain, Loose}

abbrev mutual
  pub nodes : Pattern → ℕ
  nodes (Label' l s p) = 5 + row_nodes p
  nodes (Both' s ps) = 5 + row_nodes ps
  nodes (Either' s ps) = 5 + row_nodes ps
  nodes (Chain' s ps) = 5 + row_nodes ps
  nodes (Loose' s p) = 5 + row_nodes p
  nodes _ = 5

  pub row_nodes : {n : _} → Row_of-Pattern n → ℕ
  row_nodes end_of-Pattern = 0
  row_nodes (more_of-Pattern p ps) = nodes p + row_nodes ps

row_nodes-row : {n : _} (ps : Row_of-Pattern n) → row_nodes ps ≡ sum_by nodes (items-the_row-Pattern _ ps)
row_nodes-row end_of-Pattern = refl
row_nodes-row (more_of-Pattern p ps) = ap (λ n. nodes p + n) (row_nodes-row ps) ∙ sym (sum_by-cons nodes p (items-the_row-Pattern _ ps))

listed : (ps : List Pattern) → row_nodes (hidden-the_row-Pattern-1 ps) ≡ sum_by nodes ps
listed ps = row_nodes-row (hidden-the_row-Pattern-1 ps) ∙ ap (sum_by nodes) (items_hidden-the_row-Pattern-1 ps)

pub nodes-Both : (ps : List Pattern) → nodes (Both ps) ≡ 5 + sum_by nodes ps
nodes-Both ps = ap (λ n. 5 + n) (listed ps)

pub nodes-Either : (ps : List Pattern) → nodes (Either ps) ≡ 5 + sum_by nodes ps
nodes-Either ps = ap (λ n. 5 + n) (listed ps)

pub nodes-Chain : (ps : List Pattern) → nodes (Chain ps) ≡ 5 + sum_by nodes ps
nodes-Chain ps = ap (λ n. 5 + n) (listed ps)

pub nodes-Loose : (p : Pattern) → nodes (Loose p) ≡ 5 + nodes p
unfolding hidden-the_row-Pattern-0 hidden
nodes-Loose p = omega arith

pub nodes-Label : (l : ℕ) (p : Pattern) → nodes (Label l p) ≡ 5 + nodes p
unfolding hidden-the_row-Pattern-0 hidden
nodes-Label l p = omega arith

-- a part is smaller than its list
pub nodes_of_part : (ps : List Pattern) (i : ℕ) (p : Pattern) → i < length ps → p ≡ get_or ps i p → nodes p ≤ sum_by nodes ps
nodes_of_part ps i p l is = subst (λ z. nodes z ≤ sum_by nodes ps) (sym is) (get_or-le-sum_by nodes ps i p l)

-- the bodies of constructors
abbrev pub body_nodes : List Constructor → ℕ
body_nodes cs = sum_by (λ (c : Constructor). nodes c.body) cs

-- a body and those before it are together as large as all are at most
pub nodes_of_body : (cs : List Constructor) (k : ℕ) (c : Constructor) → k < length cs → c ≡ get_or cs k c → body_nodes (take k cs) + nodes c.body ≤ body_nodes cs
nodes_of_body cs k c l is = subst (λ z. body_nodes (take k cs) + nodes z.body ≤ body_nodes cs) (sym is) (sum_by_more_le (λ (c : Constructor). nodes c.body) cs k c l)
