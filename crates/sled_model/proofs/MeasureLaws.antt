-- What the measures of a pattern, and what is asked of its parts, are at each variant that holds patterns, seen as lists; and the
-- measures over one constructor more, without applications, and over operands whose measures are capped.
use Rattle.std.proofs.Common.{◌≡◌, ℕ, zero, suc, ◌+◌, ◌*◌, max, if◌then◌else◌, slice_get, Option, Some, None, option_and_then, List, [], ◌∷◌, ◌++◌, map, fold, sum, refl, sym, ap, subst, ◌∙◌, All, arith, inl, inr}
use Rattle.std.proofs.Math.Nat.{mul_comm}
use Rattle.std.proofs.lemmas.Bool.{cases_lt}
use Rattle.std.proofs.lemmas.Nat.{mul-le}
use Rattle.std.proofs.lemmas.List.{map-append}
use Rattle.std.proofs.lemmas.List.Sums.{sum_by_push}
use Rattle.std.proofs.lemmas.List.Elements.{All-nil, All-cons, All-head, All-tail, All-append}
use Rattle.std.specs.Option.{option_map_or, unwrap_or}
use Rattle.token_bits.proofs.Sound.{All-slice_get}
use Rattle.token_bits.specs.declared.tokens.Tokens.{Tokens}
use Rattle.sled_model.specs.declared.constructor.TypeId.{TypeId}
use Rattle.sled_model.specs.declared.constructor.Constructor.{Constructor}
use Rattle.sled_model.specs.declared.pattern.Argument.{Argument}
use Rattle.sled_model.specs.declared.pattern.Argument.TheVariants.{Any, Name, Inner'}
use Rattle.sled_model.specs.declared.pattern.Pattern.{Pattern, Row_of-Pattern, end_of-Pattern, more_of-Pattern, Row_of-Argument, end_of-Argument, more_of-Argument, items-the_row-Pattern, items_hidden-the_row-Pattern-1}
use Rattle.sled_model.specs.declared.pattern.Argument.TheBlock.{hidden-the_row-Pattern-0, hidden-the_row-Pattern-1}
use denote.Hole.Carrier.{hidden}
use Rattle.sled_model.specs.declared.pattern.Pattern.TheVariants.{Token, Limit, Bind, Operand, Label', Both', Either', Chain', Loose', Apply', Empty, Both, Either, Chain, Label, Loose}
use Rattle.sled_model.specs.Measures.{Weighed, Sized, Measured, weight, row_weights, size, row_sizes, longest, row_lens, boxed_number, product, greatest, capped, each_from, weighed, type_weight, operand_weight, argument_weights, argument_weight, type_size}
use Rattle.sled_model.specs.Results.{makes}
use Rattle.sled_model.specs.Leaves.{IsNoApplication, AllLeaves, AllLeavesOfRow}

module _ (tokens : Tokens) (known : List Weighed) (operands : ℕ → ℕ) where
  row_weights-row : {n : _} (ps : Row_of-Pattern n) → row_weights tokens known operands ps ≡ map (weight tokens known operands) (items-the_row-Pattern _ ps)
  row_weights-row end_of-Pattern = refl
  row_weights-row (more_of-Pattern p ps) = ap (λ ns. weight tokens known operands p ∷ ns) (row_weights-row ps)

  weights : (ps : List Pattern) → row_weights tokens known operands (hidden-the_row-Pattern-1 ps) ≡ map (weight tokens known operands) ps
  weights ps = row_weights-row (hidden-the_row-Pattern-1 ps) ∙ ap (map (weight tokens known operands)) (items_hidden-the_row-Pattern-1 ps)

  pub weight-Both : (ps : List Pattern) → weight tokens known operands (Both ps) ≡ product (map (weight tokens known operands) ps)
  weight-Both ps = ap product (weights ps)

  pub weight-Either : (ps : List Pattern) → weight tokens known operands (Either ps) ≡ sum (map (weight tokens known operands) ps)
  weight-Either ps = ap sum (weights ps)

  pub weight-Chain : (ps : List Pattern) → weight tokens known operands (Chain ps) ≡ product (map (weight tokens known operands) ps)
  weight-Chain ps = ap product (weights ps)

  pub weight-Loose : (p : Pattern) → weight tokens known operands (Loose p) ≡ weight tokens known operands p
  unfolding hidden-the_row-Pattern-0 hidden
  weight-Loose p = refl

  pub weight-Label : (l : ℕ) (p : Pattern) → weight tokens known operands (Label l p) ≡ weight tokens known operands p
  unfolding hidden-the_row-Pattern-0 hidden
  weight-Label l p = refl

module _ (known : List Sized) (operands : ℕ → ℕ) where
  row_sizes-row : {n : _} (ps : Row_of-Pattern n) → row_sizes known operands ps ≡ map (size known operands) (items-the_row-Pattern _ ps)
  row_sizes-row end_of-Pattern = refl
  row_sizes-row (more_of-Pattern p ps) = ap (λ ns. size known operands p ∷ ns) (row_sizes-row ps)

  sizes : (ps : List Pattern) → row_sizes known operands (hidden-the_row-Pattern-1 ps) ≡ map (size known operands) ps
  sizes ps = row_sizes-row (hidden-the_row-Pattern-1 ps) ∙ ap (map (size known operands)) (items_hidden-the_row-Pattern-1 ps)

  pub size-Both : (ps : List Pattern) → size known operands (Both ps) ≡ sum (map (size known operands) ps)
  size-Both ps = ap sum (sizes ps)

  pub size-Either : (ps : List Pattern) → size known operands (Either ps) ≡ greatest (map (size known operands) ps)
  size-Either ps = ap greatest (sizes ps)

  pub size-Chain : (ps : List Pattern) → size known operands (Chain ps) ≡ sum (map (size known operands) ps)
  size-Chain ps = ap sum (sizes ps)

  pub size-Loose : (p : Pattern) → size known operands (Loose p) ≡ size known operands p
  unfolding hidden-the_row-Pattern-0 hidden
  size-Loose p = refl

  pub size-Label : (l : ℕ) (p : Pattern) → size known operands (Label l p) ≡ 1 + size known operands p
  unfolding hidden-the_row-Pattern-0 hidden
  size-Label l p = refl

module _ (tokens : Tokens) (known : List Measured) (operands : ℕ → ℕ) where
  row_lens-row : {n : _} (ps : Row_of-Pattern n) → row_lens tokens known operands ps ≡ map (longest tokens known operands) (items-the_row-Pattern _ ps)
  row_lens-row end_of-Pattern = refl
  row_lens-row (more_of-Pattern p ps) = ap (λ ns. longest tokens known operands p ∷ ns) (row_lens-row ps)

  lens : (ps : List Pattern) → row_lens tokens known operands (hidden-the_row-Pattern-1 ps) ≡ map (longest tokens known operands) ps
  lens ps = row_lens-row (hidden-the_row-Pattern-1 ps) ∙ ap (map (longest tokens known operands)) (items_hidden-the_row-Pattern-1 ps)

  pub longest-Both : (ps : List Pattern) → longest tokens known operands (Both ps) ≡ greatest (map (longest tokens known operands) ps)
  longest-Both ps = ap greatest (lens ps)

  pub longest-Either : (ps : List Pattern) → longest tokens known operands (Either ps) ≡ greatest (map (longest tokens known operands) ps)
  longest-Either ps = ap greatest (lens ps)

  pub longest-Chain : (ps : List Pattern) → longest tokens known operands (Chain ps) ≡ sum (map (longest tokens known operands) ps)
  longest-Chain ps = ap sum (lens ps)

  pub longest-Loose : (p : Pattern) → longest tokens known operands (Loose p) ≡ longest tokens known operands p
  unfolding hidden-the_row-Pattern-0 hidden
  longest-Loose p = refl

  pub longest-Label : (l : ℕ) (p : Pattern) → longest tokens known operands (Label l p) ≡ longest tokens known operands p
  unfolding hidden-the_row-Pattern-0 hidden
  longest-Label l p = refl

module _ (P : Pattern → Type 0) where
  AllLeavesOfRow-row : {n : _} (ps : Row_of-Pattern n) → AllLeavesOfRow P ps → All (AllLeaves P) (items-the_row-Pattern _ ps)
  AllLeavesOfRow-row end_of-Pattern h = All-nil (AllLeaves P)
  AllLeavesOfRow-row (more_of-Pattern p ps) h = All-cons (AllLeaves P) p (items-the_row-Pattern _ ps) h.0 (AllLeavesOfRow-row ps h.1)

  leaves : (ps : List Pattern) → AllLeavesOfRow P (hidden-the_row-Pattern-1 ps) → All (AllLeaves P) ps
  leaves ps h = subst (λ xs. All (AllLeaves P) xs) (items_hidden-the_row-Pattern-1 ps) (AllLeavesOfRow-row (hidden-the_row-Pattern-1 ps) h)

  AllLeavesOfRow-from : {n : _} (ps : Row_of-Pattern n) → All (AllLeaves P) (items-the_row-Pattern _ ps) → AllLeavesOfRow P ps
  AllLeavesOfRow-from end_of-Pattern h = tt
  AllLeavesOfRow-from (more_of-Pattern p ps) h = (All-head (AllLeaves P) p (items-the_row-Pattern _ ps) h, AllLeavesOfRow-from ps (All-tail (AllLeaves P) p (items-the_row-Pattern _ ps) h))

  from_leaves : (ps : List Pattern) → All (AllLeaves P) ps → AllLeavesOfRow P (hidden-the_row-Pattern-1 ps)
  from_leaves ps h = AllLeavesOfRow-from (hidden-the_row-Pattern-1 ps) (subst (λ xs. All (AllLeaves P) xs) (sym (items_hidden-the_row-Pattern-1 ps)) h)

  pub AllLeaves-Both : (ps : List Pattern) → AllLeaves P (Both ps) → All (AllLeaves P) ps
  AllLeaves-Both ps h = leaves ps h

  pub AllLeaves-Either : (ps : List Pattern) → AllLeaves P (Either ps) → All (AllLeaves P) ps
  AllLeaves-Either ps h = leaves ps h

  pub AllLeaves-Chain : (ps : List Pattern) → AllLeaves P (Chain ps) → All (AllLeaves P) ps
  AllLeaves-Chain ps h = leaves ps h

  pub AllLeaves-to_Both : (ps : List Pattern) → All (AllLeaves P) ps → AllLeaves P (Both ps)
  AllLeaves-to_Both ps h = from_leaves ps h

  pub AllLeaves-to_Either : (ps : List Pattern) → All (AllLeaves P) ps → AllLeaves P (Either ps)
  AllLeaves-to_Either ps h = from_leaves ps h

  pub AllLeaves-to_Chain : (ps : List Pattern) → All (AllLeaves P) ps → AllLeaves P (Chain ps)
  AllLeaves-to_Chain ps h = from_leaves ps h

  pub AllLeaves-Loose : (p : Pattern) → AllLeaves P (Loose p) → AllLeaves P p
  unfolding hidden-the_row-Pattern-0 hidden
  AllLeaves-Loose p h = h.0

  pub AllLeaves-Label : (l : ℕ) (p : Pattern) → AllLeaves P (Label l p) → AllLeaves P p
  unfolding hidden-the_row-Pattern-0 hidden
  AllLeaves-Label l p h = h.0

  pub AllLeaves-to_Loose : (p : Pattern) → AllLeaves P p → AllLeaves P (Loose p)
  unfolding hidden-the_row-Pattern-0 hidden
  AllLeaves-to_Loose p h = (h, tt)

  pub AllLeaves-to_Label : (l : ℕ) (p : Pattern) → AllLeaves P p → AllLeaves P (Label l p)
  unfolding hidden-the_row-Pattern-0 hidden
  AllLeaves-to_Label l p h = (h, tt)

-- ---- one constructor more

module _ {A : Type 0} (f : List A → Constructor → A) where
  pub each_from_push : (known : List A) (cs : List Constructor) (c : Constructor)
      → each_from f known (cs ++ c ∷ []) ≡ each_from f known cs ++ f (each_from f known cs) c ∷ []
  each_from_push known [] c = refl
  each_from_push known (d ∷ ds) c = each_from_push (known ++ f known d ∷ []) ds c

pub type_weight_push : (known : List Weighed) (w : Weighed) (t : TypeId)
    → type_weight (known ++ w ∷ []) t ≡ type_weight known t + (if makes t w.constructor.result then w.weight else 0)
type_weight_push known w t = sum_by_push (λ (c : Weighed). if makes t c.constructor.result then c.weight else 0) known w

greatest_push : (a : ℕ) (ns : List ℕ) (n : ℕ) → fold max a (ns ++ n ∷ []) ≡ max (fold max a ns) n
greatest_push a [] n = refl
greatest_push a (m ∷ ms) n = greatest_push (max a m) ms n

pub type_size_push : (known : List Sized) (w : Sized) (t : TypeId)
    → type_size (known ++ w ∷ []) t ≡ max (type_size known t) (if makes t w.constructor.result then w.size else 0)
type_size_push known w t =
    let f = λ (c : Sized). if makes t c.constructor.result then c.size else 0 in
    ap greatest (map-append f known (w ∷ [])) ∙ greatest_push 0 (map f known) (f w)

-- ---- a pattern without applications has its measures from those of its operands alone

module _ (tokens : Tokens) (known others : List Weighed) (f : ℕ → ℕ) where
  mutual
    pub weight_unapplied : (p : Pattern) → AllLeaves IsNoApplication p → weight tokens known f p ≡ weight tokens others f p
    weight_unapplied (Token c) h = refl
    weight_unapplied (Limit g relation limit) h = refl
    weight_unapplied (Bind g) h = refl
    weight_unapplied (Operand k) h = refl
    weight_unapplied (Label' l s p) h = ap boxed_number (weights_unapplied p h)
    weight_unapplied (Both' s ps) h = ap product (weights_unapplied ps h)
    weight_unapplied (Either' s ps) h = ap sum (weights_unapplied ps h)
    weight_unapplied (Chain' s ps) h = ap product (weights_unapplied ps h)
    weight_unapplied (Loose' s p) h = ap boxed_number (weights_unapplied p h)
    weight_unapplied (Apply' k s arguments) h = absurd h
    weight_unapplied Empty h = refl

    weights_unapplied : {n : _} (ps : Row_of-Pattern n) → AllLeavesOfRow IsNoApplication ps → row_weights tokens known f ps ≡ row_weights tokens others f ps
    weights_unapplied end_of-Pattern h = refl
    weights_unapplied (more_of-Pattern p ps) h = ap (λ n. n ∷ row_weights tokens known f ps) (weight_unapplied p h.0) ∙ ap (λ ns. weight tokens others f p ∷ ns) (weights_unapplied ps h.1)

module _ (known others : List Sized) (f : ℕ → ℕ) where
  mutual
    pub size_unapplied : (p : Pattern) → AllLeaves IsNoApplication p → size known f p ≡ size others f p
    size_unapplied (Token c) h = refl
    size_unapplied (Limit g relation limit) h = refl
    size_unapplied (Bind g) h = refl
    size_unapplied (Operand k) h = refl
    size_unapplied (Label' l s p) h = ap (λ ns. 1 + boxed_number ns) (sizes_unapplied p h)
    size_unapplied (Both' s ps) h = ap sum (sizes_unapplied ps h)
    size_unapplied (Either' s ps) h = ap greatest (sizes_unapplied ps h)
    size_unapplied (Chain' s ps) h = ap sum (sizes_unapplied ps h)
    size_unapplied (Loose' s p) h = ap boxed_number (sizes_unapplied p h)
    size_unapplied (Apply' k s arguments) h = absurd h
    size_unapplied Empty h = refl

    sizes_unapplied : {n : _} (ps : Row_of-Pattern n) → AllLeavesOfRow IsNoApplication ps → row_sizes known f ps ≡ row_sizes others f ps
    sizes_unapplied end_of-Pattern h = refl
    sizes_unapplied (more_of-Pattern p ps) h = ap (λ n. n ∷ row_sizes known f ps) (size_unapplied p h.0) ∙ ap (λ ns. size others f p ∷ ns) (sizes_unapplied ps h.1)

-- ---- measures of operands that are capped before: nothing is lost

abbrev SameCapped : List ℕ → List ℕ → Type 0
SameCapped [] [] = Unit {0}
SameCapped (m ∷ ms) (n ∷ ns) = (capped m ≡ capped n) × SameCapped ms ns
SameCapped _ _ = ⊥

boxed_capped : (ms ns : List ℕ) → SameCapped ms ns → capped (boxed_number ms) ≡ capped (boxed_number ns)
boxed_capped [] [] h = refl
boxed_capped [] (n ∷ ns) h = absurd h
boxed_capped (m ∷ ms) [] h = absurd h
boxed_capped (m ∷ ms) (n ∷ ns) h = h.0

sum_capped : (a b : ℕ) (ms ns : List ℕ) → capped a ≡ capped b → SameCapped ms ns → capped (fold (λ m n. m + n) a ms) ≡ capped (fold (λ m n. m + n) b ns)
sum_capped a b [] [] e h = e
sum_capped a b [] (n ∷ ns) e h = absurd h
sum_capped a b (m ∷ ms) [] e h = absurd h
sum_capped a b (m ∷ ms) (n ∷ ns) e h = sum_capped (a + m) (b + n) ms ns (let d = h.0 in omega (arith, e, d)) h.1

greatest_capped : (a b : ℕ) (ms ns : List ℕ) → capped a ≡ capped b → SameCapped ms ns → capped (fold max a ms) ≡ capped (fold max b ns)
greatest_capped a b [] [] e h = e
greatest_capped a b [] (n ∷ ns) e h = absurd h
greatest_capped a b (m ∷ ms) [] e h = absurd h
greatest_capped a b (m ∷ ms) (n ∷ ns) e h = greatest_capped (max a m) (max b n) ms ns (let d = h.0 in omega (arith, e, d)) h.1

-- a factor above the cap gives a product above it, or 0
capped_factor : (a b m : ℕ) → capped a ≡ capped b → capped (a * m) ≡ capped (b * m)
capped_factor a b zero e = omega arith
capped_factor a b (suc m) e = elim (cases_lt a 1000000) [
  | inl small ↦ (let same : a ≡ b = omega (arith, e, small) in ap (λ n. capped (n * suc m)) same)
  | inr great ↦ (let p = mul-le 1000000 1 a (suc m) great (omega arith) in let q = mul-le 1000000 1 b (suc m) (omega (arith, e, great)) (omega arith) in omega (arith, p, q))
]

capped_factors : (a b m n : ℕ) → capped a ≡ capped b → capped m ≡ capped n → capped (a * m) ≡ capped (b * n)
capped_factors a b m n e d = capped_factor a b m e ∙ ap capped (mul_comm b m) ∙ capped_factor m n b d ∙ ap capped (mul_comm n b)

product_capped : (a b : ℕ) (ms ns : List ℕ) → capped a ≡ capped b → SameCapped ms ns → capped (fold (λ m n. m * n) a ms) ≡ capped (fold (λ m n. m * n) b ns)
product_capped a b [] [] e h = e
product_capped a b [] (n ∷ ns) e h = absurd h
product_capped a b (m ∷ ms) [] e h = absurd h
product_capped a b (m ∷ ms) (n ∷ ns) e h = product_capped (a * m) (b * n) ms ns (capped_factors a b m n e h.0) h.1

capped_twice : (n : ℕ) → capped (capped n) ≡ capped n
capped_twice n = omega arith

-- a body whose weight, up to the cap, needs its operands' up to the cap alone
abbrev KeepsCap : Weighed → Type 0
KeepsCap w = (f g : ℕ → ℕ) → ((k : ℕ) → capped (f k) ≡ capped (g k)) → capped (w.body f) ≡ capped (w.body g)

-- the weight of an argument, or of its operand where it is no application
abbrev argument_or : List (Option ℕ) → ℕ → ℕ → ℕ
argument_or arguments j other = unwrap_or (option_and_then (λ a. a) (slice_get arguments j)) other

abbrev SameArguments : List (Option ℕ) → List (Option ℕ) → Type 0
SameArguments xs ys = (j other : ℕ) → capped (argument_or xs j other) ≡ capped (argument_or ys j other)

more_arguments : (a b : Option ℕ) (xs ys : List (Option ℕ)) → ((other : ℕ) → capped (unwrap_or a other) ≡ capped (unwrap_or b other)) → SameArguments xs ys → SameArguments (a ∷ xs) (b ∷ ys)
more_arguments a b xs ys h hs zero other = h other
more_arguments a b xs ys h hs (suc j) other = hs j other

applied : (known : List Weighed) (o : Option Weighed) (xs ys : List (Option ℕ)) → ((w : Weighed) → o ≡ Some w → KeepsCap w) → SameArguments xs ys
    → capped (option_map_or (λ (c : Weighed). c.body (λ j. argument_or xs j (operand_weight known c.constructor.operands j))) o 0)
    ≡ capped (option_map_or (λ (c : Weighed). c.body (λ j. argument_or ys j (operand_weight known c.constructor.operands j))) o 0)
applied known None xs ys keep h = refl
applied known (Some w) xs ys keep h = keep w refl _ _ (λ j. h j (operand_weight known w.constructor.operands j))

module _ (tokens : Tokens) (known : List Weighed) (keep : All KeepsCap known) (f g : ℕ → ℕ) (same : (k : ℕ) → capped (f k) ≡ capped (g k)) where
  mutual
    weight_over_same : (p : Pattern) → capped (weight tokens known f p) ≡ capped (weight tokens known g p)
    weight_over_same (Token c) = refl
    weight_over_same (Limit h relation limit) = refl
    weight_over_same (Bind h) = refl
    weight_over_same (Operand k) = same k
    weight_over_same (Label' l s p) = boxed_capped _ _ (weights_over_same p)
    weight_over_same (Both' s ps) = product_capped 1 1 _ _ refl (weights_over_same ps)
    weight_over_same (Either' s ps) = sum_capped 0 0 _ _ refl (weights_over_same ps)
    weight_over_same (Chain' s ps) = product_capped 1 1 _ _ refl (weights_over_same ps)
    weight_over_same (Loose' s p) = boxed_capped _ _ (weights_over_same p)
    weight_over_same (Apply' k s arguments) = applied known (slice_get known k.0) _ _ (λ w e. All-slice_get KeepsCap known k.0 w e keep) (arguments_over_same arguments)
    weight_over_same Empty = refl

    weights_over_same : {n : _} (ps : Row_of-Pattern n) → SameCapped (row_weights tokens known f ps) (row_weights tokens known g ps)
    weights_over_same end_of-Pattern = tt
    weights_over_same (more_of-Pattern p ps) = (weight_over_same p, weights_over_same ps)

    arguments_over_same : {n : _} (arguments : Row_of-Argument n) → SameArguments (argument_weights tokens known f arguments) (argument_weights tokens known g arguments)
    arguments_over_same end_of-Argument = λ j other. refl
    arguments_over_same (more_of-Argument a arguments) = more_arguments _ _ _ _ (argument_over_same a) (arguments_over_same arguments)

    argument_over_same : (a : Argument) (other : ℕ) → capped (unwrap_or (argument_weight tokens known f a) other) ≡ capped (unwrap_or (argument_weight tokens known g a) other)
    argument_over_same Any other = refl
    argument_over_same (Name k) other = refl
    argument_over_same (Inner' s p) other = boxed_capped _ _ (weights_over_same p)

all_keep_cap : (tokens : Tokens) (known : List Weighed) → All KeepsCap known → (cs : List Constructor) → All KeepsCap (each_from (weighed tokens) known cs)
all_keep_cap tokens known keep [] = keep
all_keep_cap tokens known keep (c ∷ cs) =
    let w = weighed tokens known c in
    let kept : KeepsCap w = λ f g same. weight_over_same tokens known keep f g same c.body in
    all_keep_cap tokens (known ++ w ∷ []) (All-append KeepsCap known (w ∷ []) keep (All-cons KeepsCap w [] kept (All-nil KeepsCap))) cs

-- the weight of a pattern over constructors, with applications too
module _ (tokens : Tokens) (cs : List Constructor) (f : ℕ → ℕ) where
  pub weight_same_capped : (g : ℕ → ℕ) → ((k : ℕ) → capped (f k) ≡ capped (g k)) → (p : Pattern)
      → capped (weight tokens (each_from (weighed tokens) [] cs) f p) ≡ capped (weight tokens (each_from (weighed tokens) [] cs) g p)
  weight_same_capped g same p = weight_over_same tokens (each_from (weighed tokens) [] cs) (all_keep_cap tokens [] (All-nil KeepsCap) cs) f g same p

  pub weight_capped : (p : Pattern) → capped (weight tokens (each_from (weighed tokens) [] cs) (λ k. capped (f k)) p) ≡ capped (weight tokens (each_from (weighed tokens) [] cs) f p)
  weight_capped p = sym (weight_same_capped (λ k. capped (f k)) (λ k. sym (capped_twice (f k))) p)

-- an application has the size of its constructor, whatever the operands have
module _ (known : List Sized) (f g : ℕ → ℕ) (same : (k : ℕ) → capped (f k) ≡ capped (g k)) where
  mutual
    pub size_same_capped : (p : Pattern) → capped (size known f p) ≡ capped (size known g p)
    size_same_capped (Token c) = refl
    size_same_capped (Limit h relation limit) = refl
    size_same_capped (Bind h) = refl
    size_same_capped (Operand k) = same k
    size_same_capped (Label' l s p) = (let d = boxed_capped _ _ (sizes_same_capped p) in omega (arith, d))
    size_same_capped (Both' s ps) = sum_capped 0 0 _ _ refl (sizes_same_capped ps)
    size_same_capped (Either' s ps) = greatest_capped 0 0 _ _ refl (sizes_same_capped ps)
    size_same_capped (Chain' s ps) = sum_capped 0 0 _ _ refl (sizes_same_capped ps)
    size_same_capped (Loose' s p) = boxed_capped _ _ (sizes_same_capped p)
    size_same_capped (Apply' k s arguments) = refl
    size_same_capped Empty = refl

    sizes_same_capped : {n : _} (ps : Row_of-Pattern n) → SameCapped (row_sizes known f ps) (row_sizes known g ps)
    sizes_same_capped end_of-Pattern = tt
    sizes_same_capped (more_of-Pattern p ps) = (size_same_capped p, sizes_same_capped ps)

pub size_capped : (known : List Sized) (f : ℕ → ℕ) (p : Pattern) → capped (size known (λ k. capped (f k)) p) ≡ capped (size known f p)
size_capped known f p = size_same_capped known (λ k. capped (f k)) f (λ k. capped_twice (f k)) p
