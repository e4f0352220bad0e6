-- Where no application holds another, the open weight of a pattern is no more than its weight.
use Rattle.std.proofs.Common.{◌≡◌, ℕ, zero, suc, ◌+◌, ◌*◌, ◌≤◌, cond, List, [], ◌∷◌, ◌++◌, take, drop, slice_get, sum_by, Option, Some, None, refl, sym, ap, subst, ◌∙◌, All, arith}
use Rattle.std.specs.Prelude.{unwrap_or, option_and_then}
use Rattle.std.specs.List.{fold, AllZip}
use Rattle.std.specs.Option.{option_map_or}
use Rattle.std.proofs.Math.Path.{fun_ext}
use Rattle.std.proofs.lemmas.Nat.{mul-le}
use Rattle.std.proofs.lemmas.List.{take-append-drop}
use Rattle.std.proofs.lemmas.List.Sums.{sum_by-cons}
use Rattle.std.proofs.lemmas.List.Elements.{All-head, All-tail, All-get_or}
use Rattle.std.proofs.lemmas.Option.{slice_get_within, get_or_from_slice_get}
use Rattle.token_bits.specs.declared.tokens.Tokens.{Tokens}
use Rattle.sled_model.specs.declared.spec.Spec.{Spec}
use Rattle.sled_model.specs.declared.constructor.TypeId.{TypeId}
use Rattle.sled_model.specs.declared.constructor.OperandKind.{OperandKind}
use Rattle.sled_model.specs.declared.constructor.OperandKind.TheVariants.{Plain, Extended, Typed, Whole, Sliced}
use Rattle.sled_model.specs.declared.constructor.Constructor.{Constructor}
use Rattle.sled_model.specs.declared.pattern.Argument.TheVariants.{Any, Name, Inner'}
use Rattle.sled_model.specs.declared.pattern.Pattern.{Pattern, Row_of-Pattern, end_of-Pattern, more_of-Pattern, Row_of-Argument, end_of-Argument, more_of-Argument}
use Rattle.sled_model.specs.declared.pattern.Pattern.TheVariants.{Token, Limit, Bind, Operand, Label', Both', Either', Chain', Loose', Apply', Empty}
use Rattle.sled_model.specs.Results.{makes}
use Rattle.sled_model.specs.Leaves.{AllLeaves, AllLeavesOfRow, IsNoApplication}
use Rattle.sled_model.specs.Measures.{Weighed, each_from, weighed, weight, row_weights, argument_weights, boxed_number, kind_weight, operand_weight, type_weight, application_weight, pattern_weight}
use Rattle.sled_model.proofs.MeasureLaws as law
use Rattle.pattern_normal.specs.Operands.{ApplyNothing}
use Rattle.pattern_normal.specs.Surroundings.{open_weighed, open_weights}
use Rattle.pattern_normal.specs.Arms.{AreOpen, IsOpenLeaf, HasWholeWeight, open_pattern_weight}
use Rattle.pattern_normal.proofs.Pairs.{All-split}
use Rattle.pattern_normal.proofs.Constructors.{each_at, each_past}
use Rattle.pattern_normal.proofs.Choosing.{applied_weight, unapplied_weight}

-- ---- numbers that are no more than others

abbrev AllBelow : List ℕ → List ℕ → Type 0
AllBelow ms ns = AllZip (λ m n. m ≤ n) ms ns

product_below : (a b : ℕ) (ms ns : List ℕ) → a ≤ b → AllBelow ms ns → fold (λ m n. m * n) a ms ≤ fold (λ m n. m * n) b ns
product_below a b [] [] h g = h
product_below a b [] (n ∷ ns) h g = absurd g
product_below a b (m ∷ ms) [] h g = absurd g
product_below a b (m ∷ ms) (n ∷ ns) h g = product_below (a * m) (b * n) ms ns (mul-le a m b n h g.0) g.1

sum_below : (a b : ℕ) (ms ns : List ℕ) → a ≤ b → AllBelow ms ns → fold (λ m n. m + n) a ms ≤ fold (λ m n. m + n) b ns
sum_below a b [] [] h g = h
sum_below a b [] (n ∷ ns) h g = absurd g
sum_below a b (m ∷ ms) [] h g = absurd g
sum_below a b (m ∷ ms) (n ∷ ns) h g = sum_below (a + m) (b + n) ms ns (let d = g.0 in omega (arith, h, d)) g.1

boxed_below : (ms ns : List ℕ) → AllBelow ms ns → boxed_number ms ≤ boxed_number ns
boxed_below [] [] g = omega arith
boxed_below [] (n ∷ ns) g = absurd g
boxed_below (m ∷ ms) [] g = absurd g
boxed_below (m ∷ ms) (n ∷ ns) g = g.0

abbrev IsApplication : Pattern → Type 0
IsApplication (Apply' k s arguments) = Unit {0}
IsApplication _ = ⊥

module _ (tokens : Tokens) (known others : List Weighed) (f g : ℕ → ℕ) (operand : (k : ℕ) → f k ≤ g k) (P : Pattern → Type 0)
    (application : (p : Pattern) → IsApplication p → P p → weight tokens known f p ≤ weight tokens others g p) where
  mutual
    below : (p : Pattern) → AllLeaves P p → weight tokens known f p ≤ weight tokens others g p
    below (Token c) h = omega arith
    below (Limit x relation limit) h = omega arith
    below (Bind x) h = omega arith
    below (Operand k) h = operand k
    below (Label' l s p) h = boxed_below (row_weights tokens known f p) (row_weights tokens others g p) (rows_below p h)
    below (Both' s ps) h = product_below 1 1 (row_weights tokens known f ps) (row_weights tokens others g ps) (omega arith) (rows_below ps h)
    below (Either' s ps) h = sum_below 0 0 (row_weights tokens known f ps) (row_weights tokens others g ps) (omega arith) (rows_below ps h)
    below (Chain' s ps) h = product_below 1 1 (row_weights tokens known f ps) (row_weights tokens others g ps) (omega arith) (rows_below ps h)
    below (Loose' s p) h = boxed_below (row_weights tokens known f p) (row_weights tokens others g p) (rows_below p h)
    below (Apply' k s arguments) h = application (Apply' k s arguments) tt h
    below Empty h = omega arith

    rows_below : {n : _} (ps : Row_of-Pattern n) → AllLeavesOfRow P ps → AllBelow (row_weights tokens known f ps) (row_weights tokens others g ps)
    rows_below end_of-Pattern h = tt
    rows_below (more_of-Pattern p ps) h = (below p h.0, rows_below ps h.1)

no_application : (p : Pattern) → IsApplication p → IsNoApplication p → ⊥
no_application (Apply' k s arguments) a h = h
no_application (Token c) a h = a
no_application (Limit x relation limit) a h = a
no_application (Bind x) a h = a
no_application (Operand k) a h = a
no_application (Label' l s p) a h = a
no_application (Both' s ps) a h = a
no_application (Either' s ps) a h = a
no_application (Chain' s ps) a h = a
no_application (Loose' s p) a h = a
no_application Empty a h = a

-- a body with operands of more weight has more weight
body_below : (tokens : Tokens) (known : List Weighed) (f g : ℕ → ℕ) → ((k : ℕ) → f k ≤ g k) → (p : Pattern) → AllLeaves IsNoApplication p → weight tokens known f p ≤ weight tokens known g p
body_below tokens known f g operand = below tokens known known f g operand IsNoApplication (λ p a h. absurd (no_application p a h))

-- ---- constructors of one weight

abbrev IsAlike : Weighed → Weighed → Type 0
IsAlike x y = (x.constructor ≡ y.constructor) × (x.weight ≡ y.weight)

abbrev Alike : List Weighed → List Weighed → Type 0
Alike ws vs = AllZip IsAlike ws vs

type_alike : (ws vs : List Weighed) (t : TypeId) → Alike ws vs → type_weight ws t ≡ type_weight vs t
type_alike [] [] t h = refl
type_alike [] (y ∷ vs) t h = absurd h
type_alike (x ∷ ws) [] t h = absurd h
type_alike (x ∷ ws) (y ∷ vs) t h =
    let f = λ (c : Weighed). cond (makes t c.constructor.result) c.weight 0 in
    let here : f x ≡ f y = ap (λ (c : Constructor). cond (makes t c.result) x.weight 0) h.0.0 ∙ ap (λ n. cond (makes t y.constructor.result) n 0) h.0.1 in
    sum_by-cons f x ws ∙ ap (λ n. n + sum_by f ws) here ∙ ap (λ n. f y + n) (type_alike ws vs t h.1) ∙ sym (sum_by-cons f y vs)

kind_alike : (ws vs : List Weighed) → Alike ws vs → (o : Option OperandKind) → option_map_or (kind_weight ws) o 0 ≡ option_map_or (kind_weight vs) o 0
kind_alike ws vs h None = refl
kind_alike ws vs h (Some (Plain f)) = refl
kind_alike ws vs h (Some (Extended f)) = refl
kind_alike ws vs h (Some (Typed t)) = type_alike ws vs t h
kind_alike ws vs h (Some Whole) = refl
kind_alike ws vs h (Some Sliced) = refl

-- the body without applications of a constructor that comes after these
next_alike : (tokens : Tokens) (ws vs : List Weighed) (c : Constructor) → Alike ws vs → AllLeaves IsNoApplication c.body
    → weight tokens ws (operand_weight ws c.operands) c.body ≡ weight tokens vs (operand_weight vs c.operands) c.body
next_alike tokens ws vs c h plain =
    law.weight_unapplied tokens ws vs (operand_weight ws c.operands) c.body plain
    ∙ ap (λ f. weight tokens vs f c.body) (fun_ext (λ k. kind_alike ws vs h (slice_get c.operands k)))

alike_push : (ws vs : List Weighed) (x y : Weighed) → Alike ws vs → IsAlike x y → Alike (ws ++ x ∷ []) (vs ++ y ∷ [])
alike_push [] [] x y h e = (e, tt)
alike_push [] (v ∷ vs) x y h e = absurd h
alike_push (w ∷ ws) [] x y h e = absurd h
alike_push (w ∷ ws) (v ∷ vs) x y h e = (h.0, alike_push ws vs x y h.1 e)

all_alike : (tokens : Tokens) (ws vs : List Weighed) (cs : List Constructor) → Alike ws vs → ApplyNothing cs → Alike (each_from (open_weighed tokens) ws cs) (each_from (weighed tokens) vs cs)
all_alike tokens ws vs [] h plain = h
all_alike tokens ws vs (c ∷ cs) h plain =
    let P = λ (d : Constructor). AllLeaves IsNoApplication d.body in
    all_alike tokens (ws ++ open_weighed tokens ws c ∷ []) (vs ++ weighed tokens vs c ∷ []) cs
    (alike_push ws vs (open_weighed tokens ws c) (weighed tokens vs c) h (refl, next_alike tokens ws vs c h (All-head P c cs plain))) (All-tail P c cs plain)

-- ---- a type over more constructors

type_grows : (tokens : Tokens) (known : List Weighed) (cs : List Constructor) (t : TypeId) → type_weight known t ≤ type_weight (each_from (weighed tokens) known cs) t
type_grows tokens known [] t = omega arith
type_grows tokens known (c ∷ cs) t =
    let x = weighed tokens known c in
    let more = law.type_weight_push known x t in let rest = type_grows tokens (known ++ x ∷ []) cs t in omega (arith, more, rest)

each_join : (tokens : Tokens) (known : List Weighed) (xs ys : List Constructor) → each_from (weighed tokens) known (xs ++ ys) ≡ each_from (weighed tokens) (each_from (weighed tokens) known xs) ys
each_join tokens known [] ys = refl
each_join tokens known (x ∷ xs) ys = each_join tokens (known ++ weighed tokens known x ∷ []) xs ys

first_types : (tokens : Tokens) (cs : List Constructor) (k : ℕ) (t : TypeId) → type_weight (each_from (weighed tokens) [] (take k cs)) t ≤ type_weight (each_from (weighed tokens) [] cs) t
first_types tokens cs k t =
    let first = each_from (weighed tokens) [] (take k cs) in
    subst (λ ws. type_weight first t ≤ type_weight ws t) (sym (each_join tokens [] (take k cs) (drop k cs)) ∙ ap (each_from (weighed tokens) []) (take-append-drop k cs))
    (type_grows tokens first (drop k cs) t)

first_kinds : (tokens : Tokens) (cs : List Constructor) (k : ℕ) (o : Option OperandKind)
    → option_map_or (kind_weight (each_from (weighed tokens) [] (take k cs))) o 0 ≤ option_map_or (kind_weight (each_from (weighed tokens) [] cs)) o 0
first_kinds tokens cs k None = omega arith
first_kinds tokens cs k (Some (Plain f)) = omega arith
first_kinds tokens cs k (Some (Extended f)) = omega arith
first_kinds tokens cs k (Some (Typed t)) = first_types tokens cs k t
first_kinds tokens cs k (Some Whole) = omega arith
first_kinds tokens cs k (Some Sliced) = omega arith

-- ---- applications that ask nothing

open_at : {n : _} (tokens : Tokens) (known : List Weighed) (f : ℕ → ℕ) (arguments : Row_of-Argument n) → AreOpen arguments → (j : ℕ)
    → option_and_then (λ a. a) (slice_get (argument_weights tokens known f arguments) j) ≡ None
open_at tokens known f end_of-Argument h j = refl
open_at tokens known f (more_of-Argument Any arguments) h zero = refl
open_at tokens known f (more_of-Argument (Name m) arguments) h zero = refl
open_at tokens known f (more_of-Argument (Inner' s p) arguments) h zero = absurd h.0
open_at tokens known f (more_of-Argument a arguments) h (suc j) = open_at tokens known f arguments h.1 j

module _ (spec : Spec) where
  abbrev T : Tokens
  T = spec.tokens

  abbrev opens : List Weighed
  opens = open_weights T spec.constructors

  abbrev wholes : List Weighed
  wholes = each_from (weighed T) [] spec.constructors

  application_below : (k : ℕ) (ws vs : List (Option ℕ)) → ((j : ℕ) → option_and_then (λ a. a) (slice_get vs j) ≡ None) → ApplyNothing spec.constructors
      → (o : Option Constructor) → slice_get spec.constructors k ≡ o → application_weight opens k ws ≤ application_weight wholes k vs
  application_below k ws vs none plain None e =
      let one = unapplied_weight opens k ws (each_past (open_weighed T) spec.constructors k e) in omega (arith, one)
  application_below k ws vs none plain (Some c) e =
      let cs = spec.constructors in let P = λ (d : Constructor). AllLeaves IsNoApplication d.body in
      let os = open_weights T (take k cs) in let us = each_from (weighed T) [] (take k cs) in
      let before : ApplyNothing (take k cs) = (All-split P (take k cs) (drop k cs) (subst (λ ds. All P ds) (sym (take-append-drop k cs)) plain)).0 in
      let body : AllLeaves IsNoApplication c.body = subst P (get_or_from_slice_get cs k c c e) (All-get_or P cs k c (slice_get_within cs k c e) plain) in
      let g = λ (j : ℕ). unwrap_or (option_and_then (λ a. a) (slice_get vs j)) (operand_weight wholes c.operands j) in
      let one : application_weight opens k ws ≡ weight T os (operand_weight os c.operands) c.body = applied_weight opens k ws _ (each_at (open_weighed T) cs k c e) in
      let two : application_weight wholes k vs ≡ weight T us g c.body = applied_weight wholes k vs _ (each_at (weighed T) cs k c e) in
      let same : weight T os (operand_weight os c.operands) c.body ≡ weight T us (operand_weight us c.operands) c.body = next_alike T os us c (all_alike T [] [] (take k cs) tt before) body in
      let more : weight T us (operand_weight us c.operands) c.body ≤ weight T us g c.body =
      body_below T us (operand_weight us c.operands) g
      (λ j. subst (λ o. operand_weight us c.operands j ≤ unwrap_or o (operand_weight wholes c.operands j)) (sym (none j)) (first_kinds T cs k (slice_get c.operands j))) c.body body in
      omega (arith, one, two, same, more)

  leaf_below : (p : Pattern) → IsApplication p → IsOpenLeaf spec p → weight T opens (operand_weight opens []) p ≤ weight T wholes (λ k. 0) p
  leaf_below (Apply' k s arguments) a h =
      application_below k.0 (argument_weights T opens (operand_weight opens []) arguments) (argument_weights T wholes (λ k. 0) arguments)
      (open_at T wholes (λ k. 0) arguments h.0) h.1 (slice_get spec.constructors k.0) refl
  leaf_below (Token c) a h = absurd a
  leaf_below (Limit x relation limit) a h = absurd a
  leaf_below (Bind x) a h = absurd a
  leaf_below (Operand k) a h = absurd a
  leaf_below (Label' l s p) a h = absurd a
  leaf_below (Both' s ps) a h = absurd a
  leaf_below (Either' s ps) a h = absurd a
  leaf_below (Chain' s ps) a h = absurd a
  leaf_below (Loose' s p) a h = absurd a
  leaf_below Empty a h = absurd a

  pub open_below : (p : Pattern) → HasWholeWeight spec p → open_pattern_weight spec p ≤ pattern_weight spec p
  open_below = below T opens wholes (operand_weight opens []) (λ k. 0) (λ k. omega arith) (IsOpenLeaf spec) leaf_below
