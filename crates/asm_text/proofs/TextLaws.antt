-- The texts of instances, seen as lists.
use Rattle.std.proofs.Common.{◌≡◌, ℕ, suc, ◌+◌, ◌<◌, ◌≤◌, List, [], ◌∷◌, ◌++◌, length, take, map, refl, sym, ap, ◌∙◌, append_assoc, Some, slice_get, get_or, drop, arith}
use Rattle.std.specs.Prelude.{if◌then◌else◌}
use Rattle.std.proofs.lemmas.Bool.{ne_eqb}
use Rattle.std.specs.List.{flat_map}
use Rattle.std.specs.Option.{option_map_or}
use Rattle.std.proofs.lemmas.List.{append-nil, map-append, take_more, take-append-drop, length-map, length-take-le}
use Rattle.std.proofs.lemmas.List.Concat.{flat_map-append}
use Rattle.sled_model.specs.declared.constructor.Constructor.{Constructor}
use Rattle.sled_model.specs.declared.constructor.ConstructorId.{ConstructorId}
use Rattle.sled_model.specs.declared.instance.Instance.{Instance}
use Rattle.sled_model.specs.declared.instance.Operand.{Operand, Row_of-Operand, end_of-Operand, more_of-Operand, items-the_row-Operand, items_hidden-the_row-Operand-0}
use Rattle.sled_model.specs.declared.instance.Operand.TheBlock.{hidden-the_row-Instance-1, hidden-the_row-Operand-0}
use denote.Hole.Carrier.{hidden}
use Rattle.sled_model.specs.declared.instance.Operand.TheVariants.{Sub}
use Rattle.sled_model.specs.declared.spec.Spec.{Spec}
use Rattle.asm_text.specs.Prefixes.{AppendsPrefix}
use Rattle.asm_text.proofs.PrefixLemmas.{prefix_first, prefix_then, prefix_same}
use Rattle.asm_text.specs.Instances.{constructor_name, separator, separator_before, joined, applied_text, operand_text, row_texts, instance_text}

-- the name of a known constructor
pub constructor_name-known : (spec : Spec) (k : ConstructorId) (c : Constructor) (name : List ℕ) → slice_get spec.constructors k.0 ≡ Some c → name ≡ c.name → name ≡ constructor_name spec k
constructor_name-known spec k c name known same = same ∙ sym (ap (λ o. option_map_or (λ (c : Constructor). c.name) o []) known)

row_texts-row : {n : _} (spec : Spec) (os : Row_of-Operand n) → row_texts spec os ≡ map (operand_text spec) (items-the_row-Operand _ os)
row_texts-row spec end_of-Operand = refl
row_texts-row spec (more_of-Operand o os) = ap (λ ts. operand_text spec o ∷ ts) (row_texts-row spec os)

-- an operand that is an instance is written as such
pub operand_text-Sub : (spec : Spec) (i : Instance) → operand_text spec (Sub i) ≡ instance_text spec i
unfolding hidden-the_row-Instance-1 hidden
operand_text-Sub spec i =
    ap (applied_text spec i.constructor)
    (row_texts-row spec (hidden-the_row-Operand-0 i.operands) ∙ ap (map (operand_text spec)) (items_hidden-the_row-Operand-0 i.operands))

pub operand_text-inner : (spec : Spec) (o : Operand) (i j : Instance) → o ≡ Sub i → j ≡ i → instance_text spec j ≡ operand_text spec o
operand_text-inner spec o i j is same = ap (instance_text spec) same ∙ sym (ap (operand_text spec) is ∙ operand_text-Sub spec i)

-- one text more
pub joined_push : (ts : List (List ℕ)) (t : List ℕ) → joined (ts ++ t ∷ []) ≡ joined ts ++ (separator_before (length ts) ++ t)
joined_push [] t = append-nil t
joined_push (u ∷ us) t =
    let more = λ (v : List ℕ). separator ++ v in
    let later : separator_before (suc (length us)) ≡ separator = ap (λ b. if b then [] else separator) (ne_eqb (suc (length us)) 0 (λ e. absurd (omega arith))) in
    ap (λ v. u ++ v) (flat_map-append more us (t ∷ []) ∙ ap (λ v. flat_map more us ++ v) (append-nil (separator ++ t)))
    ∙ sym (append_assoc u (flat_map more us) (separator ++ t))
    ∙ ap (λ v. u ++ flat_map more us ++ (v ++ t)) (sym later)

-- the first texts come first
pub joined_front : (ts us : List (List ℕ)) → (rest : List ℕ) × (joined (ts ++ us) ≡ joined ts ++ rest)
joined_front [] us = (joined us, refl)
joined_front (t ∷ ts) us = (flat_map (λ u. separator ++ u) us, ap (λ v. t ++ v) (flat_map-append (λ u. separator ++ u) ts us) ∙ sym (append_assoc t _ _))

-- ---- an element of a list that is written one by one

module _ (f : Operand → List ℕ) (xs : List Operand) (i : ℕ) (x : Operand) (within : i < length xs) (is : x ≡ get_or xs i x) where
  length_front : length (map f (take i xs)) ≡ i
  length_front = let short : i ≤ length xs = omega arith in length-map (take i xs) f ∙ length-take-le i xs short

  pub joined_more : joined (map f (take (i + 1) xs)) ≡ joined (map f (take i xs)) ++ (separator_before i ++ f x)
  joined_more =
      ap (λ ys. joined (map f ys)) (take_more xs i x within)
      ∙ ap joined (map-append f (take i xs) (get_or xs i x ∷ []))
      ∙ joined_push (map f (take i xs)) (f (get_or xs i x))
      ∙ ap (λ n. joined (map f (take i xs)) ++ (separator_before n ++ f (get_or xs i x))) length_front
      ∙ ap (λ y. joined (map f (take i xs)) ++ (separator_before i ++ f y)) (sym is)

  -- a prefix of what stands for the operand is one of the whole, where those before it are written
  pub joined_prefix : (old middle new : List ℕ) → middle ≡ old ++ joined (map f (take i xs)) → AppendsPrefix middle new (separator_before i ++ f x) → AppendsPrefix old new (joined (map f xs))
  joined_prefix old middle new so_far h =
      let front = joined_front (map f (take (i + 1) xs)) (map f (drop (i + 1) xs)) in
      let whole : joined (map f (take i xs)) ++ (separator_before i ++ f x) ++ front.0 ≡ joined (map f xs) =
      ap (λ v. v ++ front.0) (sym joined_more) ∙ sym front.1 ∙ ap joined (sym (map-append f (take (i + 1) xs) (drop (i + 1) xs))) ∙ ap (λ ys. joined (map f ys)) (take-append-drop (i + 1) xs) in
      prefix_same old new (joined (map f (take i xs)) ++ (separator_before i ++ f x) ++ front.0) (joined (map f xs)) whole
      (prefix_first old new (joined (map f (take i xs)) ++ (separator_before i ++ f x)) front.0
      (prefix_then old middle new (joined (map f (take i xs))) (separator_before i ++ f x) so_far h))

module _ {X : Type 0} (g : X → List ℕ) (xs : List X) (i : ℕ) (x : X) (within : i < length xs) (is : x ≡ get_or xs i x) where
  pub flat_map_at : flat_map g (take (i + 1) xs) ≡ flat_map g (take i xs) ++ g x
  flat_map_at =
      ap (flat_map g) (take_more xs i x within)
      ∙ flat_map-append g (take i xs) (get_or xs i x ∷ [])
      ∙ ap (λ v. flat_map g (take i xs) ++ v) (append-nil (g (get_or xs i x)))
      ∙ ap (λ y. flat_map g (take i xs) ++ g y) (sym is)

  pub flat_map_prefix : (old middle new : List ℕ) → middle ≡ old ++ flat_map g (take i xs) → AppendsPrefix middle new (g x) → AppendsPrefix old new (flat_map g xs)
  flat_map_prefix old middle new so_far h =
      let rest = flat_map g (drop (i + 1) xs) in
      let whole : flat_map g (take i xs) ++ g x ++ rest ≡ flat_map g xs =
      ap (λ v. v ++ rest) (sym flat_map_at) ∙ sym (flat_map-append g (take (i + 1) xs) (drop (i + 1) xs)) ∙ ap (flat_map g) (take-append-drop (i + 1) xs) in
      prefix_same old new (flat_map g (take i xs) ++ g x ++ rest) (flat_map g xs) whole
      (prefix_first old new (flat_map g (take i xs) ++ g x) rest (prefix_then old middle new (flat_map g (take i xs)) (g x) so_far h))
