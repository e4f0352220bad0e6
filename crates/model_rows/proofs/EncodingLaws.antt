-- There is one fault at most, one list of bytes at most, and never both.
use Rattle.std.proofs.Common.{◌≡◌, ℕ, zero, suc, ◌+◌, ◌<◌, ◌≤◌, List, [], ◌∷◌, ◌++◌, take, Option, Some, None, slice_get, All, ℤ, pos, ◌+ℤ◌, refl, ap, sym, ◌∙◌, arith, subst, inl, inr}
use Rattle.std.specs.List.{cons_option, flat_map}
use Rattle.std.proofs.lemmas.Bool.{cases_lt}
use Rattle.std.proofs.lemmas.List.Elements.{All-nil, All-cons, All-head, All-tail, All-append}
use Rattle.token_bits.specs.declared.tokens.Tokens.{Tokens}
use Rattle.sled_model.specs.declared.constructor.Constructor.{Constructor}
use Rattle.sled_model.specs.declared.constructor.Equation.{Equation}
use Rattle.sled_model.specs.declared.constructor.OperandKind.{OperandKind}
use Rattle.sled_model.specs.declared.instance.Instance.{Instance}
use Rattle.sled_model.specs.declared.instance.LabelId.{LabelId}
use Rattle.sled_model.specs.declared.instance.Operand.{Operand, Row_of-Operand, end_of-Operand, more_of-Operand, items-the_row-Operand, items_hidden-the_row-Operand-0}
use Rattle.sled_model.specs.declared.instance.Operand.TheBlock.{hidden-the_row-Instance-1, hidden-the_row-Operand-0}
use Rattle.sled_model.specs.declared.instance.Operand.TheVariants.{Num, Place, Sub}
use denote.Hole.Carrier.{hidden}
use Rattle.sled_model.specs.declared.spec.Spec.{Spec}
use Rattle.sled_model.specs.Equations.{Setting, IsSatisfied}
use Rattle.sled_model.specs.SolvingOrder.{solving_order}
use Rattle.sled_model.specs.Solutions.{IsFirstUnsolvable, equations_at}
use Rattle.sled_model.specs.Encoding as encoding
use Rattle.sled_model.specs.Encoding.{EncodeFault, Unplaced, Unfit, NoSolution, Excluded, Node, IsInRange, operand_count, IsFirstUnfit, IsFaultAt, unfit, unsolvable, HaveNoFault, IsFirstFault, IsFirstUnplaced, IsEncodeFault, unplaced, at_node, excluded, HasBytes, Resolves, resolves, EachResolves, no_more, num, place, sub, nodes_of, address_of, labels_named, operand_labels_named, instance_labels, IsAtOrBefore, IsLeast, IsExcluded}
use Rattle.model_rows.specs.EncodingRows.{EncodingLaws}
use Rattle.model_rows.proofs.Held.{sub_same}
use Rattle.model_rows.proofs.Fits.{node_setting}

-- ---- operands

one_unfit : (tokens : Tokens) (k : ℕ) (kinds : List OperandKind) (os : List Operand) (m n : ℕ) → IsFirstUnfit tokens k kinds os m → IsFirstUnfit tokens k kinds os n → m ≡ n
one_unfit tokens k [] os m n h j = absurd h
one_unfit tokens k (kind ∷ kinds) [] m n h j = absurd h
one_unfit tokens k (kind ∷ kinds) (o ∷ os) m n (inl h) (inl j) = h.0 ∙ sym j.0
one_unfit tokens k (kind ∷ kinds) (o ∷ os) m n (inl h) (inr j) = absurd (h.1 j.0)
one_unfit tokens k (kind ∷ kinds) (o ∷ os) m n (inr h) (inl j) = absurd (j.1 h.0)
one_unfit tokens k (kind ∷ kinds) (o ∷ os) m n (inr h) (inr j) = one_unfit tokens (k + operand_count o) kinds os m n h.1 j.1

-- ---- equations

module _ (P : Equation → Type 0) (es : List Equation) where
  step : (e : Option Equation) (more less : List Equation) → (All P more → All P less) → All P (cons_option e more) → All P (cons_option e less)
  step None more less f h = f h
  step (Some e) more less f h = All-cons P e less (All-head P e more h) (f (All-tail P e more h))

  front : (m q : ℕ) (ks : List ℕ) → m ≤ q → All P (equations_at es (take q ks)) → All P (equations_at es (take m ks))
  front zero q ks le h = All-nil P
  front (suc m) zero ks le h = absurd (omega (arith, le))
  front (suc m) (suc q) [] le h = h
  front (suc m) (suc q) (k ∷ ks) le h = step (slice_get es k) (equations_at es (take q ks)) (equations_at es (take m ks)) (front m q ks (omega (arith, le))) h

module _ (setting : Setting) (c : Constructor) where
  not_before : (m n : ℕ) (f : IsFirstUnsolvable setting c m) (g : IsFirstUnsolvable setting c n) → f.place < g.place → ⊥
  not_before m n f g l =
      let before = g.before in
      f.after (before.0, before.1, front (IsSatisfied setting before.0) c.equations (f.place + 1) g.place (solving_order c) (omega (arith, l)) before.2)

  one_unsolvable : (m n : ℕ) → IsFirstUnsolvable setting c m → IsFirstUnsolvable setting c n → m ≡ n
  one_unsolvable m n f g =
      elim (cases_lt f.place g.place) [
        | inl l ↦ absurd (not_before m n f g l)
        | inr l ↦ elim (cases_lt g.place f.place) [
          | inl k ↦ absurd (not_before n m g f k)
          | inr k ↦ (let same : f.place ≡ g.place = omega (arith, l, k) in let named = ap (slice_get (solving_order c)) same in let e : Some m ≡ Some n = sym f.named ∙ named ∙ g.named in cc)
        ]
      ]

-- ---- nodes

module _ (spec : Spec) (location : ℕ) where
  one_fault_at : (node : Node) (f g : EncodeFault) → IsFaultAt spec location node f → IsFaultAt spec location node g → f ≡ g
  one_fault_at node f g (unfit {operand = m} c k h) (unfit {operand = n} d l j) =
      let same : d ≡ c = cc in
      ap Unfit (one_unfit spec.tokens (node.number + 1) c.operands node.operands m n h (subst (λ (c : Constructor). IsFirstUnfit spec.tokens (node.number + 1) c.operands node.operands n) same j))
  one_fault_at node f g (unfit {operand = m} c k h) (unsolvable d l none j) =
      let same : c ≡ d = cc in absurd (none m (subst (λ (c : Constructor). IsFirstUnfit spec.tokens (node.number + 1) c.operands node.operands m) same h))
  one_fault_at node f g (unsolvable d l none j) (unfit {operand = m} c k h) =
      let same : c ≡ d = cc in absurd (none m (subst (λ (c : Constructor). IsFirstUnfit spec.tokens (node.number + 1) c.operands node.operands m) same h))
  one_fault_at node f g (unsolvable {equation = m} c k none h) (unsolvable {equation = n} d l other j) =
      let same : d ≡ c = cc in
      ap (NoSolution node.number) (one_unsolvable (node_setting spec location node) c m n h (subst (λ c. IsFirstUnsolvable (node_setting spec location node) c n) same j))

  one_first_fault : (nodes : List Node) (f g : EncodeFault) → IsFirstFault spec location nodes f → IsFirstFault spec location nodes g → f ≡ g
  one_first_fault [] f g h j = elim h [ ]
  one_first_fault (node ∷ nodes) f g (encoding.IsFirstFault.here h) (encoding.IsFirstFault.here j) = one_fault_at node f g h j
  one_first_fault (node ∷ nodes) f g (encoding.IsFirstFault.here h) (encoding.IsFirstFault.later none j) = absurd (none f h)
  one_first_fault (node ∷ nodes) f g (encoding.IsFirstFault.later none h) (encoding.IsFirstFault.here j) = absurd (none g j)
  one_first_fault (node ∷ nodes) f g (encoding.IsFirstFault.later none h) (encoding.IsFirstFault.later other j) = one_first_fault nodes f g h j

  abbrev Fits : Node → Type 0
  Fits node = (fault : EncodeFault) → IsFaultAt spec location node fault → ⊥

  faulty : (nodes : List Node) (f : EncodeFault) → IsFirstFault spec location nodes f → HaveNoFault spec location nodes → ⊥
  faulty [] f h none = elim h [ ]
  faulty (node ∷ nodes) f (encoding.IsFirstFault.here h) none = All-head Fits node nodes none f h
  faulty (node ∷ nodes) f (encoding.IsFirstFault.later fits h) none = faulty nodes f h (All-tail Fits node nodes none)

-- ---- bytes

pub antisymmetric : (xs ys : List ℕ) → IsAtOrBefore xs ys → IsAtOrBefore ys xs → xs ≡ ys
antisymmetric [] [] h k = refl
antisymmetric [] (y ∷ ys) h k = absurd k
antisymmetric (x ∷ xs) [] h k = absurd h
antisymmetric (x ∷ xs) (y ∷ ys) (inl h) (inl k) = absurd (omega (arith, h, k))
antisymmetric (x ∷ xs) (y ∷ ys) (inl h) (inr k) = absurd (omega (arith, h, k.0))
antisymmetric (x ∷ xs) (y ∷ ys) (inr h) (inl k) = absurd (omega (arith, h.0, k))
antisymmetric (x ∷ xs) (y ∷ ys) (inr h) (inr k) = let tails = antisymmetric xs ys h.1 k.1 in let heads = h.0 in cc

one_least : (spec : Spec) (location : ℕ) (i : Instance) (bytes others : List ℕ) → IsLeast spec location i bytes → IsLeast spec location i others → bytes ≡ others
one_least spec location i bytes others h k = antisymmetric bytes others (h.least others k.spelled) (k.least bytes h.spelled)

-- ---- labels

module _ (addresses : List (Option ℕ)) where
  one_unplaced : (labels : List LabelId) (l m : LabelId) → IsFirstUnplaced addresses labels l → IsFirstUnplaced addresses labels m → l ≡ m
  one_unplaced [] l m h k = elim h [ ]
  one_unplaced (label ∷ labels) l m (encoding.IsFirstUnplaced.here h) (encoding.IsFirstUnplaced.here k) = refl
  one_unplaced (label ∷ labels) l m (encoding.IsFirstUnplaced.here h) (encoding.IsFirstUnplaced.later a e k) = cc
  one_unplaced (label ∷ labels) l m (encoding.IsFirstUnplaced.later a e h) (encoding.IsFirstUnplaced.here k) = cc
  one_unplaced (label ∷ labels) l m (encoding.IsFirstUnplaced.later a e h) (encoding.IsFirstUnplaced.later b f k) = one_unplaced labels l m h k

  abbrev HasAddress : LabelId → Type 0
  HasAddress label = (address : ℕ) × (address_of addresses label ≡ Some address)

  all_placed : (labels : List LabelId) (l : LabelId) → All HasAddress labels → IsFirstUnplaced addresses labels l → ⊥
  all_placed [] l h k = elim k [ ]
  all_placed (label ∷ labels) l h (encoding.IsFirstUnplaced.here k) = let a = All-head HasAddress label labels h in let e = a.1 in cc
  all_placed (label ∷ labels) l h (encoding.IsFirstUnplaced.later a e k) = all_placed labels l (All-tail HasAddress label labels h) k

labels_row : {n : _} (os : Row_of-Operand n) → operand_labels_named os ≡ flat_map labels_named (items-the_row-Operand _ os)
labels_row end_of-Operand = refl
labels_row (more_of-Operand o os) = ap (λ ls. labels_named o ++ ls) (labels_row os)

labels_sub : (i : Instance) → labels_named (Sub i) ≡ instance_labels i
unfolding hidden-the_row-Instance-1 hidden
labels_sub i = labels_row (hidden-the_row-Operand-0 i.operands) ∙ ap (flat_map labels_named) (items_hidden-the_row-Operand-0 i.operands)

mutual
  placed_if_resolved : {addresses : List (Option ℕ)} {i j : Instance} → Resolves addresses i j → All (HasAddress addresses) (instance_labels i)
  placed_if_resolved (resolves e h) = placed_if_each h

  placed_if_each : {addresses : List (Option ℕ)} {os ps : List Operand} → EachResolves addresses os ps → All (HasAddress addresses) (flat_map labels_named os)
  placed_if_each {addresses = addresses} no_more = All-nil (HasAddress addresses)
  placed_if_each (num h) = placed_if_each h
  placed_if_each {addresses = addresses} (place {label = label} {os = os} address e h) = All-cons (HasAddress addresses) label (flat_map labels_named os) (address, e) (placed_if_each h)
  placed_if_each {addresses = addresses} (sub {os = os} i j r h) =
      All-append (HasAddress addresses) (labels_named (Sub i)) (flat_map labels_named os) (subst (All (HasAddress addresses)) (sym (labels_sub i)) (placed_if_resolved r)) (placed_if_each h)

-- ---- resolved instances

same_instance : (i j : Instance) → i.constructor ≡ j.constructor → i.operands ≡ j.operands → i ≡ j
same_instance i j c o = ap (λ k. record { constructor = k; operands = i.operands }) c ∙ ap (λ os. record { constructor = j.constructor; operands = os }) o

num_same : (m n : ℤ) → Num m ≡ Num n → m ≡ n
num_same m n e = cc

num_not_place : (n : ℤ) (l : LabelId) (a : ℤ) → Num n ≡ Place l a → ⊥
num_not_place n l a e = cc

num_not_sub : (n : ℤ) (i : Instance) → Num n ≡ Sub i → ⊥
num_not_sub n i e = cc

place_not_sub : (l : LabelId) (a : ℤ) (i : Instance) → Place l a ≡ Sub i → ⊥
place_not_sub l a i e = cc

module _ (os ps : List Operand) (o p : Operand) where
  head_of : (o ∷ os) ≡ (p ∷ ps) → o ≡ p
  head_of e = cc

  tail_of : (o ∷ os) ≡ (p ∷ ps) → os ≡ ps
  tail_of e = cc

mutual
  one_resolved : {addresses : List (Option ℕ)} {i j : Instance} (i' k : Instance) → i ≡ i' → Resolves addresses i j → Resolves addresses i' k → j ≡ k
  one_resolved {i = i} {j = j} i' k e (resolves c h) (resolves d g) =
      same_instance j k (sym c ∙ ap (λ (i : Instance). i.constructor) e ∙ d) (each_resolved i'.operands k.operands (ap (λ (i : Instance). i.operands) e) h g)

  each_resolved : {addresses : List (Option ℕ)} {os ps : List Operand} (os' qs : List Operand) → os ≡ os' → EachResolves addresses os ps → EachResolves addresses os' qs → ps ≡ qs
  each_resolved os' qs e no_more no_more = refl
  each_resolved os' qs e no_more (num g) = cc
  each_resolved os' qs e no_more (place b f g) = cc
  each_resolved os' qs e no_more (sub i j r g) = cc
  each_resolved os' qs e (num h) no_more = cc
  each_resolved os' qs e (num {n = m} {os = os} {ps = ps} h) (num {n = n} {os = os''} {ps = qs''} g) =
      let tails : ps ≡ qs'' = each_resolved os'' qs'' (tail_of os os'' (Num m) (Num n) e) h g in
      let heads : Num m ≡ Num n = head_of os os'' (Num m) (Num n) e in cc
  each_resolved os' qs e (num {n = m} {os = os} h) (place {label = l} {add = a} {os = os''} b f g) = absurd (num_not_place m l a (head_of os os'' (Num m) (Place l a) e))
  each_resolved os' qs e (num {n = m} {os = os} h) (sub {os = os''} i j r g) = absurd (num_not_sub m i (head_of os os'' (Num m) (Sub i) e))
  each_resolved os' qs e (place a k h) no_more = cc
  each_resolved os' qs e (place {label = l} {add = a} {os = os} b f h) (num {n = n} {os = os''} g) = absurd (num_not_place n l a (sym (head_of os os'' (Place l a) (Num n) e)))
  each_resolved os' qs e (place {label = l} {add = x} {os = os} {ps = ps} a k h) (place {label = m} {add = y} {os = os''} {ps = qs''} b f g) =
      let tails : ps ≡ qs'' = each_resolved os'' qs'' (tail_of os os'' (Place l x) (Place m y) e) h g in
      let heads : Place l x ≡ Place m y = head_of os os'' (Place l x) (Place m y) e in
      let labels : l ≡ m = cc in let adds : x ≡ y = cc in let found : Some a ≡ Some b = sym k ∙ ap (address_of _) labels ∙ f in let same : a ≡ b = cc in
      ap (λ o. o ∷ ps) (ap (λ c. Num (pos c +ℤ x)) same ∙ ap (λ z. Num (pos b +ℤ z)) adds) ∙ ap (λ qs. Num (pos b +ℤ y) ∷ qs) tails
  each_resolved os' qs e (place {label = l} {add = a} {os = os} b f h) (sub {os = os''} i j r g) = absurd (place_not_sub l a i (head_of os os'' (Place l a) (Sub i) e))
  each_resolved os' qs e (sub i j r h) no_more = cc
  each_resolved os' qs e (sub {os = os} i j r h) (num {n = n} {os = os''} g) = absurd (num_not_sub n i (sym (head_of os os'' (Sub i) (Num n) e)))
  each_resolved os' qs e (sub {os = os} i j r h) (place {label = l} {add = a} {os = os''} b f g) = absurd (place_not_sub l a i (sym (head_of os os'' (Sub i) (Place l a) e)))
  each_resolved os' qs e (sub {os = os} {ps = ps} i j r h) (sub {os = os''} {ps = qs''} i' j' r' g) =
      let tails : ps ≡ qs'' = each_resolved os'' qs'' (tail_of os os'' (Sub i) (Sub i') e) h g in
      let heads : j ≡ j' = one_resolved i' j' (sub_same i i' (head_of os os'' (Sub i) (Sub i') e)) r r' in
      ap (λ k. Sub k ∷ ps) heads ∙ ap (λ qs. Sub j' ∷ qs) tails

-- ---- the laws

module _ (spec : Spec) (addresses : List (Option ℕ)) (location : ℕ) (i : Instance) where
  one : (r s : Instance) → Resolves addresses i r → Resolves addresses i s → r ≡ s
  one r s h k = one_resolved i s refl h k

  unresolved : (l : LabelId) (r : Instance) → IsFirstUnplaced addresses (instance_labels i) l → Resolves addresses i r → ⊥
  unresolved l r h k = all_placed addresses (instance_labels i) l (placed_if_resolved k) h

  one_fault : (f g : EncodeFault) → IsEncodeFault spec addresses location i f → IsEncodeFault spec addresses location i g → f ≡ g
  one_fault f g (unplaced l h) (unplaced m k) = ap Unplaced (one_unplaced addresses (instance_labels i) l m h k)
  one_fault f g (unplaced l h) (at_node r k j) = absurd (unresolved l r h k)
  one_fault f g (unplaced l h) (excluded r k j x) = absurd (unresolved l r h k)
  one_fault f g (at_node r k j) (unplaced l h) = absurd (unresolved l r h k)
  one_fault f g (at_node r k j) (at_node s l m) = one_first_fault spec location (nodes_of spec r) f g j (subst (λ s. IsFirstFault spec location (nodes_of spec s) g) (one s r l k) m)
  one_fault f g (at_node r k j) (excluded s l m x) = absurd (faulty spec location (nodes_of spec r) f j (subst (λ s. HaveNoFault spec location (nodes_of spec s)) (one s r l k) m))
  one_fault f g (excluded r k j x) (unplaced l h) = absurd (unresolved l r h k)
  one_fault f g (excluded r k j x) (at_node s l m) = absurd (faulty spec location (nodes_of spec s) g m (subst (λ s. HaveNoFault spec location (nodes_of spec s)) (one r s k l) j))
  one_fault f g (excluded r k j x) (excluded s l m z) = refl

  not_both : (f : EncodeFault) (bytes : List ℕ) → IsEncodeFault spec addresses location i f → HasBytes spec addresses location i bytes → ⊥
  not_both f bytes (unplaced l h) b = unresolved l b.resolved h b.resolves
  not_both f bytes (at_node r k j) b = faulty spec location (nodes_of spec r) f j (subst (λ s. HaveNoFault spec location (nodes_of spec s)) (one b.resolved r b.resolves k) b.fits)
  not_both f bytes (excluded r k j x) b = subst (λ s. IsExcluded spec location s) (one r b.resolved k b.resolves) x bytes b.least.spelled

  one_list : (bytes others : List ℕ) → HasBytes spec addresses location i bytes → HasBytes spec addresses location i others → bytes ≡ others
  one_list bytes others b c = one_least spec location b.resolved bytes others b.least (subst (λ s. IsLeast spec location s others) (one c.resolved b.resolved c.resolves b.resolves) c.least)

pub encoding_laws : EncodingLaws
encoding_laws = record { one_fault = one_fault; one_list = one_list; not_both = not_both }
