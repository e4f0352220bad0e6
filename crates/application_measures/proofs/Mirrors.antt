-- A pattern, measured as the same pattern with an operand in place of each part.
use Rattle.std.proofs.Common.{◌≡◌, ℕ, zero, suc, ◌+◌, ◌≤◌, Bool, true, false, ◌&&◌, List, [], ◌∷◌, ◌++◌, length, map, take, get_or, sum, All, refl, sym, ap, subst, ◌∙◌, arith, add-one}
use Rattle.std.specs.List.{list_all, flat_map, AllZip}
use Rattle.std.proofs.lemmas.List.{map-append, length-map, take_more}
use Rattle.std.proofs.Math.Seq.{take-length}
use Rattle.std.proofs.lemmas.List.Elements.{All-nil, All-cons, All-append}
use Rattle.std.proofs.lemmas.List.Folds.{flat_map-map}
use Rattle.std.proofs.lemmas.Slice.Zip.{all_zipped_more}
use Rattle.token_bits.specs.declared.tokens.Tokens.{Tokens}
use Rattle.sled_model.specs.declared.shape.Shape.{Shape}
use Rattle.sled_model.specs.declared.spec.Spec.{Spec}
use Rattle.sled_model.specs.declared.pattern.Pattern.{Pattern}
use Rattle.sled_model.specs.declared.pattern.Pattern.TheVariants.{Token, Limit, Bind, Operand, Both, Either, Chain, Label, Loose, Label', Both', Either', Chain', Loose', Apply', Empty}
use Rattle.sled_model.specs.Leaves.{IsNoApplication, AllLeaves}
use Rattle.sled_model.specs.Measures.{Weighed, Sized, Measured, capped, each_from, weighed, sized, measured, weight, size, longest, product, greatest, pattern_weight, pattern_size, pattern_len}
use Rattle.sled_model.specs.Shapes.{ShapeContext, spec_shapes, shapes, fold_shapes, both_shape, chain_shape, members_agree, lefts_are_closed, are_one_shape, conjunctions_agree, chains_are_closed, sides_have_one_shape}
use Rattle.sled_model.proofs.MeasureLaws as law
use Rattle.sled_model.proofs.ShapeContexts.{HasSameForm, operands_form}
use Rattle.sled_model.proofs.ShapeEquations.{shapes-Both, agree-Both, closed-Both, alike-Both, shapes-Either, agree-Either, closed-Either, alike-Either, shapes-Chain, agree-Chain, closed-Chain, alike-Chain, shapes-Label, agree-Label, closed-Label, alike-Label, shapes-Loose, agree-Loose, closed-Loose, alike-Loose}
use Rattle.pattern_shapes.specs.declared.form.Form.{Form}
use Rattle.pattern_shapes.specs.Forms.{SameMembers, operand_context, IsForm, IsFormOf}
use Rattle.pattern_shapes.proofs.Joined.{same_self, same_then}
use Rattle.pattern_shapes.proofs.Steps.{list_all_push}
use Rattle.application_measures.specs.declared.measures.ArmMeasures.{ArmMeasures}
use Rattle.application_measures.specs.declared.parts.Parts.{Parts}
use Rattle.application_measures.specs.Parts.{len_among, AreOver, no_parts, with_part, with_asked, numbered}
use Rattle.application_measures.specs.Arms.{IsPlainLeaf, AreArmMeasures, ArePartsOf}
use Rattle.application_measures.proofs.LengthLaws.{len_same_capped}

-- ---- the first operands

module _ {B : Type 0} (f : Pattern → B) (xs : List B) (d : B) (each : (k : ℕ) → f (Operand k) ≡ get_or xs k d) where
  front : (n : ℕ) → n ≤ length xs → map f (numbered n) ≡ take n xs
  unfolding numbered
  front zero l = refl
  front (suc n) l =
      map-append f (numbered n) (Operand n ∷ []) ∙ ap (λ ys. ys ++ f (Operand n) ∷ []) (front n (omega arith)) ∙ ap (λ y. take n xs ++ y ∷ []) (each n)
      ∙ sym (take_more xs n d (omega arith)) ∙ ap (λ k. take k xs) (add-one n)

  -- what each is, in order
  pub each_listed : map f (numbered (length xs)) ≡ xs
  each_listed = front (length xs) (omega arith) ∙ take-length xs

pub none_asked : (p : Pattern → Bool) → ((k : ℕ) → p (Operand k) ≡ true) → (n : ℕ) → list_all p (numbered n) ≡ true
unfolding numbered
none_asked p each zero = refl
none_asked p each (suc n) = list_all_push p (numbered n) (Operand n) ∙ ap (λ b. b && p (Operand n)) (none_asked p each n) ∙ each n

pub nothing_applied : (n : ℕ) → All (AllLeaves IsNoApplication) (numbered n)
unfolding numbered
nothing_applied zero = All-nil (AllLeaves IsNoApplication)
nothing_applied (suc n) =
    let P = AllLeaves IsNoApplication in
    All-append P (numbered n) (Operand n ∷ []) (nothing_applied n) (All-cons P (Operand n) [] tt (All-nil P))

pub numbered_none : numbered 0 ≡ []
unfolding numbered
numbered_none = refl

pub numbered_more : (n : ℕ) → numbered n ++ Operand n ∷ [] ≡ numbered (n + 1)
unfolding numbered
numbered_more n = sym (ap numbered (add-one n))

-- ---- lists, place by place

capped_twice : (n : ℕ) → capped (capped n) ≡ capped n
capped_twice n = omega arith

capped_at : (w : Pattern → ℕ) (ps : List Pattern) (k : ℕ) → capped (get_or (map (λ p. capped (w p)) ps) k 0) ≡ capped (get_or (map w ps) k 0)
capped_at w [] k = refl
capped_at w (p ∷ ps) zero = capped_twice (w p)
capped_at w (p ∷ ps) (suc k) = capped_at w ps k

pub same_at : (sss tss : List (List Shape)) → AllZip SameMembers sss tss → (k : ℕ) → SameMembers (get_or sss k []) (get_or tss k [])
same_at [] [] h k = same_self []
same_at [] (ts ∷ tss) h k = absurd h
same_at (ss ∷ sss) [] h k = absurd h
same_at (ss ∷ sss) (ts ∷ tss) h zero = h.0
same_at (ss ∷ sss) (ts ∷ tss) h (suc k) = same_at sss tss h.1 k

and_both : (a a' b b' : Bool) → a ≡ a' → b ≡ b' → (a && b) ≡ (a' && b')
and_both a a' b b' e f = ap (λ x. x && b) e ∙ ap (λ x. a' && x) f

and_swap : (a b : Bool) → (a && b) ≡ (b && a)
and_swap true true = refl
and_swap true false = refl
and_swap false true = refl
and_swap false false = refl

and_true : (b : Bool) → (b && true) ≡ b
and_true true = refl
and_true false = refl

-- ---- a whole over its parts

-- what the operands of the whole stand for
abbrev pub over_context : Spec → List Pattern → ShapeContext
over_context spec ps = operand_context spec.tokens (map (shapes (spec_shapes spec)) ps)

abbrev over_weights : Spec → List Pattern → ℕ → ℕ
over_weights spec ps k = get_or (map (pattern_weight spec) ps) k 0

abbrev over_sizes : Spec → List Pattern → ℕ → ℕ
over_sizes spec ps k = get_or (map (pattern_size spec) ps) k 0

abbrev over_lens : Spec → List Pattern → ℕ → ℕ
over_lens spec ps k = get_or (map (pattern_len spec) ps) k 0

-- over its parts, the whole has what the pattern has
pub record Mirrors (spec : Spec) (ps : List Pattern) (whole p : Pattern) : Type 0 where
  pub plain : AllLeaves IsNoApplication whole
  pub shapes : shapes (over_context spec ps) whole ≡ shapes (spec_shapes spec) p
  pub agree : (conjunctions_agree (over_context spec ps) whole && list_all (conjunctions_agree (spec_shapes spec)) ps) ≡ conjunctions_agree (spec_shapes spec) p
  pub closed : (chains_are_closed (over_context spec ps) whole && list_all (chains_are_closed (spec_shapes spec)) ps) ≡ chains_are_closed (spec_shapes spec) p
  pub alike : (sides_have_one_shape (over_context spec ps) whole && list_all (sides_have_one_shape (spec_shapes spec)) ps) ≡ sides_have_one_shape (spec_shapes spec) p
  pub weight : weight spec.tokens [] (over_weights spec ps) whole ≡ pattern_weight spec p
  pub size : size [] (over_sizes spec ps) whole ≡ pattern_size spec p
  pub len : longest spec.tokens [] (over_lens spec ps) whole ≡ pattern_len spec p

module _ (spec : Spec) (ps : List Pattern) (whole p : Pattern) (mirrors : Mirrors spec ps whole p) (parts : Parts) (are : ArePartsOf spec ps parts) where
  form_over : HasSameForm (operand_context spec.tokens parts.shapes) (over_context spec ps) whole
  form_over = operands_form (operand_context spec.tokens parts.shapes) (over_context spec ps) refl
      (same_at parts.shapes (map (shapes (spec_shapes spec)) ps) are.shapes) whole mirrors.plain

  pub measured_over : (m : ArmMeasures) → AreOver spec.tokens parts whole m → AreArmMeasures spec p m
  measured_over m h =
      let cx = operand_context spec.tokens parts.shapes in let dx = over_context spec ps in let sx = spec_shapes spec in let same = form_over in
      record {
        form = record {
          members = same_then m.form.shapes (shapes cx whole) (shapes sx p) h.form.members (subst (SameMembers (shapes cx whole)) mirrors.shapes same.members);
          once = h.form.once;
          agree = h.form.agree ∙ and_both (conjunctions_agree cx whole) (conjunctions_agree dx whole) parts.agree (list_all (conjunctions_agree sx) ps) same.agree are.agree ∙ mirrors.agree;
          closed = h.form.closed ∙ and_both (chains_are_closed cx whole) (chains_are_closed dx whole) parts.closed (list_all (chains_are_closed sx) ps) same.closed are.closed ∙ mirrors.closed;
          alike = h.form.alike ∙ and_both (sides_have_one_shape cx whole) (sides_have_one_shape dx whole) parts.alike (list_all (sides_have_one_shape sx) ps) same.alike are.alike ∙ mirrors.alike;
        };
        weight = h.weight ∙ ap (λ ws. capped (weight spec.tokens [] (λ k. get_or ws k 0) whole)) are.weights
            ∙ law.weight_same_capped spec.tokens [] (λ k. get_or (map (λ q. capped (pattern_weight spec q)) ps) k 0) (over_weights spec ps) (capped_at (pattern_weight spec) ps) whole
            ∙ ap capped mirrors.weight;
        size = h.size ∙ ap (λ ns. capped (size [] (λ k. get_or ns k 0) whole)) are.sizes
            ∙ law.size_same_capped [] (λ k. get_or (map (λ q. capped (pattern_size spec q)) ps) k 0) (over_sizes spec ps) (capped_at (pattern_size spec) ps) whole
            ∙ ap capped mirrors.size;
        len = h.len ∙ ap (λ ls. capped (longest spec.tokens [] (λ k. get_or ls k 0) whole)) are.lens
            ∙ len_same_capped spec.tokens [] (λ k. get_or (map (λ q. capped (pattern_len spec q)) ps) k 0) (over_lens spec ps) (capped_at (pattern_len spec) ps) whole
            ∙ ap capped mirrors.len;
      }

-- ---- each kind of pattern

module _ (spec : Spec) (ps : List Pattern) where
  abbrev operands : List Pattern
  operands = numbered (length ps)

  -- the operands, measured, are the parts, measured
  listed : {B : Type 0} (f g : Pattern → B) (d : B) → ((k : ℕ) → f (Operand k) ≡ get_or (map g ps) k d) → map f operands ≡ map g ps
  listed f g d each = ap (λ n. map f (numbered n)) (sym (long g)) ∙ each_listed f (map g ps) d each
    where
      long : {B : Type 0} (g : Pattern → B) → length (map g ps) ≡ length ps
      long g = length-map ps g

  abbrev cx : ShapeContext
  cx = over_context spec ps

  abbrev sx : ShapeContext
  sx = spec_shapes spec

  abbrev heavy : List Weighed
  heavy = each_from (weighed spec.tokens) [] spec.constructors

  abbrev large : List Sized
  large = each_from sized [] spec.constructors

  abbrev long : List Measured
  long = each_from (measured spec.tokens) [] spec.constructors

  listed_shapes : map (shapes cx) operands ≡ map (shapes sx) ps
  listed_shapes = listed (shapes cx) (shapes sx) [] (λ k. refl)

  listed_weights : map (weight spec.tokens [] (over_weights spec ps)) operands ≡ map (pattern_weight spec) ps
  listed_weights = listed (weight spec.tokens [] (over_weights spec ps)) (pattern_weight spec) 0 (λ k. refl)

  listed_sizes : map (size [] (over_sizes spec ps)) operands ≡ map (pattern_size spec) ps
  listed_sizes = listed (size [] (over_sizes spec ps)) (pattern_size spec) 0 (λ k. refl)

  listed_lens : map (longest spec.tokens [] (over_lens spec ps)) operands ≡ map (pattern_len spec) ps
  listed_lens = listed (longest spec.tokens [] (over_lens spec ps)) (pattern_len spec) 0 (λ k. refl)

  agreed : list_all (conjunctions_agree cx) operands ≡ true
  agreed = none_asked (conjunctions_agree cx) (λ k. refl) (length ps)

  ended : list_all (chains_are_closed cx) operands ≡ true
  ended = none_asked (chains_are_closed cx) (λ k. refl) (length ps)

  single : list_all (sides_have_one_shape cx) operands ≡ true
  single = none_asked (sides_have_one_shape cx) (λ k. refl) (length ps)

  pub mirrors_both : Mirrors spec ps (Both operands) (Both ps)
  mirrors_both = record {
    plain = law.AllLeaves-to_Both IsNoApplication operands (nothing_applied (length ps));
    shapes = shapes-Both cx operands ∙ ap (fold_shapes both_shape) listed_shapes ∙ sym (shapes-Both sx ps);
    agree = ap (λ b. b && list_all (conjunctions_agree sx) ps)
        (agree-Both cx operands ∙ and_both (list_all (conjunctions_agree cx) operands) true (members_agree (map (shapes cx) operands)) (members_agree (map (shapes sx) ps)) agreed (ap members_agree listed_shapes))
        ∙ and_swap (members_agree (map (shapes sx) ps)) (list_all (conjunctions_agree sx) ps) ∙ sym (agree-Both sx ps);
    closed = ap (λ b. b && list_all (chains_are_closed sx) ps) (closed-Both cx operands ∙ ended) ∙ sym (closed-Both sx ps);
    alike = ap (λ b. b && list_all (sides_have_one_shape sx) ps) (alike-Both cx operands ∙ single) ∙ sym (alike-Both sx ps);
    weight = law.weight-Both spec.tokens [] (over_weights spec ps) operands ∙ ap product listed_weights ∙ sym (law.weight-Both spec.tokens heavy (λ k. 0) ps);
    size = law.size-Both [] (over_sizes spec ps) operands ∙ ap sum listed_sizes ∙ sym (law.size-Both large (λ k. 0) ps);
    len = law.longest-Both spec.tokens [] (over_lens spec ps) operands ∙ ap greatest listed_lens ∙ sym (law.longest-Both spec.tokens long (λ k. 0) ps);
  }

  pub mirrors_either : Mirrors spec ps (Either operands) (Either ps)
  mirrors_either = record {
    plain = law.AllLeaves-to_Either IsNoApplication operands (nothing_applied (length ps));
    shapes = all_shapes;
    agree = ap (λ b. b && list_all (conjunctions_agree sx) ps) (agree-Either cx operands ∙ agreed) ∙ sym (agree-Either sx ps);
    closed = ap (λ b. b && list_all (chains_are_closed sx) ps) (closed-Either cx operands ∙ ended) ∙ sym (closed-Either sx ps);
    alike = ap (λ b. b && list_all (sides_have_one_shape sx) ps)
        (alike-Either cx operands ∙ and_both (list_all (sides_have_one_shape cx) operands) true (are_one_shape (flat_map (shapes cx) operands)) (are_one_shape (flat_map (shapes sx) ps)) single (ap are_one_shape flat))
        ∙ and_swap (are_one_shape (flat_map (shapes sx) ps)) (list_all (sides_have_one_shape sx) ps) ∙ sym (alike-Either sx ps);
    weight = law.weight-Either spec.tokens [] (over_weights spec ps) operands ∙ ap sum listed_weights ∙ sym (law.weight-Either spec.tokens heavy (λ k. 0) ps);
    size = law.size-Either [] (over_sizes spec ps) operands ∙ ap greatest listed_sizes ∙ sym (law.size-Either large (λ k. 0) ps);
    len = law.longest-Either spec.tokens [] (over_lens spec ps) operands ∙ ap greatest listed_lens ∙ sym (law.longest-Either spec.tokens long (λ k. 0) ps);
  }
    where
      flat : flat_map (shapes cx) operands ≡ flat_map (shapes sx) ps
      flat = sym (flat_map-map (λ ss. ss) (shapes cx) operands) ∙ ap (flat_map (λ ss. ss)) listed_shapes ∙ flat_map-map (λ ss. ss) (shapes sx) ps

      all_shapes : shapes cx (Either operands) ≡ shapes sx (Either ps)
      all_shapes = shapes-Either cx operands ∙ flat ∙ sym (shapes-Either sx ps)

  pub mirrors_chain : Mirrors spec ps (Chain operands) (Chain ps)
  mirrors_chain = record {
    plain = law.AllLeaves-to_Chain IsNoApplication operands (nothing_applied (length ps));
    shapes = shapes-Chain cx operands ∙ ap (fold_shapes chain_shape) listed_shapes ∙ sym (shapes-Chain sx ps);
    agree = ap (λ b. b && list_all (conjunctions_agree sx) ps) (agree-Chain cx operands ∙ agreed) ∙ sym (agree-Chain sx ps);
    closed = ap (λ b. b && list_all (chains_are_closed sx) ps)
        (closed-Chain cx operands ∙ and_both (list_all (chains_are_closed cx) operands) true (lefts_are_closed (map (shapes cx) operands)) (lefts_are_closed (map (shapes sx) ps)) ended (ap lefts_are_closed listed_shapes))
        ∙ and_swap (lefts_are_closed (map (shapes sx) ps)) (list_all (chains_are_closed sx) ps) ∙ sym (closed-Chain sx ps);
    alike = ap (λ b. b && list_all (sides_have_one_shape sx) ps) (alike-Chain cx operands ∙ single) ∙ sym (alike-Chain sx ps);
    weight = law.weight-Chain spec.tokens [] (over_weights spec ps) operands ∙ ap product listed_weights ∙ sym (law.weight-Chain spec.tokens heavy (λ k. 0) ps);
    size = law.size-Chain [] (over_sizes spec ps) operands ∙ ap sum listed_sizes ∙ sym (law.size-Chain large (λ k. 0) ps);
    len = law.longest-Chain spec.tokens [] (over_lens spec ps) operands ∙ ap sum listed_lens ∙ sym (law.longest-Chain spec.tokens long (λ k. 0) ps);
  }

module _ (spec : Spec) (p : Pattern) where
  abbrev bx : ShapeContext
  bx = over_context spec (p ∷ [])

  abbrev px : ShapeContext
  px = spec_shapes spec

  pub mirrors_label : (l : ℕ) → Mirrors spec (p ∷ []) (Label l (Operand 0)) (Label l p)
  mirrors_label l = record {
    plain = law.AllLeaves-to_Label IsNoApplication l (Operand 0) tt;
    shapes = shapes-Label bx (Operand 0) l ∙ sym (shapes-Label px p l);
    agree = ap (λ b. b && list_all (conjunctions_agree px) (p ∷ [])) (agree-Label bx (Operand 0) l) ∙ and_true (conjunctions_agree px p) ∙ sym (agree-Label px p l);
    closed = ap (λ b. b && list_all (chains_are_closed px) (p ∷ [])) (closed-Label bx (Operand 0) l) ∙ and_true (chains_are_closed px p) ∙ sym (closed-Label px p l);
    alike = ap (λ b. b && list_all (sides_have_one_shape px) (p ∷ [])) (alike-Label bx (Operand 0) l) ∙ and_true (sides_have_one_shape px p) ∙ sym (alike-Label px p l);
    weight = law.weight-Label spec.tokens [] (over_weights spec (p ∷ [])) l (Operand 0) ∙ sym (law.weight-Label spec.tokens (each_from (weighed spec.tokens) [] spec.constructors) (λ k. 0) l p);
    size = law.size-Label [] (over_sizes spec (p ∷ [])) l (Operand 0) ∙ sym (law.size-Label (each_from sized [] spec.constructors) (λ k. 0) l p);
    len = law.longest-Label spec.tokens [] (over_lens spec (p ∷ [])) l (Operand 0) ∙ sym (law.longest-Label spec.tokens (each_from (measured spec.tokens) [] spec.constructors) (λ k. 0) l p);
  }

  pub mirrors_loose : Mirrors spec (p ∷ []) (Loose (Operand 0)) (Loose p)
  mirrors_loose = record {
    plain = law.AllLeaves-to_Loose IsNoApplication (Operand 0) tt;
    shapes = shapes-Loose bx (Operand 0) ∙ sym (shapes-Loose px p);
    agree = ap (λ b. b && list_all (conjunctions_agree px) (p ∷ [])) (agree-Loose bx (Operand 0)) ∙ and_true (conjunctions_agree px p) ∙ sym (agree-Loose px p);
    closed = ap (λ b. b && list_all (chains_are_closed px) (p ∷ [])) (closed-Loose bx (Operand 0)) ∙ and_true (chains_are_closed px p) ∙ sym (closed-Loose px p);
    alike = ap (λ b. b && list_all (sides_have_one_shape px) (p ∷ [])) (alike-Loose bx (Operand 0)) ∙ and_true (sides_have_one_shape px p) ∙ sym (alike-Loose px p);
    weight = law.weight-Loose spec.tokens [] (over_weights spec (p ∷ [])) (Operand 0) ∙ sym (law.weight-Loose spec.tokens (each_from (weighed spec.tokens) [] spec.constructors) (λ k. 0) p);
    size = law.size-Loose [] (over_sizes spec (p ∷ [])) (Operand 0) ∙ sym (law.size-Loose (each_from sized [] spec.constructors) (λ k. 0) p);
    len = law.longest-Loose spec.tokens [] (over_lens spec (p ∷ [])) (Operand 0) ∙ sym (law.longest-Loose spec.tokens (each_from (measured spec.tokens) [] spec.constructors) (λ k. 0) p);
  }

-- ---- a pattern without parts, and one part more

module _ (spec : Spec) where
  pub mirrors_leaf : (p : Pattern) → IsPlainLeaf p → Mirrors spec [] p p
  mirrors_leaf (Token c) leaf = record { plain = tt; shapes = refl; agree = refl; closed = refl; alike = refl; weight = refl; size = refl; len = refl }
  mirrors_leaf (Limit f relation limit) leaf = record { plain = tt; shapes = refl; agree = refl; closed = refl; alike = refl; weight = refl; size = refl; len = refl }
  mirrors_leaf (Bind f) leaf = record { plain = tt; shapes = refl; agree = refl; closed = refl; alike = refl; weight = refl; size = refl; len = refl }
  mirrors_leaf (Operand k) leaf = record { plain = tt; shapes = refl; agree = refl; closed = refl; alike = refl; weight = refl; size = refl; len = refl }
  mirrors_leaf (Label' l s p) leaf = absurd leaf
  mirrors_leaf (Both' s ps) leaf = absurd leaf
  mirrors_leaf (Either' s ps) leaf = absurd leaf
  mirrors_leaf (Chain' s ps) leaf = absurd leaf
  mirrors_leaf (Loose' s p) leaf = absurd leaf
  mirrors_leaf (Apply' k s arguments) leaf = absurd leaf
  mirrors_leaf Empty leaf = record { plain = tt; shapes = refl; agree = refl; closed = refl; alike = refl; weight = refl; size = refl; len = refl }

  pub parts_none : ArePartsOf spec [] no_parts
  parts_none = record { shapes = tt; weights = refl; sizes = refl; lens = refl; agree = refl; closed = refl; alike = refl }

  pub parts_more : (ps : List Pattern) (p : Pattern) (parts : Parts) (m : ArmMeasures) → ArePartsOf spec ps parts → AreArmMeasures spec p m
      → ArePartsOf spec (ps ++ p ∷ []) (with_part parts m)
  parts_more ps p parts m are h =
      let x = spec_shapes spec in
      record {
        shapes = subst (AllZip SameMembers (parts.shapes ++ m.form.shapes ∷ [])) (sym (map-append (shapes x) ps (p ∷ [])))
            (all_zipped_more SameMembers parts.shapes (map (shapes x) ps) m.form.shapes (shapes x p) are.shapes h.form.members);
        weights = ap (λ ns. ns ++ m.weight ∷ []) are.weights ∙ ap (λ n. map (λ q. capped (pattern_weight spec q)) ps ++ n ∷ []) h.weight
            ∙ sym (map-append (λ q. capped (pattern_weight spec q)) ps (p ∷ []));
        sizes = ap (λ ns. ns ++ m.size ∷ []) are.sizes ∙ ap (λ n. map (λ q. capped (pattern_size spec q)) ps ++ n ∷ []) h.size
            ∙ sym (map-append (λ q. capped (pattern_size spec q)) ps (p ∷ []));
        lens = ap (λ ns. ns ++ m.len ∷ []) are.lens ∙ ap (λ n. map (λ q. capped (pattern_len spec q)) ps ++ n ∷ []) h.len
            ∙ sym (map-append (λ q. capped (pattern_len spec q)) ps (p ∷ []));
        agree = and_both parts.agree (list_all (conjunctions_agree x) ps) m.form.agree (conjunctions_agree x p) are.agree h.form.agree ∙ sym (list_all_push (conjunctions_agree x) ps p);
        closed = and_both parts.closed (list_all (chains_are_closed x) ps) m.form.closed (chains_are_closed x p) are.closed h.form.closed ∙ sym (list_all_push (chains_are_closed x) ps p);
        alike = and_both parts.alike (list_all (sides_have_one_shape x) ps) m.form.alike (sides_have_one_shape x p) are.alike h.form.alike ∙ sym (list_all_push (sides_have_one_shape x) ps p);
      }

  pub leaf_measured : (p : Pattern) → IsPlainLeaf p → (parts : Parts) → parts ≡ no_parts → (m : ArmMeasures) → AreOver spec.tokens parts p m → AreArmMeasures spec p m
  leaf_measured p leaf parts e m h = measured_over spec [] p p (mirrors_leaf p leaf) parts (subst (ArePartsOf spec []) (sym e) parts_none) m h

  one_part : (p : Pattern) (part : ArmMeasures) (parts : Parts) → parts ≡ with_part no_parts part → AreArmMeasures spec p part → ArePartsOf spec (p ∷ []) parts
  one_part p part parts e h = subst (ArePartsOf spec (p ∷ [])) (sym e) (parts_more [] p no_parts part parts_none h)

  pub label_measured : (l : ℕ) (part : ArmMeasures) (parts : Parts) → parts ≡ with_part no_parts part → (whole : Pattern) → whole ≡ Label l (Operand 0)
      → (m : ArmMeasures) → AreOver spec.tokens parts whole m → (p : Pattern) → AreArmMeasures spec p part → AreArmMeasures spec (Label l p) m
  label_measured l part parts e whole is m h p are =
      measured_over spec (p ∷ []) (Label l (Operand 0)) (Label l p) (mirrors_label spec p l) parts (one_part p part parts e are) m (subst (λ w. AreOver spec.tokens parts w m) is h)

  pub loose_measured : (part : ArmMeasures) (parts : Parts) → parts ≡ with_part no_parts part → (whole : Pattern) → whole ≡ Loose (Operand 0)
      → (m : ArmMeasures) → AreOver spec.tokens parts whole m → (p : Pattern) → AreArmMeasures spec p part → AreArmMeasures spec (Loose p) m
  loose_measured part parts e whole is m h p are =
      measured_over spec (p ∷ []) (Loose (Operand 0)) (Loose p) (mirrors_loose spec p) parts (one_part p part parts e are) m (subst (λ w. AreOver spec.tokens parts w m) is h)

  module _ (ps : List Pattern) (parts : Parts) (are : ArePartsOf spec ps parts) (members : List Pattern) (is : members ≡ numbered (length ps)) (m : ArmMeasures) where
    pub both_measured : AreOver spec.tokens parts (Both members) m → AreArmMeasures spec (Both ps) m
    both_measured h = measured_over spec ps (Both (numbered (length ps))) (Both ps) (mirrors_both spec ps) parts are m (subst (λ qs. AreOver spec.tokens parts (Both qs) m) is h)

    pub either_measured : AreOver spec.tokens parts (Either members) m → AreArmMeasures spec (Either ps) m
    either_measured h = measured_over spec ps (Either (numbered (length ps))) (Either ps) (mirrors_either spec ps) parts are m (subst (λ qs. AreOver spec.tokens parts (Either qs) m) is h)

    pub chain_measured : AreOver spec.tokens parts (Chain members) m → AreArmMeasures spec (Chain ps) m
    chain_measured h = measured_over spec ps (Chain (numbered (length ps))) (Chain ps) (mirrors_chain spec ps) parts are m (subst (λ qs. AreOver spec.tokens parts (Chain qs) m) is h)

-- ---- what is measured over parts

pub over_is : (tokens : Tokens) (parts : Parts) (whole : Pattern) (sss : List (List Shape)) → sss ≡ parts.shapes → (form asked : Form) → IsFormOf (operand_context tokens sss) whole form
    → asked ≡ with_asked parts form → (m : ArmMeasures) → m.form ≡ asked
    → m.weight ≡ capped (weight tokens [] (λ k. get_or parts.weights k 0) whole) → m.size ≡ capped (size [] (λ k. get_or parts.sizes k 0) whole)
    → m.len ≡ capped (len_among tokens parts.lens whole) → AreOver tokens parts whole m
over_is tokens parts whole sss e form asked h is m formed weighs large long =
    let cx = operand_context tokens parts.shapes in
    let g = subst (λ us. IsFormOf (operand_context tokens us) whole form) e h in
    let f : m.form ≡ with_asked parts form = formed ∙ is in
    record {
      form = subst (IsForm (shapes cx whole) (conjunctions_agree cx whole && parts.agree) (chains_are_closed cx whole && parts.closed) (sides_have_one_shape cx whole && parts.alike)) (sym f)
          (record {
            members = g.members;
            once = g.once;
            agree = ap (λ b. b && parts.agree) g.agree;
            closed = ap (λ b. b && parts.closed) g.closed;
            alike = ap (λ b. b && parts.alike) g.alike;
          });
      weight = weighs;
      size = large;
      len = long;
    }
