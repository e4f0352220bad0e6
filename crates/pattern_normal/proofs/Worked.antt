-- The pattern of the tests.
use Rattle.std.proofs.Common.{◌≡◌, ℕ, ◌+◌, ◌≤◌, ◌^◌, max, Bool, true, false, cond, map, length, slice_get, Option, Some, None, ap, List, [], ◌∷◌, sym, subst, ◌∙◌, arith}
use Rattle.std.proofs.lemmas.List.Elements.{All-nil, All-cons}
use Rattle.token_bits.specs.declared.tokens.FieldId.{FieldId}
use Rattle.token_bits.specs.Tokens.{token_len}
use Rattle.sled_model.specs.declared.spec.Spec.{Spec}
use Rattle.sled_model.specs.declared.pattern.Pattern.{Pattern}
use Rattle.sled_model.specs.declared.pattern.Pattern.TheVariants.{Limit, Bind, Operand, Both, Either, Chain, Label, Apply}
use Rattle.sled_model.specs.declared.pattern.Relation.TheVariants.{Equal, Below}
use Rattle.sled_model.specs.Measures.{Measured, longest, each_from, measured, kind_len, operand_len, application_len, pattern_len}
use Rattle.sled_model.specs.Results.{makes}
use Rattle.sled_model.specs.declared.constructor.Constructor.{Constructor}
use Rattle.sled_model.specs.declared.constructor.OperandKind.{OperandKind}
use Rattle.sled_model.specs.declared.constructor.OperandKind.TheVariants.{Plain, Extended, Typed, Whole, Sliced}
use Rattle.sled_model.specs.declared.pattern.Argument.{Argument}
use Rattle.token_bits.specs.declared.tokens.Tokens.{Tokens}
use Rattle.std.specs.Option.{option_map_or}
use Rattle.std.proofs.lemmas.List.{length-map}
use Rattle.sled_model.specs.Leaves.{IsNoApplication, AllLeaves, NamesNoConstructor}
use Rattle.sled_model.proofs.MeasureLaws as law

abbrev low : FieldId
low = record { 0 = 0 }

abbrev high : FieldId
high = record { 0 = 1 }

abbrev both_parts : List Pattern
both_parts = Limit low Below 5 ∷ Bind high ∷ []

abbrev either_parts : List Pattern
either_parts = Limit low Equal 1 ∷ Bind low ∷ []

abbrev parts : List Pattern
parts = Label 7 (Both both_parts) ∷ Either either_parts ∷ []

pub plain : (p : Pattern) → p ≡ Chain parts → AllLeaves NamesNoConstructor p
plain p e =
    let P = AllLeaves NamesNoConstructor in
    subst (AllLeaves NamesNoConstructor) (sym e)
    (law.AllLeaves-to_Chain NamesNoConstructor parts (All-cons P (Label 7 (Both both_parts)) (Either either_parts ∷ [])
    (law.AllLeaves-to_Label NamesNoConstructor 7 (Both both_parts) (law.AllLeaves-to_Both NamesNoConstructor both_parts (All-cons P (Limit low Below 5) (Bind high ∷ []) tt (All-cons P (Bind high) [] tt (All-nil P)))))
    (All-cons P (Either either_parts) [] (law.AllLeaves-to_Either NamesNoConstructor either_parts (All-cons P (Limit low Equal 1) (Bind low ∷ []) tt (All-cons P (Bind low) [] tt (All-nil P)))) (All-nil P))))

pub fits : (spec : Spec) (p : Pattern) → p ≡ Chain parts → token_len spec.tokens low ≡ 1 → token_len spec.tokens high ≡ 1 → pattern_len spec p ≤ 32
fits spec p e l h =
    let T = spec.tokens in let K = each_from (measured T) [] spec.constructors in let O = λ (k : ℕ). (let z : ℕ = 0 in z) in
    let whole : longest T K O (Chain parts) ≡ (0 + longest T K O (Label 7 (Both both_parts))) + longest T K O (Either either_parts) = law.longest-Chain T K O parts in
    let first : longest T K O (Label 7 (Both both_parts)) ≡ max (max 0 (token_len T low)) (token_len T high) = law.longest-Label T K O 7 (Both both_parts) ∙ law.longest-Both T K O both_parts in
    let second : longest T K O (Either either_parts) ≡ max (max 0 (token_len T low)) (token_len T low) = law.longest-Either T K O either_parts in
    subst (λ z. pattern_len spec z ≤ 32) (sym e) (omega (arith, whole, first, second, l, h))

pub body_plain : (p : Pattern) → p ≡ Chain (Limit low Below 7 ∷ Operand 0 ∷ []) → AllLeaves IsNoApplication p
body_plain p e =
    let P = AllLeaves IsNoApplication in let rest = Operand 0 ∷ [] in
    subst P (sym e) (law.AllLeaves-to_Chain IsNoApplication (Limit low Below 7 ∷ rest) (All-cons P (Limit low Below 7) rest tt (All-cons P (Operand 0) [] tt (All-nil P))))

-- ---- an instruction with an operand that two constructors make

pub few_bodies : (cs : List Constructor) (p q r : Pattern) → map (λ (c : Constructor). c.body) cs ≡ p ∷ q ∷ r ∷ [] → length cs ≤ 2 ^ 32
few_bodies cs p q r e = let n : length cs ≡ 3 = sym (length-map cs (λ (c : Constructor). c.body)) ∙ ap length e in omega (arith, n)

small_if : (b : Bool) (n : ℕ) → n ≤ 32 → cond b n 0 ≤ 32
small_if true n h = h
small_if false n h = omega arith

small_kind : (a b : Measured) → a.len ≤ 32 → b.len ≤ 32 → (o : Option OperandKind) → option_map_or (kind_len (a ∷ b ∷ [])) o 0 ≤ 32
small_kind a b h g None = omega arith
small_kind a b h g (Some (Plain f)) = omega arith
small_kind a b h g (Some (Extended f)) = omega arith
small_kind a b h g (Some (Typed t)) =
    let x = small_if (makes t a.constructor.result) a.len h in let y = small_if (makes t b.constructor.result) b.len g in omega (arith, x, y)
small_kind a b h g (Some Whole) = omega arith
small_kind a b h g (Some Sliced) = omega arith

pub fits_application : (spec : Spec) (p : Pattern) (arguments : List Argument) → token_len spec.tokens low ≡ 1
    → map (λ (c : Constructor). c.body) spec.constructors ≡ Limit low Below 16 ∷ Limit low Equal 5 ∷ Operand 0 ∷ [] → p ≡ Apply (record { 0 = 2 }) arguments → pattern_len spec p ≤ 32
fits_application spec p arguments l bodies e = subst (λ z. pattern_len spec z ≤ 32) (sym e) (from spec.constructors bodies)
  where
    T : Tokens
    T = spec.tokens

    from : (cs : List Constructor) → map (λ (c : Constructor). c.body) cs ≡ Limit low Below 16 ∷ Limit low Equal 5 ∷ Operand 0 ∷ [] → application_len (each_from (measured T) [] cs) 2 ≤ 32
    from [] h = cc
    from (a ∷ []) h = cc
    from (a ∷ b ∷ []) h = cc
    from (a ∷ b ∷ c ∷ []) h =
        let one : a.body ≡ Limit low Below 16 = cc in let two : b.body ≡ Limit low Equal 5 = cc in let three : c.body ≡ Operand 0 = cc in
        let x = measured T [] a in let y = measured T (x ∷ []) b in
        let x_small : x.len ≤ 32 = subst (λ z. longest T [] (operand_len [] a.operands) z ≤ 32) (sym one) (omega (arith, l)) in
        let y_small : y.len ≤ 32 = subst (λ z. longest T (x ∷ []) (operand_len (x ∷ []) b.operands) z ≤ 32) (sym two) (omega (arith, l)) in
        subst (λ z. longest T (x ∷ y ∷ []) (operand_len (x ∷ y ∷ []) c.operands) z ≤ 32) (sym three) (small_kind x y x_small y_small (slice_get c.operands 0))
    from (a ∷ b ∷ c ∷ d ∷ cs) h = cc
