-- The small description can be read, and a byte means one instance in it.
use Rattle.std.proofs.Common.{ℕ, zero, suc, ◌^◌, ◌≡◌, ◌≢◌, ◌<◌, ◌≤◌, inl, true, false, List, [], ◌∷◌, All, AllPairs, slice_get, Option, Some, None, IsSome, refl, sym, ap, subst, arith}
use Rattle.std.proofs.lemmas.List.Elements.{All-nil, All-cons}
use Rattle.token_bits.specs.Tokens.{IsWidth, IsFieldOf, AreTokens, token_len, value_at}
use Rattle.token_bits.specs.declared.tokens.Class.{Class}
use Rattle.sled_model.specs.declared.constructor.TypeId.{TypeId}
use Rattle.sled_model.specs.declared.constructor.OperandKind.{OperandKind}
use Rattle.sled_model.specs.declared.constructor.OperandKind.TheVariants.{Plain, Typed}
use Rattle.sled_model.specs.declared.raw.Match.{Match}
use Rattle.sled_model.specs.declared.raw.RawEntry.TheVariants.{Value}
use Rattle.sled_model.specs.Equations.{IsSatisfied}
use Rattle.sled_model.specs.Instances.{means, plain, no_more, first_or_zero, numbers_of, labels_at, fields_in}
use Rattle.sled_model.specs.Linear.{IsEquationOf, IsLinear}
use Rattle.sled_model.specs.Results.{Known, bind_results, results_from, one_match}
use Rattle.sled_model.specs.Solutions.{setting_of}
use Rattle.sled_model.specs.Solved.{GivesOperand, IsHeldOnce, IsSolved}
use Rattle.sled_model.specs.SolvingOrder.{IsDetermined, bare_fields, is_among}
use Rattle.sled_model.specs.Specs.{IsKnownKind, IsConstructorOf, IsSpec}
use Rattle.match_meaning.specs.Readable.{IsReadable, HasShortBody, IsReadableSpec}
use Rattle.instance_reading.specs.Reading.{IsBodyResult, IsMeant, IsOnlyMeant}
use Rattle.instance_reading.specs.Example.{y, tokens, upper_half, description, e, three_read, e_of_three, ExampleRow}
use Rattle.instance_reading.proofs.OneInstance.{one_instance}

one : {A : Type 0} (P : A → Type 0) (x : A) → P x → All P (x ∷ [])
one P x h = All-cons P x [] h (All-nil P)

no_pairs : {A : Type 0} (R : A → A → Type 0) (x : A) → AllPairs R (x ∷ [])
no_pairs R x i j d l m = absurd (omega (arith, l, m))

pair : {A : Type 0} (R : A → A → Type 0) (x z : A) → R x z → AllPairs R (x ∷ z ∷ [])
pair R x z h zero zero d l m = absurd (omega (arith, l))
pair R x z h zero (suc zero) d l m = h
pair R x z h zero (suc (suc j)) d l m = absurd (omega (arith, m))
pair R x z h (suc i) j d l m = absurd (omega (arith, l, m))

are_tokens : AreTokens tokens
are_tokens = record {
  widths = one (λ (c : Class). IsWidth c.width) _ (inl refl);
  fields = one (IsFieldOf tokens.classes) _ (omega arith, omega arith);
}

different_names : ◌≢◌ {A = List ℕ} (98 ∷ []) (121 ∷ [])
different_names h = let n : ◌≡◌ {A = ℕ} 98 121 = ap first_or_zero h in omega (arith, n)

is_constructor : IsConstructorOf tokens 0 upper_half
is_constructor = record {
  names = refl;
  operands = one (IsKnownKind tokens 0) (Plain y) (omega arith);
  result = tt;
  body = record { class = tt; field = refl; limit = tt; operand = tt; alone = tt };
}

is_spec : IsSpec description
is_spec = record {
  tokens = are_tokens;
  classes = refl;
  fields = refl;
  names = pair {A = List ℕ} (λ one other. one ≢ other) (98 ∷ []) (121 ∷ []) different_names;
  constructor_names = refl;
  different = no_pairs {A = List ℕ} (λ one other. one ≢ other) (101 ∷ []);
  constructors = one (IsConstructorOf tokens 0) upper_half is_constructor;
  few = omega arith;
}

is_linear : IsLinear tokens upper_half
is_linear = record {
  known = one (λ f. IsSome (slice_get tokens.fields f)) 0 refl;
  once = no_pairs {A = ℕ} (λ f g. f ≢ g) 0;
  bare = one (λ f. is_among (bare_fields upper_half.body) f ≡ true) 0 refl;
  apart = no_pairs {A = ℕ} (λ f g. f ≢ g) 0;
  few_operands = omega arith;
  few_equations = omega arith;
  equations = All-nil (IsEquationOf upper_half);
}

is_determined : IsDetermined upper_half
is_determined = record { takes = refl; determines = refl; single = refl }

only_kind : (k : ℕ) (kind : OperandKind) → slice_get (Plain y ∷ []) k ≡ Some kind → Plain y ≡ kind
only_kind zero kind s = cc
only_kind (suc k) kind s = cc

is_solved : IsSolved tokens upper_half
is_solved = record { gives = All-nil (GivesOperand tokens); held = λ k kind s. subst (IsHeldOnce [] k) (only_kind k kind s) tt }

not_typed : (t : TypeId) → Plain y ≡ Typed t → ⊥
not_typed t h = cc

is_readable : IsReadable tokens upper_half
is_readable = record {
  linear = is_linear;
  determined = is_determined;
  solved = is_solved;
  sides = tt;
  typed = λ k t s. absurd (not_typed t (only_kind k (Typed t) s));
}

short_results : (i : ℕ) (o : Option ℕ) → All (λ (m : Match). m.len ≤ 32) (results_from o (λ value. one_match (Value y value i ∷ []) (token_len tokens y)))
short_results i None = All-nil (λ (m : Match). m.len ≤ 32)
short_results i (Some value) = one (λ (m : Match). m.len ≤ 32) _ (omega arith)

can_be_read : IsReadableSpec description
can_be_read = record {
  is_spec = is_spec;
  constructors = one (IsReadable tokens) upper_half is_readable;
  short = (let k : Known = record { constructor = upper_half; body = bind_results tokens y } in one HasShortBody k (λ bytes i. short_results i (value_at tokens y bytes i)));
}

-- the byte 0x35
is_result : IsBodyResult description e three_read
is_result = record {
  known = record { constructor = upper_half; body = bind_results tokens y };
  declared = refl;
  bytes = 53 ∷ [];
  offset = 0;
  found = record { binds = three_read; len = 1; loose = false };
  among = (0, omega arith, refl);
  ends = omega arith;
  binds = refl;
}

module _ (location : ℕ) (low : location < 2 ^ 32) where
  three_meant : IsMeant description location e three_read e_of_three
  three_meant = record {
    of = refl;
    meaning = means upper_half refl (plain 3 0 (0, omega arith, refl) no_more) (All-nil (IsSatisfied (setting_of tokens (numbers_of e_of_three.operands) (labels_at location three_read)) (fields_in three_read)));
  }

  three_only : IsOnlyMeant description location e three_read e_of_three
  three_only =
      let law = one_instance description location e three_read can_be_read low is_result in
      subst (IsOnlyMeant description location e three_read) (sym (law.1.only e_of_three three_meant)) law.1

pub example : ExampleRow
example = (can_be_read, is_result, three_only)
