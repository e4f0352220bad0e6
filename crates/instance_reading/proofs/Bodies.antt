-- A result of a constructor's body, in a description that can be read.
use Rattle.std.proofs.Common.{ℕ, ◌+◌, ◌≡◌, ◌<◌, List, [], slice_get, Contains, Option, Some, None, refl, subst, arith}
use Rattle.token_bits.proofs.Sound.{All-slice_get}
use Rattle.sled_model.specs.declared.constructor.ConstructorId.{ConstructorId}
use Rattle.sled_model.specs.declared.raw.RawEntry.{RawEntry}
use Rattle.sled_model.specs.declared.spec.Spec.{Spec}
use Rattle.sled_model.specs.Leaves.{AllLeaves, IsNoApplication}
use Rattle.sled_model.specs.Results.{Known, Context, known_from, results, operands_in}
use Rattle.sled_model.specs.SolvingOrder.{bare_fields}
use Rattle.sled_model.specs.Specs.{IsBodyLeaf, IsConstructorOf}
use Rattle.sled_model.proofs.LeafLemmas.{AllLeaves-weaker}
use Rattle.match_meaning.specs.Readable.{IsReadable, IsReadableSpec}
use Rattle.instance_reading.specs.Reading.{IsBodyResult}
use Rattle.instance_reading.proofs.BodyReads.{IsChoiceFor, Reads, reads}
use Rattle.instance_reading.proofs.Declared.{IsDeclared, declared, constructor_at}

pub some_same : {A : Type 0} (o : Option A) (x y : A) → o ≡ Some x → o ≡ Some y → x ≡ y
some_same o x y e d = cc

pub none_some : {A : Type 0} (o : Option A) (x : A) → o ≡ None → o ≡ Some x → ⊥
none_some o x e d = cc

module _ (spec : Spec) (readable : IsReadableSpec spec) where
  abbrev pub all : List Known
  all = known_from spec.tokens [] spec.constructors

  module _ (k : ConstructorId) (entries : List RawEntry) (b : IsBodyResult spec k entries) where
    pub standing : IsDeclared spec.tokens all k.0 b.known
    standing = declared spec.tokens spec.constructors k.0 b.known b.declared

    pub is_c : slice_get spec.constructors k.0 ≡ Some b.known.constructor
    is_c = constructor_at spec.tokens spec.constructors k.0 b.known b.declared

    pub can_read : IsReadable spec.tokens b.known.constructor
    can_read = All-slice_get (IsReadable spec.tokens) spec.constructors k.0 b.known.constructor is_c readable.constructors

    plain : AllLeaves IsNoApplication b.known.constructor.body
    plain =
        let kinds = b.known.constructor.operands in
        let is = All-slice_get (IsConstructorOf spec.tokens _) spec.constructors k.0 b.known.constructor is_c readable.is_spec.constructors in
        AllLeaves-weaker (IsBodyLeaf spec.tokens kinds) IsNoApplication (λ p l. l.alone) b.known.constructor.body is.body

    -- the constructors before it
    abbrev pub within : Context
    within = record { tokens = spec.tokens; operands = b.known.constructor.operands; known = standing.earlier }

    abbrev pub stop : ℕ
    stop = b.offset + b.found.len

    -- what it binds, among them
    pub what_is_read : Reads within b.bytes stop (bare_fields b.known.constructor.body) (operands_in b.known.constructor.body) entries
    what_is_read =
        let there : Contains (results within b.known.constructor.body b.bytes b.offset) b.found = subst (λ (x : Known). Contains (x.body b.bytes b.offset) b.found) standing.is b.among in
        subst (Reads within b.bytes stop (bare_fields b.known.constructor.body) (operands_in b.known.constructor.body)) b.binds
        (reads within b.known.constructor.body plain can_read.sides b.bytes b.offset b.found there)

    -- a choice is a result of the body of a constructor before it
    pub inner_result : (j : ℕ) (entry : RawEntry) (h : IsChoiceFor within b.bytes stop j entry) → (h.number < k.0) × IsBodyResult spec (record { 0 = h.number }) h.found.binds
    inner_result j entry h =
        let before = standing.before h.number h.known h.is_known in (
          before.0,
          record {
            known = h.known;
            declared = before.1;
            bytes = b.bytes;
            offset = h.offset;
            found = h.found;
            among = h.among;
            ends = (let e = h.ends in let f = b.ends in omega (arith, e, f));
            binds = refl;
          },
        )
