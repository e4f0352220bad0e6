-- The known constructors: the body of each means what it does over those declared before it.
use Rattle.std.proofs.Common.{◌≡◌, ℕ, zero, suc, ◌<◌, ◌⊎◌, inl, inr, List, [], ◌∷◌, ◌++◌, length, slice_get, Some, refl, sym, ap, ◌∙◌, subst, arith}
use Rattle.std.specs.Option.{option_map}
use Rattle.std.proofs.lemmas.Option.{slice_get_within}
use Rattle.token_bits.specs.declared.tokens.Tokens.{Tokens}
use Rattle.sled_model.specs.declared.constructor.Constructor.{Constructor}
use Rattle.sled_model.specs.Results.{Known, known_from}
use Rattle.sled_model.proofs.ContextLemmas.{known_after, known_at}

pushed : {A : Type 0} (xs : List A) (x y : A) (k : ℕ) → slice_get (xs ++ x ∷ []) k ≡ Some y → (slice_get xs k ≡ Some y) ⊎ ((k ≡ length xs) × (x ≡ y))
pushed [] x y zero e = inr (refl, cc)
pushed [] x y (suc k) e = cc
pushed (z ∷ xs) x y zero e = inl e
pushed (z ∷ xs) x y (suc k) e = by_place (pushed xs x y k e)
  where
    by_place : (slice_get xs k ≡ Some y) ⊎ ((k ≡ length xs) × (x ≡ y)) → (slice_get (z ∷ xs) (suc k) ≡ Some y) ⊎ ((suc k ≡ length (z ∷ xs)) × (x ≡ y))
    by_place (inl h) = inl h
    by_place (inr h) = let n = h.0 in inr (omega (arith, n), h.1)

kept : {A : Type 0} (xs : List A) (x y : A) (k : ℕ) → slice_get xs k ≡ Some y → slice_get (xs ++ x ∷ []) k ≡ Some y
kept [] x y k e = cc
kept (z ∷ xs) x y zero e = e
kept (z ∷ xs) x y (suc k) e = kept xs x y k e

module _ (tokens : Tokens) where
  known_kept : (known : List Known) (cs : List Constructor) (k : ℕ) (x : Known) → slice_get known k ≡ Some x → slice_get (known_from tokens known cs) k ≡ Some x
  known_kept known [] k x e = e
  known_kept known (c ∷ cs) k x e = known_kept (known ++ known_after tokens known c ∷ []) cs k x (kept known (known_after tokens known c) x k e)

  -- number k of all constructors, over those before it
  pub record IsDeclared (all : List Known) (k : ℕ) (x : Known) : Type 0 where
    pub earlier : List Known
    pub is : x ≡ known_after tokens earlier x.constructor
    pub before : (j : ℕ) (y : Known) → slice_get earlier j ≡ Some y → (j < k) × (slice_get all j ≡ Some y)

  abbrev AreDeclared : List Known → List Known → Type 0
  AreDeclared all known = (k : ℕ) (x : Known) → slice_get known k ≡ Some x → IsDeclared all k x

  one_more : (all known : List Known) (c : Constructor) → ((j : ℕ) (y : Known) → slice_get known j ≡ Some y → slice_get all j ≡ Some y) → AreDeclared all known → AreDeclared all (known ++ known_after tokens known c ∷ [])
  one_more all known c there h k x e = by_place (pushed known (known_after tokens known c) x k e)
    where
      by_place : (slice_get known k ≡ Some x) ⊎ ((k ≡ length known) × (known_after tokens known c ≡ x)) → IsDeclared all k x
      by_place (inl s) = h k x s
      by_place (inr s) = record {
        earlier = known;
        is = subst (λ (x : Known). x ≡ known_after tokens known x.constructor) s.1 refl;
        before = λ j y q. (let l = slice_get_within known j y q in let n = s.0 in (omega (arith, l, n), there j y q));
      }

  all_declared : (all known : List Known) (cs : List Constructor) → known_from tokens known cs ≡ all → AreDeclared all known → AreDeclared all all
  all_declared all known [] e h = subst (AreDeclared all) e h
  all_declared all known (c ∷ cs) e h =
      all_declared all (known ++ known_after tokens known c ∷ []) cs e
      (one_more all known c (λ j y s. subst (λ ks. slice_get ks j ≡ Some y) e (known_kept known (c ∷ cs) j y s)) h)

  pub declared : (cs : List Constructor) (k : ℕ) (x : Known) → slice_get (known_from tokens [] cs) k ≡ Some x → IsDeclared (known_from tokens [] cs) k x
  declared cs k x e = all_declared (known_from tokens [] cs) [] cs refl (λ k x e. cc) k x e

  pub constructor_at : (cs : List Constructor) (k : ℕ) (x : Known) → slice_get (known_from tokens [] cs) k ≡ Some x → slice_get cs k ≡ Some x.constructor
  constructor_at cs k x e = sym (known_at tokens cs k) ∙ ap (option_map (λ (k : Known). k.constructor)) e
