-- Each result of a constructor's body means one instance at each location.
use Rattle.std.proofs.Common.{ℕ, zero, suc, ◌^◌, ◌<◌, List, arith}
use Rattle.sled_model.specs.declared.constructor.ConstructorId.{ConstructorId}
use Rattle.sled_model.specs.declared.instance.Instance.{Instance}
use Rattle.sled_model.specs.declared.raw.RawEntry.{RawEntry}
use Rattle.sled_model.specs.declared.spec.Spec.{Spec}
use Rattle.sled_model.specs.Instances.{fields_in, labels_at}
use Rattle.match_meaning.specs.Readable.{IsReadableSpec}
use Rattle.instance_reading.specs.Reading.{IsBodyResult, IsOnlyMeant}
use Rattle.instance_reading.specs.Laws.{OneInstance}
use Rattle.instance_reading.proofs.Numbers.{only_numbers}
use Rattle.instance_reading.proofs.BodyReads.{IsChoiceFor}
use Rattle.instance_reading.proofs.Entries.{fields_range, labels_range}
use Rattle.instance_reading.proofs.Declared.{constructor_at}
use Rattle.instance_reading.proofs.Bodies.{standing, is_c, can_read, within, stop, what_is_read, inner_result}
use Rattle.instance_reading.proofs.Meant.{one_meant}

module _ (spec : Spec) (readable : IsReadableSpec spec) (location : ℕ) (low : location < 2 ^ 32) where
  abbrev MeansOne : ConstructorId → List RawEntry → Type 0
  MeansOne k entries = (i : Instance) × IsOnlyMeant spec location k entries i

  module _ (k : ConstructorId) (entries : List RawEntry) (b : IsBodyResult spec k entries) (below : (j : ConstructorId) (inner : List RawEntry) → j.0 < k.0 → IsBodyResult spec j inner → MeansOne j inner) where
    abbrev place : ℕ
    place = stop spec readable k entries b

    inner_means : (j : ℕ) (entry : RawEntry) (h : IsChoiceFor (within spec readable k entries b) b.bytes place j entry) → MeansOne (record { 0 = h.number }) h.found.binds
    inner_means j entry h = let inner = inner_result spec readable k entries b j entry h in below (record { 0 = h.number }) h.found.binds inner.0 inner.1

    here_means : MeansOne k entries
    here_means =
        let r = what_is_read spec readable k entries b in
        let able = can_read spec readable k entries b in
        let before = standing spec readable k entries b in
        let values = fields_range spec.tokens place entries r.each in
        let places = labels_range spec.tokens place location entries r.each b.ends low in
        let numbers = only_numbers spec.tokens b.known.constructor able.linear able.solved (labels_at location entries) (fields_in entries) values places in
        one_meant spec location b.known.constructor able before.earlier b.bytes place entries r inner_means
        (λ j x s. constructor_at spec.tokens spec.constructors j x (before.before j x s).1) numbers.0 numbers.1 k (is_c spec readable k entries b)

  up_to : (n : ℕ) (k : ConstructorId) (entries : List RawEntry) → k.0 < n → IsBodyResult spec k entries → MeansOne k entries
  up_to zero k entries l b = absurd (omega (arith, l))
  up_to (suc n) k entries l b = here_means k entries b (λ j inner m h. up_to n j inner (omega (arith, l, m)) h)

  pub means_one : (k : ConstructorId) (entries : List RawEntry) → IsBodyResult spec k entries → MeansOne k entries
  means_one k entries b = let l : k.0 < suc k.0 = omega arith in up_to (suc k.0) k entries l b

pub one_instance : OneInstance
one_instance spec location k entries readable low b = means_one spec readable location low k entries b
