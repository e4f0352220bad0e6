use Rattle.std.proofs.Common.{◌≡◌, ◌<◌, ◌≤◌, ℕ, List, length, take, Result, Ok, Err, sym, ap, subst, ◌∙◌, refl, length-take, arith}
use Rattle.image_listing.specs.declared.answers.Stop.{Stop}
use Rattle.image_listing.specs.Places.{IsStep, IsWithin}
use Rattle.image_listing.proofs.Come.{come_filled, come_line}
use Rattle.image_listing.proofs.Windows.{some_held}
use Rattle.image_listing.proofs.Ends.{wrote_part, all_listed, front_written, refused, was_cut, proper_part}
use Rattle.image_listing.proofs.listing.list.Goals as goal

pub returns-in_default-clause-listed : goal.returns-in_default-clause-listed
returns-in_default-clause-listed g c taking stood =
    let come = come_filled _ _ _ _ _ _ _ _ _ _ _ _ _ c.loop-line.invariant.come c.fill.ensures.filled in (
      omega (arith, c.in_default.ensures.cause.failed, c.loop-line.invariant.later),
      front_written _ taking stood _ _ _ _ _ _ _ _ _ come c.in_default.ensures.unended c.in_default.ensures.few,
      wrote_part _ taking stood _ _ _ _ _ _ _ _ _ come,
    )

pub set_place-requires-clause-short : goal.set_place-requires-clause-short
set_place-requires-clause-short g c = omega (arith, ap length c.front-front.ensures.front, length-take 32 c.fill.new.self.held.items)

pub returns-in_default-set_place-clause-listed : goal.returns-in_default-set_place-clause-listed
returns-in_default-set_place-clause-listed g c taking stood =
    let come = come_filled _ _ _ _ _ _ _ _ _ _ _ _ _ c.loop-line.invariant.come c.fill.ensures.filled in
    wrote_part _ taking stood _ _ _ _ _ _ _ _ _ come

pub returns-in-Err-clause-listed : goal.returns-in-Err-clause-listed
returns-in-Err-clause-listed g c taking stood =
    let come = come_filled _ _ _ _ _ _ _ _ _ _ _ _ _ c.loop-line.invariant.come c.fill.ensures.filled in
    let front = c.front-front.ensures.front in
    let some = some_held c.fill.new.self.held.items c.front-front.result.now front c.if-is_empty.ensures in
    refused _ taking stood _ _ _ _ _ _ _ _ _ come c.in-Ok.ensures.enough some c.front-front.ensures.bounded _ _ _ _ c.front-front.result.now c.set_place.new.self.text.items c.in-Err.stop c.from.result c.from.ensures
    (subst (λ (s : Result ℕ Stop). IsWithin c.loop-line.end c.front-front.result.now s) c.in-Err.is c.in-Ok-set_place.ensures.within)
    (λ bytes same.
    subst (λ (s : Result ℕ Stop). IsStep taking c.loop-line.end bytes c.set_place.new.self.text.items s) c.in-Err.is
    (c.in-Ok-set_place.ensures.step taking bytes (c.loop-line.invariant.stands taking stood) (front ∙ same)))

pub returns-in_default-write_all-clause-listed : goal.returns-in_default-write_all-clause-listed
returns-in_default-write_all-clause-listed g c taking stood =
    let come = come_filled _ _ _ _ _ _ _ _ _ _ _ _ _ c.loop-line.invariant.come c.fill.ensures.filled in
    let front = c.front-front.ensures.front in
    let some = some_held c.fill.new.self.held.items c.front-front.result.now front c.if-is_empty.ensures in
    let step = λ (bytes : List ℕ) (same : take 32 c.fill.new.self.held.items ≡ take 32 bytes).
    subst (λ (s : Result ℕ Stop). IsStep taking c.loop-line.end bytes c.set_place.new.self.text.items s) c.in-Ok-step.is
    (c.in-Ok-set_place.ensures.step taking bytes (c.loop-line.invariant.stands taking stood) (front ∙ same)) in
    let cut = rw c.deref.ensures.value at c.in_default-write_all.ensures.failed in (
      omega (arith, c.in_default-write_all.ensures.cause.failed, c.loop-line.invariant.later_out),
      was_cut _ taking stood _ _ _ _ _ _ _ _ _ come c.in-Ok.ensures.enough some c.front-front.ensures.bounded c.set_place.new.self.text.items c.in-Ok-step.count cut.0 _ step cut.1 cut.2,
      proper_part _ taking stood _ _ _ _ _ _ _ _ _ come c.in-Ok.ensures.enough some c.front-front.ensures.bounded c.set_place.new.self.text.items c.in-Ok-step.count cut.0 _ step cut.1 cut.2,
    )

pub pass-requires : goal.pass-requires
pass-requires g c =
    let within = subst (λ (s : Result ℕ Stop). IsWithin c.loop-line.end c.front-front.result.now s) c.in-Ok-step.is c.in-Ok-set_place.ensures.within in
    omega (arith, within.1, ap length c.front-front.ensures.front, length-take 32 c.fill.new.self.held.items)

pub loop-line-preserved : goal.loop-line-preserved
loop-line-preserved g c =
    let come = come_filled _ _ _ _ _ _ _ _ _ _ _ _ _ c.loop-line.invariant.come c.fill.ensures.filled in
    let front = c.front-front.ensures.front in
    let some = some_held c.fill.new.self.held.items c.front-front.result.now front c.if-is_empty.ensures in
    let within = subst (λ (s : Result ℕ Stop). IsWithin c.loop-line.end c.front-front.result.now s) c.in-Ok-step.is c.in-Ok-set_place.ensures.within in
    let count : c.in-Ok-step.count ≤ length c.fill.new.self.held.items = omega (arith, within.1, ap length front, length-take 32 c.fill.new.self.held.items) in
    record {
      come = come_line _ _ _ _ _ _ _ _ _ c.set_place.new.self.text.items _ _ _ _ c.in-Ok-step.count _ _ come c.in-Ok.ensures.enough some
          (λ taking bytes stood same.
          subst (λ (s : Result ℕ Stop). IsStep taking c.loop-line.end bytes c.set_place.new.self.text.items s) c.in-Ok-step.is
          (c.in-Ok-set_place.ensures.step taking bytes (c.loop-line.invariant.stands taking stood) (front ∙ same)))
          count within.0 within.2 (rw c.deref.ensures.value at c.in-Ok-write_all.ensures.ok) c.pass.ensures.held c.pass.ensures.at_end refl refl;
      stands = λ taking stood. c.set_place.ensures.same taking (c.loop-line.invariant.stands taking stood);
      later = omega (arith, c.loop-line.invariant.later, c.fill.ensures.cause.later);
      later_out = omega (arith, c.loop-line.invariant.later_out, c.write_all.ensures.cause.later);
    }
