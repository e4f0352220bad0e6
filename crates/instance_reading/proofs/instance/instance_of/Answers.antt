use Rattle.std.proofs.Common.{◌^◌, ◌<◌, sym, subst, arith}
use Rattle.std.proofs.lemmas.Result.{IfOk-weaker}
use Rattle.pattern_normal.specs.Skeletons.{read_entries}
use Rattle.instance_reading.specs.Reading.{IsOnlyMeant}
use Rattle.instance_reading.proofs.OneInstance.{one_instance}
use Rattle.instance_reading.proofs.instance.instance_of.Goals as goal

pub returns : goal.returns
returns c =
    let a = c.args in
    let low : a.place.now.location < 2 ^ 32 = omega arith in
    let entries = read_entries a.place.now.spec.now.tokens a.place.now.window.now a.spots.now in
    let law = one_instance a.place.now.spec.now a.place.now.location a.constructor entries c.requires.readable low c.requires.result_of_body in
    IfOk-weaker c.instance.result _ _ (λ i m. subst (IsOnlyMeant a.place.now.spec.now a.place.now.location a.constructor entries) (sym (law.1.only i m)) law.1) c.instance.ensures
