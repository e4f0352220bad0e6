use Rattle.std.proofs.Common.{ℕ, List, Option, IfSome, subst, arith}
use Rattle.std.proofs.lemmas.Result.{IfOk-weaker}
use Rattle.sled_model.specs.declared.instance.Operand.{Operand}
use Rattle.match_meaning.specs.Names.{AreNameValues}
use Rattle.name_values.specs.Values.{entries_at}
use Rattle.name_values.proofs.OneValue.{only_these}
use Rattle.name_values.proofs.names.values.Goals as goal

pub returns-in-None : goal.returns-in-None
returns-in-None c =
    let place = c.args.place.now in let entries = entries_at place c.args.spots.now in
    IfOk-weaker c.named_values.result _ _
    (λ vs are.
    only_these place.spec.now place.location entries c.args.arm.now.names vs c.requires.readable (omega arith) c.requires.results
    (subst (λ (ns : List (List ℕ)). AreNameValues place.spec.now place.location entries 0 ns vs) c.as_slice-names.ensures are))
    c.named_values.ensures

pub returns-in-Some : goal.returns-in-Some
returns-in-Some c =
    let place = c.args.place.now in let entries = entries_at place c.args.spots.now in
    only_these place.spec.now place.location entries c.args.arm.now.names c.in-Some.values c.requires.readable (omega arith) c.requires.results
    (subst (λ (ns : List (List ℕ)). AreNameValues place.spec.now place.location entries 0 ns c.in-Some.values) c.as_slice-names.ensures
    (subst (λ (o : Option (List Operand)). IfSome o (AreNameValues place.spec.now place.location entries 0 c.as_slice-names.result.now)) c.in-Some.is c.in_ok-values.ensures))
