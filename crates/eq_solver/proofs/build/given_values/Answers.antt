use Rattle.std.proofs.Common.{◌≢◌, AllPairs, subst, sym}
use Rattle.eq_solver.proofs.Few.{few_fits}
use Rattle.eq_solver.proofs.GivenValues.{values_among}
use Rattle.eq_solver.proofs.build.given_values.Goals as goal

pub celled_values-requires-clause-few : goal.celled_values-requires-clause-few
celled_values-requires-clause-few c = few_fits c.args.fields.now c.type_inv.fields (subst (AllPairs (λ f g. f ≢ g)) (sym c.requires.fields) c.requires.linear.once)

pub celled_values-requires-clause-among : goal.celled_values-requires-clause-among
celled_values-requires-clause-among c =
    values_among c.args.tokens.now c.args.constructor.now c.args.fields.now c.in-Ok.given.values c.as_slice.result.now c.requires.fields c.as_slice.ensures c.requires.linear c.in-Ok.ensures.values.values
