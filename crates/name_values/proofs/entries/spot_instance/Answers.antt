use Rattle.name_values.proofs.Choices.{body_of_spot, spot_read}
use Rattle.name_values.proofs.entries.spot_instance.Goals as goal

pub instance_of-requires-clause-result_of_body : goal.instance_of-requires-clause-result_of_body
instance_of-requires-clause-result_of_body c =
    let place = c.args.place.now in let s = c.in-Choice in
    body_of_spot place s.constructor s.inner s.arguments c.as_slice-inner.result.now c.args.spot.now s.is c.as_slice-inner.ensures c.requires.results

pub returns-in_ok-instance-in-Choice : goal.returns-in_ok-instance-in-Choice
returns-in_ok-instance-in-Choice c =
    let place = c.args.place.now in let s = c.in-Choice in
    spot_read place s.constructor s.inner s.arguments c.as_slice-inner.result.now c.args.spot.now c.in_ok-instance-in-Choice.instance s.is c.as_slice-inner.ensures c.in_ok-instance-in-Choice.ensures.meant
