use Rattle.std.proofs.Common.{arith}
use Rattle.image_listing.proofs.Windows.{front_of}
use Rattle.image_listing.proofs.window.Window.front.Goals as goal

pub returns-clause-front : goal.returns-clause-front
returns-clause-front c = front_of c.min.result c.as_slice-held.result.now c.args.self.now.held.items (omega arith) c.as_slice-held.ensures.value
