use Rattle.std.proofs.Common.{arith}
use Rattle.std.proofs.lemmas.List.Elements.{All-weaker}
use Rattle.sled_model.specs.PlainStatements.{IsBoundedArm}
use Rattle.sled_model.proofs.Front.{bounded-front}
use Rattle.match_meaning.specs.Matchable.{IsMatchableArm}
use Rattle.arm_matching.proofs.laws.first_on_front.Goals as goal

pub returns : goal.returns
returns c = λ spec statement bytes ready. bounded-front spec statement (All-weaker (IsMatchableArm spec) (IsBoundedArm spec) (λ arm h. h.bounded) statement.arms ready.arms) bytes 32 (omega arith)
