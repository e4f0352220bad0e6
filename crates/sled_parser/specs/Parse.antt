-- What the calls that parse a whole text answer.
use Rattle.std.specs.Prelude.{◌≡◌, List, Result, Ok, Err}
use Rattle.std.specs.declared.vec.Vec.{Vec}
use Rattle.sled_parser.specs.declared.fault.Fault.{Fault}
use Rattle.sled_parser.specs.declared.fault.Fault.TheVariants as fault
use Rattle.sled_parser.specs.declared.fault.SyntaxFault.{SyntaxFault}
use Rattle.sled_parser.specs.declared.fault.SyntaxFault.TheVariants as syntax

-- the answer is this tree, unless memory failed
abbrev pub Answers : {A : Type 0} → A → Result A SyntaxFault → Type 0
Answers x (Ok y) = y ≡ x
Answers x (Err syntax.NoMemory) = Unit {0}
Answers x (Err _) = ⊥

abbrev pub IsNoMemory : SyntaxFault → Type 0
IsNoMemory syntax.NoMemory = Unit {0}
IsNoMemory _ = ⊥

-- the answer is these trees in their order, unless memory failed
abbrev pub AnswersAll : {A Z : Type 0} → List A → Result (Vec A Z) SyntaxFault → Type 0
AnswersAll xs (Ok v) = v.items ≡ xs
AnswersAll xs (Err e) = IsNoMemory e

abbrev pub refusal : Fault → SyntaxFault
refusal fault.Syntax = syntax.Syntax
refusal fault.NoMemory = syntax.NoMemory
