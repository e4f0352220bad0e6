use Rattle.std.proofs.Common.{◌≡◌, length}
use Rattle.sled_lexer.specs.Lexemes.{AllWithin}
use Rattle.sled_parser.specs.Nesting.{nest_fault, nest_fault_from}
use Rattle.sled_parser.proofs.nesting.nest_fault.Given as goal

abbrev pub invariant-loop-lexeme : goal.invariant-loop-lexeme
invariant-loop-lexeme l = AllWithin l.text l.left × (nest_fault l.text l.fn.lexemes ≡ nest_fault_from l.text l.depth l.left)

abbrev pub decreases-loop-lexeme : goal.decreases-loop-lexeme
decreases-loop-lexeme l = length l.left
