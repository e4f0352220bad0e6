-- What answers a list in range or a fault answers nothing else.
use Rattle.std.proofs.Common.{◌≡◌, ◌≢◌, ℕ, List, refl, Result, Ok, Err}
use Rattle.std.specs.Prelude.{IfOk, IfErr, MatchResult}
use Rattle.sled_lexer.specs.declared.Lexeme.{Lexeme}
use Rattle.sled_lexer.specs.declared.LexFault.{LexFault}
use Rattle.sled_lexer.specs.declared.LexFault.TheVariants as fault
use Rattle.sled_lexer.specs.Lexemes.{Lexemes, InRange, IsLexFault}
use Rattle.sled_lexer.proofs.Exact.{one_list, one_fault, list_or_fault}

module _ {V : Type 0} (items : V → List Lexeme) (text : List ℕ) where
  pub only_list : (r : Result V LexFault) → IfOk r (λ v. Lexemes text (items v)) → IfErr r (λ f. f ≢ fault.NoMemory → IsLexFault text f)
      → (ls : List Lexeme) → Lexemes text ls → InRange text ls → MatchResult r (λ v. items v ≡ ls) (λ f. f ≡ fault.NoMemory)
  only_list (Ok v) ok why ls all in_range = one_list text (items v) ls ok all
  only_list (Err (fault.BadByte place)) ok why ls all in_range = absurd (list_or_fault text ls (fault.BadByte place) all in_range (why (λ e. cc)))
  only_list (Err (fault.OpenText place)) ok why ls all in_range = absurd (list_or_fault text ls (fault.OpenText place) all in_range (why (λ e. cc)))
  only_list (Err (fault.NumberTooBig place)) ok why ls all in_range = absurd (list_or_fault text ls (fault.NumberTooBig place) all in_range (why (λ e. cc)))
  only_list (Err fault.NoMemory) ok why ls all in_range = refl

  pub only_fault : (r : Result V LexFault) → IfOk r (λ v. Lexemes text (items v)) → IfOk r (λ v. InRange text (items v)) → IfErr r (λ f. f ≢ fault.NoMemory → IsLexFault text f)
      → (f : LexFault) → IsLexFault text f → MatchResult r (λ _. ⊥) (λ g. g ≢ fault.NoMemory → g ≡ f)
  only_fault (Ok v) ok in_range why f is = list_or_fault text (items v) f ok in_range is
  only_fault (Err g) ok in_range why f is = λ some. one_fault text g f (why some) is
