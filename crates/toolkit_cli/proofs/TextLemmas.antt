-- Why a text is refused, by the part of the reading that refuses it; and what declarations say of the text that spells them.
use Rattle.std.proofs.Common.{◌≡◌, ◌≢◌, ℕ, ◌≤◌, List, length, Some, None, refl, sym, subst}
use Rattle.std.specs.Prelude.{Option}
use Rattle.sled_lexer.specs.declared.Lexeme.{Lexeme}
use Rattle.sled_lexer.specs.declared.LexFault.{LexFault}
use Rattle.sled_lexer.specs.declared.LexFault.TheVariants as lex
use Rattle.sled_lexer.specs.Lexemes.{IsLexFault}
use Rattle.sled_parser.specs.declared.SyntaxFault.{SyntaxFault}
use Rattle.sled_parser.specs.declared.SyntaxFault.TheVariants as syntax
use Rattle.sled_parser.specs.declared.tree.Decl.{Decl}
use Rattle.sled_parser.specs.Pieces.{Input, pieces}
use Rattle.sled_parser.specs.Declarations.{IsDescription}
use Rattle.sled_parser.specs.Nesting.{nest_fault}
use Rattle.toolkit_cli.specs.declared.messages.Unit.{Unit as Part}
use Rattle.toolkit_cli.specs.Texts.{IsLexed, IsParsed, IsRefused, Stops, lex_stop, syntax_stop}
use Rattle.toolkit_cli.specs.Reply.{Shelved, IsThere}

pub not_lexed : {T : Type 0} (IsTree : Input → T → Type 0) (Lacks : T → Option (ℕ × ℕ) → Type 0) (unit : Part) (text : List ℕ) (f : LexFault) → length text ≤ 1048576
    → (f ≢ lex.NoMemory → IsLexFault text f) → Stops (IsRefused IsTree Lacks unit) text (lex_stop f)
not_lexed IsTree Lacks unit text (lex.BadByte place) short h = (short, h (λ e. cc))
not_lexed IsTree Lacks unit text (lex.OpenText place) short h = (short, h (λ e. cc))
not_lexed IsTree Lacks unit text (lex.NumberTooBig place) short h = (short, h (λ e. cc))
not_lexed IsTree Lacks unit text lex.NoMemory short h = tt

pub not_parsed : {T : Type 0} (IsTree : Input → T → Type 0) (Lacks : T → Option (ℕ × ℕ) → Type 0) (unit : Part) (text : List ℕ) (lexemes : List Lexeme) (f : SyntaxFault) → IsLexed text lexemes
    → ((p : ℕ) → f ≡ syntax.Nesting p → nest_fault text lexemes ≡ Some p) → (f ≡ syntax.Syntax → (nest_fault text lexemes ≡ None) × ((t : T) → ¬ IsTree (pieces text lexemes) t))
    → Stops (IsRefused IsTree Lacks unit) text (syntax_stop f)
not_parsed IsTree Lacks unit text lexemes (syntax.Nesting place) lexed deep none = record { lexemes = lexemes; lexed = lexed; deep = deep place refl }
not_parsed IsTree Lacks unit text lexemes syntax.Syntax lexed deep none = let h = none refl in record { lexemes = lexemes; lexed = lexed; shallow = h.0; none = h.1 }
not_parsed IsTree Lacks unit text lexemes syntax.NoMemory lexed deep none = tt

-- what holds of each text that spells the declarations holds of the text of that name
pub of_declarations : (shelf : Shelved) (name : List ℕ) (decls listed : List Decl) (P : List ℕ → Type 0) → listed ≡ decls → IsThere shelf name (λ t. IsParsed IsDescription t decls)
    → ((t : List ℕ) → IsParsed IsDescription t listed → P t) → IsThere shelf name P
of_declarations shelf name decls listed P same there holds = (there.0, λ t told. holds t (subst (IsParsed IsDescription t) (sym same) (there.1 t told)))
