-- What a text means, or why it is refused.
use Rattle.std.specs.Prelude.{◌≡◌, ℕ, Bool, false, ◌<◌, ◌≤◌, List, length, Option, None, Some}
use Rattle.sled_base.specs.declared.limits.TheConstants.{MAX_TEXT}
use Rattle.sled_base.specs.declared.faults.TextFault.{TextFault}
use Rattle.sled_base.specs.declared.faults.TextFault.TheVariants as load
use Rattle.sled_lexer.specs.declared.Lexeme.{Lexeme}
use Rattle.sled_lexer.specs.declared.LexFault.{LexFault}
use Rattle.sled_lexer.specs.declared.LexFault.TheVariants as lex
use Rattle.sled_lexer.specs.Lexemes.{Lexemes, InRange, IsLexFault}
use Rattle.sled_parser.specs.declared.SyntaxFault.{SyntaxFault}
use Rattle.sled_parser.specs.declared.SyntaxFault.TheVariants as syntax
use Rattle.sled_parser.specs.declared.tree.Decl.{Decl}
use Rattle.sled_parser.specs.declared.tree.MatchTree.{MatchTree}
use Rattle.sled_parser.specs.Pieces.{Input, pieces}
use Rattle.sled_parser.specs.Nesting.{nest_fault}
use Rattle.sled_parser.specs.Declarations.{IsDescription}
use Rattle.sled_parser.specs.Statements.{IsStatement}
use Rattle.sled_model.specs.declared.statement.Statement.{Statement}
use Rattle.sled_elab.specs.declared.fault.ElabFault.{ElabFault}
use Rattle.sled_elab.specs.declared.fault.ElabFault.TheVariants as elab
use Rattle.sled_elab.specs.Conditions.{IsDescriptionLack}
use Rattle.sled_elab.specs.Declarations.{Described}
use Rattle.sled_elab.specs.Elaboration.{described}
use Rattle.statement_building.specs.declared.fault.StatementFault.{StatementFault}
use Rattle.statement_building.specs.declared.fault.StatementFault.TheVariants as statement
use Rattle.statement_building.specs.Conditions.{statement_unmet}
use Rattle.statement_building.specs.Statements.{statement_of}
use Rattle.toolkit_cli.specs.declared.messages.Unit.{Unit as Part}
use Rattle.toolkit_cli.specs.declared.messages.Unit.TheVariants as part
use Rattle.toolkit_cli.specs.declared.messages.Problem.{Problem}
use Rattle.toolkit_cli.specs.declared.messages.Problem.TheVariants as problem
use Rattle.toolkit_cli.specs.declared.texts.TextStop.{TextStop}
use Rattle.toolkit_cli.specs.declared.texts.TextStop.TheVariants.{Unread, Refused, NoMemory}

-- the text has these lexemes
pub record IsLexed (text : List ℕ) (lexemes : List Lexeme) : Type 0 where
  pub short : length text ≤ MAX_TEXT
  pub listed : Lexemes text lexemes
  pub range : InRange text lexemes

-- the text is a sentence, and this is its tree
pub record IsParsed {T : Type 0} (IsTree : Input → T → Type 0) (text : List ℕ) (tree : T) : Type 0 where
  pub lexemes : List Lexeme
  pub lexed : IsLexed text lexemes
  pub shallow : nest_fault text lexemes ≡ None
  pub reads : IsTree (pieces text lexemes) tree

-- the text is no sentence
pub record IsNoSentence {T : Type 0} (IsTree : Input → T → Type 0) (text : List ℕ) : Type 0 where
  pub lexemes : List Lexeme
  pub lexed : IsLexed text lexemes
  pub shallow : nest_fault text lexemes ≡ None
  pub none : (tree : T) → ¬ IsTree (pieces text lexemes) tree

-- a bracket opens at that place inside too many others
pub record NestsDeep (text : List ℕ) (place : ℕ) : Type 0 where
  pub lexemes : List Lexeme
  pub lexed : IsLexed text lexemes
  pub deep : nest_fault text lexemes ≡ Some place

-- the text is a sentence, and this is the first of its parts that does not meet a condition, and the condition
pub record LacksAt {T : Type 0} (IsTree : Input → T → Type 0) (Lacks : T → Option (ℕ × ℕ) → Type 0) (text : List ℕ) (number condition : ℕ) : Type 0 where
  pub tree : T
  pub parsed : IsParsed IsTree text tree
  pub lack : Lacks tree (Some (number, condition))

-- the text is refused so: `Lacks` says which part is the first that does not meet a condition, and which it does not meet
abbrev pub IsRefused : {T : Type 0} → (Input → T → Type 0) → (T → Option (ℕ × ℕ) → Type 0) → Part → List ℕ → Problem → Type 0
IsRefused IsTree Lacks unit text problem.TooLong = MAX_TEXT < length text
IsRefused IsTree Lacks unit text (problem.BadByte place) = (length text ≤ MAX_TEXT) × IsLexFault text (lex.BadByte place)
IsRefused IsTree Lacks unit text (problem.OpenText place) = (length text ≤ MAX_TEXT) × IsLexFault text (lex.OpenText place)
IsRefused IsTree Lacks unit text (problem.NumberTooBig place) = (length text ≤ MAX_TEXT) × IsLexFault text (lex.NumberTooBig place)
IsRefused IsTree Lacks unit text (problem.Nesting place) = NestsDeep text place
IsRefused IsTree Lacks unit text problem.Syntax = IsNoSentence IsTree text
IsRefused IsTree Lacks unit text (problem.Unmet what number condition) = (what ≡ unit) × LacksAt IsTree Lacks text number condition
IsRefused IsTree Lacks unit text _ = ⊥

-- ---- descriptions

-- the text is a description that meets all conditions, and this is what it makes
pub record IsDescribed (text : List ℕ) (d : Described) : Type 0 where
  pub tree : List Decl
  pub parsed : IsParsed IsDescription text tree
  pub met : IsDescriptionLack tree None
  pub same : d ≡ described tree

abbrev pub RefusesDescription : List ℕ → Problem → Type 0
RefusesDescription text p = IsRefused IsDescription IsDescriptionLack part.Declaration text p

-- ---- statements over a description

-- the first arm that does not meet a condition over the description, and the condition
abbrev pub IsLackOver : Described → MatchTree → Option (ℕ × ℕ) → Type 0
IsLackOver d tree first = statement_unmet d.spec d.declared tree ≡ first

-- the text is a statement that meets all conditions, and this is what it makes
pub record IsStated (d : Described) (text : List ℕ) (statement : Statement) : Type 0 where
  pub tree : MatchTree
  pub parsed : IsParsed IsStatement text tree
  pub met : IsLackOver d tree None
  pub same : statement ≡ statement_of d.spec d.declared tree

abbrev pub RefusesStatement : Described → List ℕ → Problem → Type 0
RefusesStatement d text p = IsRefused IsStatement (IsLackOver d) part.Arm text p

-- ---- what stops a text

abbrev pub load_stop : TextFault → TextStop
load_stop load.TooLong = Refused problem.TooLong
load_stop load.Unread = Unread
load_stop load.NoMemory = NoMemory

abbrev pub lex_stop : LexFault → TextStop
lex_stop (lex.BadByte place) = Refused (problem.BadByte place)
lex_stop (lex.OpenText place) = Refused (problem.OpenText place)
lex_stop (lex.NumberTooBig place) = Refused (problem.NumberTooBig place)
lex_stop lex.NoMemory = NoMemory

abbrev pub syntax_stop : SyntaxFault → TextStop
syntax_stop (syntax.Nesting place) = Refused (problem.Nesting place)
syntax_stop syntax.Syntax = Refused problem.Syntax
syntax_stop syntax.NoMemory = NoMemory

abbrev pub elab_stop : ElabFault → TextStop
elab_stop (elab.Unmet declaration condition) = Refused (problem.Unmet part.Declaration declaration condition)
elab_stop elab.NoMemory = NoMemory

abbrev pub statement_stop : StatementFault → TextStop
statement_stop (statement.Unmet arm condition) = Refused (problem.Unmet part.Arm arm condition)
statement_stop statement.NoMemory = NoMemory

-- a refusal has its cause
abbrev pub Stops : (List ℕ → Problem → Type 0) → List ℕ → TextStop → Type 0
Stops refuses text (Refused p) = refuses text p
Stops refuses text Unread = Unit {0}
Stops refuses text NoMemory = Unit {0}

-- a text that is refused is there
abbrev pub StopsThere : Bool → TextStop → Type 0
StopsThere lacks (Refused p) = lacks ≡ false
StopsThere lacks _ = Unit {0}
