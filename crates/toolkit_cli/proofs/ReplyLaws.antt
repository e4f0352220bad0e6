-- What a text comes to is unique: one meaning or one refusal, and never both; and so is what words and texts come to.
use Rattle.std.proofs.Common.{◌≡◌, ℕ, ◌<◌, ◌≤◌, inl, inr, List, length, Some, None, refl, sym, ◌∙◌, ap, subst, arith}
use Rattle.std.specs.Prelude.{Option}
use Rattle.sled_base.specs.declared.limits.TheConstants.{MAX_TEXT}
use Rattle.sled_lexer.specs.declared.Lexeme.{Lexeme}
use Rattle.sled_lexer.specs.declared.LexFault.{LexFault}
use Rattle.sled_lexer.specs.declared.LexFault.TheVariants as lex
use Rattle.sled_lexer.specs.Lexemes.{IsLexFault}
use Rattle.sled_lexer.proofs.Exact.{one_list, one_fault, list_or_fault}
use Rattle.sled_parser.specs.declared.tree.MatchTree.{MatchTree}
use Rattle.sled_parser.specs.Pieces.{Input, pieces}
use Rattle.sled_parser.specs.Nesting.{nest_fault}
use Rattle.sled_parser.specs.Declarations.{IsDescription}
use Rattle.sled_parser.specs.Statements.{IsStatement}
use Rattle.sled_parser.proofs.OnlyDescription.{one_description}
use Rattle.sled_parser.proofs.Only.{one_statement}
use Rattle.sled_model.specs.declared.statement.Statement.{Statement}
use Rattle.match_meaning.specs.Matchable.{IsMatchable}
use Rattle.image_listing.specs.Listing.{Listing, Taking}
use Rattle.disassembler.specs.Disassembly.{IsTakingOf}
use Rattle.disassembler.proofs.Taken.{one_taking}
use Rattle.sled_elab.specs.Conditions.{IsDescriptionLack}
use Rattle.sled_elab.specs.Declarations.{Described}
use Rattle.sled_elab.specs.Elaboration.{described}
use Rattle.sled_elab.proofs.LackLaws.{description_lack_one}
use Rattle.statement_building.specs.Statements.{statement_of}
use Rattle.toolkit_cli.specs.declared.messages.Unit.{Unit as Part}
use Rattle.toolkit_cli.specs.declared.messages.Unit.TheVariants as part
use Rattle.toolkit_cli.specs.declared.messages.Problem.{Problem}
use Rattle.toolkit_cli.specs.declared.messages.Problem.TheVariants as problem
use Rattle.toolkit_cli.specs.Words.{Words}
use Rattle.toolkit_cli.specs.Texts.{IsLexed, IsParsed, IsNoSentence, NestsDeep, IsRefused, IsDescribed, RefusesDescription, IsLackOver, IsStated, RefusesStatement}
use Rattle.std.specs.Option.{ForSome}
use Rattle.toolkit_cli.specs.Reply.{Settled, Shelved, no_form, refused_text, accepted, MakesBoth, SettlesDis, Settles, TellsTexts, Reply, reply, listing_reply}
use Rattle.toolkit_cli.specs.Stands.{Answered}
use Rattle.toolkit_cli.proofs.Accepted.{accepted_matchable}
use Rattle.toolkit_cli.proofs.OneListing.{one_listing}

-- ---- where the reading of a text ends

data Stage (T : Type 0) : Type 0 where
  too_long : Stage T
  fault : LexFault → Stage T
  deep : ℕ → Stage T
  no_sentence : Stage T
  -- the tree, and the first of its parts that does not meet a condition
  read : T → Option (ℕ × ℕ) → Stage T

abbrev EndsAt : {T : Type 0} → (Input → T → Type 0) → (T → Option (ℕ × ℕ) → Type 0) → List ℕ → Stage T → Type 0
EndsAt IsTree Lacks text too_long = MAX_TEXT < length text
EndsAt IsTree Lacks text (fault f) = (length text ≤ MAX_TEXT) × IsLexFault text f
EndsAt IsTree Lacks text (deep place) = NestsDeep text place
EndsAt IsTree Lacks text no_sentence = IsNoSentence IsTree text
EndsAt IsTree Lacks text (read tree first) = IsParsed IsTree text tree × Lacks tree first

abbrev lex_problem : LexFault → Option Problem
lex_problem (lex.BadByte place) = Some (problem.BadByte place)
lex_problem (lex.OpenText place) = Some (problem.OpenText place)
lex_problem (lex.NumberTooBig place) = Some (problem.NumberTooBig place)
lex_problem lex.NoMemory = None

abbrev found_problem : Part → Option (ℕ × ℕ) → Option Problem
found_problem unit None = None
found_problem unit (Some (number, condition)) = Some (problem.Unmet unit number condition)

-- what a text is refused for that ends there
abbrev stage_problem : {T : Type 0} → Part → Stage T → Option Problem
stage_problem unit too_long = Some problem.TooLong
stage_problem unit (fault f) = lex_problem f
stage_problem unit (deep place) = Some (problem.Nesting place)
stage_problem unit no_sentence = Some problem.Syntax
stage_problem unit (read tree first) = found_problem unit first

-- ---- there is one such end

long_and_short : {A : Type 0} (text : List ℕ) → MAX_TEXT < length text → length text ≤ MAX_TEXT → A
long_and_short text long short = absurd (omega (arith, long, short))

fault_and_lexed : {A : Type 0} (text : List ℕ) (f : LexFault) (ls : List Lexeme) → IsLexFault text f → IsLexed text ls → A
fault_and_lexed text f ls is lexed = absurd (list_or_fault text ls f lexed.listed lexed.range is)

one_lexed : (text : List ℕ) (ls ms : List Lexeme) → IsLexed text ls → IsLexed text ms → ls ≡ ms
one_lexed text ls ms a b = one_list text ls ms a.listed b.listed

one_nesting : (text : List ℕ) (ls ms : List Lexeme) (x y : Option ℕ) → IsLexed text ls → IsLexed text ms → nest_fault text ls ≡ x → nest_fault text ms ≡ y → x ≡ y
one_nesting text ls ms x y a b is_x is_y = sym is_x ∙ ap (nest_fault text) (one_lexed text ls ms a b) ∙ is_y

deep_and_shallow : {A : Type 0} (text : List ℕ) (place : ℕ) (ls : List Lexeme) → NestsDeep text place → IsLexed text ls → nest_fault text ls ≡ None → A
deep_and_shallow text place ls d lexed shallow =
    let clash : Some place ≡ None = one_nesting text d.lexemes ls (Some place) None d.lexed lexed d.deep shallow in
    absurd cc

one_place : (text : List ℕ) (p q : ℕ) → NestsDeep text p → NestsDeep text q → p ≡ q
one_place text p q a b =
    let same : Some p ≡ Some q = one_nesting text a.lexemes b.lexemes (Some p) (Some q) a.lexed b.lexed a.deep b.deep in
    cc

none_and_tree : {T A : Type 0} (IsTree : Input → T → Type 0) (text : List ℕ) (tree : T) → IsNoSentence IsTree text → IsParsed IsTree text tree → A
none_and_tree IsTree text tree n p =
    absurd (n.none tree (subst (λ (ls : List Lexeme). IsTree (pieces text ls) tree) (one_lexed text p.lexemes n.lexemes p.lexed n.lexed) p.reads))

one_tree : {T : Type 0} (IsTree : Input → T → Type 0) → ((i : Input) (s t : T) → IsTree i s → IsTree i t → s ≡ t) → (text : List ℕ) (s t : T) → IsParsed IsTree text s → IsParsed IsTree text t → s ≡ t
one_tree IsTree only text s t a b =
    only (pieces text b.lexemes) s t (subst (λ (ls : List Lexeme). IsTree (pieces text ls) s) (one_lexed text a.lexemes b.lexemes a.lexed b.lexed) a.reads) b.reads

-- the trees are one, and so is the first that does not meet a condition
one_read : {T : Type 0} (Lacks : T → Option (ℕ × ℕ) → Type 0) → ((t : T) (p q : Option (ℕ × ℕ)) → Lacks t p → Lacks t q → p ≡ q) → (s t : T) (p q : Option (ℕ × ℕ)) → s ≡ t → Lacks s p → Lacks t q
    → read s p ≡ read t q
one_read Lacks one s t p q same x y =
    let there : Lacks t p = subst (λ z. Lacks z p) same x in
    ap (λ z. read z p) same ∙ ap (read t) (one t p q there y)

one_stage : {T : Type 0} (IsTree : Input → T → Type 0) → ((i : Input) (s t : T) → IsTree i s → IsTree i t → s ≡ t) → (Lacks : T → Option (ℕ × ℕ) → Type 0)
    → ((t : T) (p q : Option (ℕ × ℕ)) → Lacks t p → Lacks t q → p ≡ q) → (text : List ℕ) (a b : Stage T) → EndsAt IsTree Lacks text a → EndsAt IsTree Lacks text b → a ≡ b
one_stage IsTree only Lacks one text too_long too_long x y = refl
one_stage IsTree only Lacks one text too_long (fault g) x y = long_and_short text x y.0
one_stage IsTree only Lacks one text too_long (deep q) x y = long_and_short text x y.lexed.short
one_stage IsTree only Lacks one text too_long no_sentence x y = long_and_short text x y.lexed.short
one_stage IsTree only Lacks one text too_long (read t r) x y = long_and_short text x y.0.lexed.short
one_stage IsTree only Lacks one text (fault f) too_long x y = long_and_short text y x.0
one_stage IsTree only Lacks one text (fault f) (fault g) x y = ap fault (one_fault text f g x.1 y.1)
one_stage IsTree only Lacks one text (fault f) (deep q) x y = fault_and_lexed text f y.lexemes x.1 y.lexed
one_stage IsTree only Lacks one text (fault f) no_sentence x y = fault_and_lexed text f y.lexemes x.1 y.lexed
one_stage IsTree only Lacks one text (fault f) (read t r) x y = fault_and_lexed text f y.0.lexemes x.1 y.0.lexed
one_stage IsTree only Lacks one text (deep p) too_long x y = long_and_short text y x.lexed.short
one_stage IsTree only Lacks one text (deep p) (fault g) x y = fault_and_lexed text g x.lexemes y.1 x.lexed
one_stage IsTree only Lacks one text (deep p) (deep q) x y = ap deep (one_place text p q x y)
one_stage IsTree only Lacks one text (deep p) no_sentence x y = deep_and_shallow text p y.lexemes x y.lexed y.shallow
one_stage IsTree only Lacks one text (deep p) (read t r) x y = deep_and_shallow text p y.0.lexemes x y.0.lexed y.0.shallow
one_stage IsTree only Lacks one text no_sentence too_long x y = long_and_short text y x.lexed.short
one_stage IsTree only Lacks one text no_sentence (fault g) x y = fault_and_lexed text g x.lexemes y.1 x.lexed
one_stage IsTree only Lacks one text no_sentence (deep q) x y = deep_and_shallow text q x.lexemes y x.lexed x.shallow
one_stage IsTree only Lacks one text no_sentence no_sentence x y = refl
one_stage IsTree only Lacks one text no_sentence (read t r) x y = none_and_tree IsTree text t x y.0
one_stage IsTree only Lacks one text (read s r) too_long x y = long_and_short text y x.0.lexed.short
one_stage IsTree only Lacks one text (read s r) (fault g) x y = fault_and_lexed text g x.0.lexemes y.1 x.0.lexed
one_stage IsTree only Lacks one text (read s r) (deep q) x y = deep_and_shallow text q x.0.lexemes y x.0.lexed x.0.shallow
one_stage IsTree only Lacks one text (read s r) no_sentence x y = none_and_tree IsTree text s y x.0
one_stage IsTree only Lacks one text (read s p) (read t q) x y = one_read Lacks one s t p q (one_tree IsTree only text s t x.0 y.0) x.1 y.1

-- ---- a refusal tells where the reading ends

record IsEnd {T : Type 0} (IsTree : Input → T → Type 0) (Lacks : T → Option (ℕ × ℕ) → Type 0) (unit : Part) (text : List ℕ) (found : Option Problem) : Type 0 where
  pub stage : Stage T
  pub ends : EndsAt IsTree Lacks text stage
  pub is : stage_problem unit stage ≡ found

module _ {T : Type 0} (IsTree : Input → T → Type 0) (Lacks : T → Option (ℕ × ℕ) → Type 0) (unit : Part) (text : List ℕ) where
  refused_end : (p : Problem) → IsRefused IsTree Lacks unit text p → IsEnd IsTree Lacks unit text (Some p)
  refused_end problem.Unread h = absurd h
  refused_end problem.TooLong h = record { stage = too_long; ends = h; is = refl }
  refused_end (problem.BadByte place) h = record { stage = fault (lex.BadByte place); ends = h; is = refl }
  refused_end (problem.OpenText place) h = record { stage = fault (lex.OpenText place); ends = h; is = refl }
  refused_end (problem.NumberTooBig place) h = record { stage = fault (lex.NumberTooBig place); ends = h; is = refl }
  refused_end problem.Syntax h = record { stage = no_sentence; ends = h; is = refl }
  refused_end (problem.Nesting place) h = record { stage = deep place; ends = h; is = refl }
  refused_end (problem.Unmet what number condition) h = record {
    stage = read h.1.tree (Some (number, condition));
    ends = (h.1.parsed, h.1.lack);
    is = ap (λ (w : Part). Some (problem.Unmet w number condition)) (sym h.0);
  }
  refused_end (problem.NoMatch address) h = absurd h
  refused_end (problem.AddressEnd address) h = absurd h

  module _ (only : (i : Input) (s t : T) → IsTree i s → IsTree i t → s ≡ t) (one : (t : T) (p q : Option (ℕ × ℕ)) → Lacks t p → Lacks t q → p ≡ q) where
    one_found : (x y : Option Problem) → IsEnd IsTree Lacks unit text x → IsEnd IsTree Lacks unit text y → x ≡ y
    one_found x y a b = sym a.is ∙ ap (stage_problem unit) (one_stage IsTree only Lacks one text a.stage b.stage a.ends b.ends) ∙ b.is

    -- a text has one refusal at most
    pub one_refusal : (p q : Problem) → IsRefused IsTree Lacks unit text p → IsRefused IsTree Lacks unit text q → p ≡ q
    one_refusal p q a b =
        let same : Some p ≡ Some q = one_found (Some p) (Some q) (refused_end p a) (refused_end q b) in
        cc

    -- and none where it meets all conditions
    pub whole_stands : (tree : T) (p : Problem) → IsParsed IsTree text tree → Lacks tree None → ¬ IsRefused IsTree Lacks unit text p
    whole_stands tree p parsed met h =
        let clash : None ≡ Some p = one_found None (Some p) (record { stage = read tree None; ends = (parsed, met); is = refl }) (refused_end p h) in
        absurd cc

-- ---- descriptions

pub one_described : (text : List ℕ) (a b : Described) → IsDescribed text a → IsDescribed text b → a ≡ b
one_described text a b x y = x.same ∙ ap described (one_tree IsDescription one_description text x.tree y.tree x.parsed y.parsed) ∙ sym y.same

pub described_stands : (text : List ℕ) (a : Described) (p : Problem) → IsDescribed text a → ¬ RefusesDescription text p
described_stands text a p x h = whole_stands IsDescription IsDescriptionLack part.Declaration text one_description description_lack_one x.tree p x.parsed x.met h

pub one_refusal_of_spec : (text : List ℕ) (p q : Problem) → RefusesDescription text p → RefusesDescription text q → p ≡ q
one_refusal_of_spec text p q x y = one_refusal IsDescription IsDescriptionLack part.Declaration text one_description description_lack_one p q x y

-- ---- statements over a description

pub one_stated : (d : Described) (text : List ℕ) (a b : Statement) → IsStated d text a → IsStated d text b → a ≡ b
one_stated d text a b x y = x.same ∙ ap (statement_of d.spec d.declared) (one_tree IsStatement one_statement text x.tree y.tree x.parsed y.parsed) ∙ sym y.same

lack_over_one : (d : Described) (tree : MatchTree) (p q : Option (ℕ × ℕ)) → IsLackOver d tree p → IsLackOver d tree q → p ≡ q
lack_over_one d tree p q x y = sym x ∙ y

pub stated_stands : (d : Described) (text : List ℕ) (a : Statement) (p : Problem) → IsStated d text a → ¬ RefusesStatement d text p
stated_stands d text a p x h = whole_stands IsStatement (IsLackOver d) part.Arm text one_statement (lack_over_one d) x.tree p x.parsed x.met h

pub one_refusal_of_match : (d : Described) (text : List ℕ) (p q : Problem) → RefusesStatement d text p → RefusesStatement d text q → p ≡ q
one_refusal_of_match d text p q x y = one_refusal IsStatement (IsLackOver d) part.Arm text one_statement (lack_over_one d) p q x y

-- ---- what words and texts come to

-- where SPEC is refused it comes to that, whatever MATCH is
pub settled_by_spec : (words : Words) (shelf : Shelved) (t : List ℕ) (p : Problem) (a : Settled) → shelf.text words.spec ≡ Some t → RefusesDescription t p → SettlesDis words shelf a → a ≡ refused_text words.spec p
settled_by_spec words shelf t p no_form told refuses x = absurd x
settled_by_spec words shelf t p (refused_text name q) told refuses (inl h) = ap (λ (n : List ℕ). refused_text n q) h.0 ∙ ap (refused_text words.spec) (one_refusal_of_spec t q p (h.1.1 t told) refuses)
settled_by_spec words shelf t p (refused_text name q) told refuses (inr h) = absurd (described_stands t h.1.0 p (h.1.1.1 t told) refuses)
settled_by_spec words shelf t p (accepted taking base) told refuses x = absurd (described_stands t x.1.description p (x.1.spec.1 t told) refuses)

-- where SPEC makes a description and MATCH is refused over it, it comes to that
pub settled_by_match : (words : Words) (shelf : Shelved) (t m : List ℕ) (d : Described) (p : Problem) (a : Settled) → shelf.text words.spec ≡ Some t → shelf.text words.matching ≡ Some m
    → IsDescribed t d → RefusesStatement d m p → SettlesDis words shelf a → a ≡ refused_text words.matching p
settled_by_match words shelf t m d p no_form told_spec told_match makes refuses x = absurd x
settled_by_match words shelf t m d p (refused_text name q) told_spec told_match makes refuses (inl h) = absurd (described_stands t d q makes (h.1.1 t told_spec))
settled_by_match words shelf t m d p (refused_text name q) told_spec told_match makes refuses (inr h) =
    let over : RefusesStatement d m q = subst (λ (e : Described). RefusesStatement e m q) (one_described t h.1.0 d (h.1.1.1 t told_spec) makes) (h.1.2.1 m told_match) in
    ap (λ (n : List ℕ). refused_text n q) h.0 ∙ ap (refused_text words.matching) (one_refusal_of_match d m q p over refuses)
settled_by_match words shelf t m d p (accepted taking base) told_spec told_match makes refuses x =
    absurd (stated_stands d m x.1.statement p (subst (λ (e : Described). IsStated e m x.1.statement) (one_described t x.1.description d (x.1.spec.1 t told_spec) makes) (x.1.stated.1 m told_match)) refuses)

-- the reply to both is one, whatever the input is
abbrev pub AreAlike : Settled → Settled → Type 0
AreAlike a b = (input : Option (List ℕ)) → reply a input ≡ reply b input

alike : (a b : Settled) → a ≡ b → AreAlike a b
alike a b same input = ap (λ (x : Settled). reply x input) same

-- two takings of a statement have one reply
one_reply : (d : Described) (statement : Statement) (one other : Taking) (base : ℕ) → IsMatchable d.spec statement → IsTakingOf d.spec statement one → IsTakingOf d.spec statement other
    → AreAlike (accepted one base) (accepted other base)
one_reply d statement one other base matchable takes others None = refl
one_reply d statement one other base matchable takes others (Some bytes) =
    ap (λ (l : Listing). Some (listing_reply l)) (one_listing one other (one_taking d.spec statement one other matchable takes others) base bytes)

-- where both are accepted it comes to what they make, with the base of the words
pub settled_by_both : (words : Words) (shelf : Shelved) (t m : List ℕ) (both : (taking : Taking) × MakesBoth words shelf taking) (a : Settled) → shelf.text words.spec ≡ Some t → shelf.text words.matching ≡ Some m
    → SettlesDis words shelf a → AreAlike a (accepted both.0 words.base)
settled_by_both words shelf t m both no_form told_spec told_match x = absurd x
settled_by_both words shelf t m (taking, both) (refused_text name q) told_spec told_match (inl h) = absurd (described_stands t both.description q (both.spec.1 t told_spec) (h.1.1 t told_spec))
settled_by_both words shelf t m (taking, both) (refused_text name q) told_spec told_match (inr h) =
    absurd (stated_stands both.description m both.statement q (both.stated.1 m told_match)
    (subst (λ (e : Described). RefusesStatement e m q) (one_described t h.1.0 both.description (h.1.1.1 t told_spec) (both.spec.1 t told_spec)) (h.1.2.1 m told_match)))
settled_by_both words shelf t m (taking, both) (accepted other base) told_spec told_match x = λ input.
    let d = both.description in
    let same : x.1.description ≡ d = one_described t x.1.description d (x.1.spec.1 t told_spec) (both.spec.1 t told_spec) in
    let over : IsStated d m x.1.statement = subst (λ (e : Described). IsStated e m x.1.statement) same (x.1.stated.1 m told_match) in
    let stated : x.1.statement ≡ both.statement = one_stated d m x.1.statement both.statement over (both.stated.1 m told_match) in
    let takes : IsTakingOf d.spec both.statement other =
    subst (λ (s : Statement). IsTakingOf d.spec s other) stated (subst (λ (e : Described). IsTakingOf e.spec x.1.statement other) same x.1.takes) in
    let matchable = accepted_matchable t m d both.statement (both.spec.1 t told_spec) (both.stated.1 m told_match) in
    alike (accepted other base) (accepted other words.base) (ap (accepted other) x.0) input ∙ one_reply d both.statement other taking words.base matchable takes both.takes input

-- all that they come to is alike
record Comes (words : Words) (shelf : Shelved) : Type 0 where
  pub to : Settled
  pub only : (a : Settled) → SettlesDis words shelf a → AreAlike a to

comes : (words : Words) (shelf : Shelved) (t m : List ℕ) (a : Settled) → shelf.text words.spec ≡ Some t → shelf.text words.matching ≡ Some m → SettlesDis words shelf a → Comes words shelf
comes words shelf t m no_form told_spec told_match x = absurd x
comes words shelf t m (refused_text name p) told_spec told_match (inl h) =
    record { to = refused_text words.spec p; only = λ b y. alike b (refused_text words.spec p) (settled_by_spec words shelf t p b told_spec (h.1.1 t told_spec) y) }
comes words shelf t m (refused_text name p) told_spec told_match (inr h) = record {
  to = refused_text words.matching p;
  only = λ b y. alike b (refused_text words.matching p) (settled_by_match words shelf t m h.1.0 p b told_spec told_match (h.1.1.1 t told_spec) (h.1.2.1 m told_match) y);
}
comes words shelf t m (accepted taking base) told_spec told_match x = record { to = accepted taking words.base; only = λ b y. settled_by_both words shelf t m (taking, x.1) b told_spec told_match y }

-- words and told texts come to one thing at most
pub one_settled : (words : Words) (shelf : Shelved) (spec matching : List ℕ) (a b : Settled) → shelf.text words.spec ≡ Some spec → shelf.text words.matching ≡ Some matching
    → SettlesDis words shelf a → SettlesDis words shelf b → AreAlike a b
one_settled words shelf spec matching a b told_spec told_match x y input =
    let c = comes words shelf spec matching a told_spec told_match x in
    c.only a x input ∙ sym (c.only b y input)

-- so where they ask for nothing
pub one_settled_unasked : (shelf : Shelved) (a b : Settled) → Settles None shelf a → Settles None shelf b → AreAlike a b
one_settled_unasked shelf a b x y = alike a b (x ∙ sym y)

-- where all texts are told, what holds of the reply to something that words and texts come to holds of the reply to anything that they come to
pub only_settled : (asked : Option Words) (shelf : Shelved) (input : Option (List ℕ)) (P : Reply → Type 0) (s : Settled) → TellsTexts asked shelf → Settles asked shelf s → Answered (Settles asked shelf) input P → ForSome (reply s input) P
only_settled None shelf input P s told so h = subst (λ (r : Option Reply). ForSome r P) (one_settled_unasked shelf h.0 s h.1 so input) h.2
only_settled (Some words) shelf input P s told so h =
    subst (λ (r : Option Reply). ForSome r P) (one_settled words shelf told.0.0 told.1.0 h.0 s told.0.1 told.1.1 h.1 so input) h.2
