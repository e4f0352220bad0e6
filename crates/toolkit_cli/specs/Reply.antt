-- What the words and the texts come to, and what a run then writes and answers where no call of the outside fails.
use Rattle.std.specs.Prelude.{◌≡◌, ◌⊎◌, ℕ, Bool, false, List, [], Option, None, Some, option_map, codes}
use Rattle.std.specs.Option.{ForSome}
use Rattle.sled_model.specs.declared.statement.Statement.{Statement}
use Rattle.sled_elab.specs.Declarations.{Described}
use Rattle.disassembler.specs.Disassembly.{IsTakingOf}
use Rattle.image_listing.specs.declared.answers.Stop.{Stop}
use Rattle.image_listing.specs.declared.answers.Stop.TheVariants as stop
use Rattle.image_listing.specs.Listing.{Listing, Taking, listing_by}
use Rattle.toolkit_cli.specs.declared.status.Status.{Status}
use Rattle.toolkit_cli.specs.declared.status.Status.TheVariants.{Done, Refused, Usage}
use Rattle.toolkit_cli.specs.declared.messages.Problem.{Problem}
use Rattle.toolkit_cli.specs.declared.messages.Problem.TheVariants.{NoMatch, AddressEnd}
use Rattle.toolkit_cli.specs.Messages.{message, problem_number, usage_text}
use Rattle.toolkit_cli.specs.Words.{Words}
use Rattle.toolkit_cli.specs.Texts.{IsDescribed, RefusesDescription, IsStated, RefusesStatement}

-- ---- what the words and the texts come to

-- the words have no form, a text is refused, or an image is listed: by what stands at each place, and from this address on
pub data Settled : Type 0 where
  no_form : Settled
  refused_text : List ℕ → Problem → Settled
  accepted : Taking → ℕ → Settled

-- what a shelf tells of each name: its text, or that there is none
pub record Shelved : Type 0 where
  pub text : List ℕ → Option (List ℕ)
  pub lacks : List ℕ → Bool

-- there is a text of that name, and where it is told so much holds of it
abbrev pub IsThere : Shelved → List ℕ → (List ℕ → Type 0) → Type 0
IsThere shelf name P = (shelf.lacks name ≡ false) × ForSome (shelf.text name) P

-- the text of SPEC makes this description
abbrev pub MakesSpec : Words → Shelved → Described → Type 0
MakesSpec words shelf d = IsThere shelf words.spec (λ t. IsDescribed t d)

-- and that of MATCH makes this statement
abbrev pub MakesStatement : Words → Shelved → Described → Statement → Type 0
MakesStatement words shelf d statement = IsThere shelf words.matching (λ t. IsStated d t statement)

-- SPEC is refused, or MATCH is refused over what SPEC makes
abbrev pub RefusesText : Words → Shelved → List ℕ → Problem → Type 0
RefusesText words shelf name p =
    ((name ≡ words.spec) × IsThere shelf words.spec (λ t. RefusesDescription t p))
    ⊎ ((name ≡ words.matching) × ((d : Described) × MakesSpec words shelf d × IsThere shelf words.matching (λ t. RefusesStatement d t p)))

-- SPEC makes a description, MATCH a statement over what its names stand for, and this says what stands at each place by the statement.
-- What is accepted can be matched (`acceptance_laws`), so that one thing at most stands at a place (`one_taking` of `disassembler`).
pub record MakesBoth (words : Words) (shelf : Shelved) (taking : Taking) : Type 0 where
  pub description : Described
  pub statement : Statement
  pub spec : MakesSpec words shelf description
  pub stated : MakesStatement words shelf description statement
  pub takes : IsTakingOf description.spec statement taking

abbrev pub SettlesDis : Words → Shelved → Settled → Type 0
SettlesDis words shelf no_form = ⊥
SettlesDis words shelf (refused_text name p) = RefusesText words shelf name p
SettlesDis words shelf (accepted taking base) = (base ≡ words.base) × MakesBoth words shelf taking

-- what the words and the texts come to
abbrev pub Settles : Option Words → Shelved → Settled → Type 0
Settles None shelf s = s ≡ no_form
Settles (Some words) shelf s = SettlesDis words shelf s

-- the text of that name is told
abbrev pub IsToldText : Shelved → List ℕ → Type 0
IsToldText shelf name = (t : List ℕ) × (shelf.text name ≡ Some t)

-- both texts are told, where words ask for them
abbrev pub TellsTexts : Option Words → Shelved → Type 0
TellsTexts None shelf = Unit {0}
TellsTexts (Some words) shelf = IsToldText shelf words.spec × IsToldText shelf words.matching

-- ---- what is written and answered

pub record Reply : Type 0 where
  pub output : List ℕ
  pub notes : List ℕ
  pub status : Status

abbrev pub refused : List ℕ → List ℕ → Problem → Reply
refused output name p = record { output = output; notes = message name p; status = Refused (problem_number p) }

abbrev pub stop_problem : Stop → Problem
stop_problem (stop.NoMatch address) = NoMatch address
stop_problem (stop.AddressEnd address) = AddressEnd address

-- the listing's lines, and how it ended
abbrev pub listed_reply : List ℕ → Option Stop → Reply
listed_reply lines None = record { output = lines; notes = []; status = Done }
listed_reply lines (Some s) = refused lines (codes "input") (stop_problem s)

abbrev pub listing_reply : Listing → Reply
listing_reply l = listed_reply l.lines l.stop

abbrev pub usage_reply : Reply
usage_reply = record { output = []; notes = usage_text; status = Usage }

-- None: it rests on input that is not told
abbrev pub reply : Settled → Option (List ℕ) → Option Reply
reply no_form input = Some usage_reply
reply (refused_text name p) input = Some (refused [] name p)
reply (accepted taking base) input = option_map (λ bytes. listing_reply (listing_by taking base bytes)) input
