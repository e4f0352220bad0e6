-- What stands after a run, status by status.
use Rattle.std.specs.Prelude.{◌≡◌, ℕ, ◌⊎◌, List, take, Option, None, Some, codes}
use Rattle.std.specs.Option.{ForSome}
use Rattle.std.specs.Io.KnownBytes.{Appends, Consumes, Keeps}
use Rattle.sled_base.specs.Causes.{Rose}
use Rattle.sled_base.specs.Contents.{AppendsProperPrefix}
use Rattle.sled_model.specs.declared.statement.Statement.{Statement}
use Rattle.sled_elab.specs.Declarations.{Described}
use Rattle.image_listing.specs.Listing.{Taking, listing_front}
use Rattle.toolkit_cli.specs.declared.messages.Problem.TheVariants as problem
use Rattle.toolkit_cli.specs.declared.status.Status.{Status}
use Rattle.toolkit_cli.specs.declared.status.Status.TheVariants.{Done, Refused, Usage, ReadFault, WriteFault, NoMemory}
use Rattle.toolkit_cli.specs.declared.texts.TextStop.{TextStop}
use Rattle.toolkit_cli.specs.declared.texts.TextStop.TheVariants.{Unread as UnreadText, Refused as RefusedText, NoMemory as NoTextMemory}
use Rattle.toolkit_cli.specs.Words.{Words}
use Rattle.toolkit_cli.specs.Messages.{message, problem_number}
use Rattle.toolkit_cli.specs.Reply.{Settled, Shelved, Reply, reply, MakesSpec, MakesStatement, MakesBoth}
use Rattle.toolkit_cli.specs.Told.{Told}

-- what the input or a sink went through: the bytes that it has left, or that it took, where they are told, and its count of faults
pub record Change : Type 0 where
  pub old : Option (List ℕ)
  pub new : Option (List ℕ)
  pub count : ℕ
  pub new_count : ℕ

-- its count rose
abbrev pub HasFailed : Change → Type 0
HasFailed s = Rose s.count s.new_count

-- it got these bytes
abbrev pub Gets : Change → List ℕ → Type 0
Gets s bytes = Appends s.old s.new bytes

-- it got some first bytes of these
abbrev pub GetsPrefix : Change → List ℕ → Type 0
GetsPrefix s bytes = (n : ℕ) × Appends s.old s.new (take n bytes)

-- and not all of them
abbrev pub GetsProperPrefix : Change → List ℕ → Type 0
GetsProperPrefix s bytes = AppendsProperPrefix s.old s.new bytes

abbrev pub GetsNothing : Change → Type 0
GetsNothing s = Keeps s.old s.new

-- ---- a read that failed

-- SPEC is accepted
abbrev pub AcceptsSpec : Words → Shelved → Type 0
AcceptsSpec words shelf = (d : Described) × MakesSpec words shelf d

-- SPEC and MATCH are accepted
abbrev pub AcceptsTexts : Words → Shelved → Type 0
AcceptsTexts words shelf = (d : Described) × (statement : Statement) × MakesSpec words shelf d × MakesStatement words shelf d statement

-- words ask for texts, and both are accepted
abbrev pub AcceptsByWords : Option Words → Shelved → Type 0
AcceptsByWords None shelf = ⊥
AcceptsByWords (Some words) shelf = AcceptsTexts words shelf

-- the input gave some bytes, the sink got the lines of the front of their listing, which stops before the first place with fewer than 32
-- bytes left, and that run refuses no place
pub record HasFront (taking : Taking) (base : ℕ) (intake sink : Change) : Type 0 where
  pub given : List ℕ
  pub taken : Consumes intake.old intake.new given
  pub stop : (listing_front taking base given).stop ≡ None
  pub lines : Gets sink (listing_front taking base given).lines

-- a read of the input failed, behind some bytes that are listed
abbrev pub InputUnread : Taking → ℕ → Change → Change → Type 0
InputUnread taking base intake sink = HasFailed intake × HasFront taking base intake sink

-- and this is its name
abbrev pub ReadsInput : Taking → ℕ → Change → Change → List ℕ → Type 0
ReadsInput taking base intake sink name = (name ≡ codes "input") × InputUnread taking base intake sink

-- A call that reads failed, a text's or the input's, and this is its name; what is read before it is accepted. Where it is a text's,
-- the sink got nothing.
abbrev pub Unread : Words → Shelved → (List ℕ → Type 0) → Change → Change → List ℕ → Type 0
Unread words shelf shelf_rose intake sink name =
    ((name ≡ words.spec) × shelf_rose words.spec × GetsNothing sink)
    ⊎ (((name ≡ words.matching) × AcceptsSpec words shelf × shelf_rose words.matching × GetsNothing sink)
    ⊎ ((name ≡ codes "input") × ((taking : Taking) × MakesBoth words shelf taking × InputUnread taking words.base intake sink)))

abbrev pub UnreadByWords : Option Words → Shelved → (List ℕ → Type 0) → Change → Change → List ℕ → Type 0
UnreadByWords None shelf shelf_rose intake sink name = ⊥
UnreadByWords (Some words) shelf shelf_rose intake sink name = Unread words shelf shelf_rose intake sink name

-- ---- what stands

-- output, notes and status are those of the reply
pub record IsReply (sink log : Change) (answer : Status) (r : Reply) : Type 0 where
  pub output : Gets sink r.output
  pub notes : Gets log r.notes
  pub status : answer ≡ r.status

-- parts of what the reply has
pub record HasPart (sink log : Change) (r : Reply) : Type 0 where
  pub output : GetsPrefix sink r.output
  pub notes : GetsPrefix log r.notes

-- the sink for the output failed: it has a part of the output, and the notes have nothing
pub record OutFailed (told : Option Reply) (sink log : Change) : Type 0 where
  pub cause : HasFailed sink
  pub output : ForSome told (λ r. GetsProperPrefix sink r.output)
  pub notes : GetsNothing log

-- the sink for the notes failed, on the notes of the reply: the output is whole
pub record NotesFailed (told : Option Reply) (sink log : Change) : Type 0 where
  pub cause : HasFailed log
  pub output : ForSome told (λ r. Gets sink r.output)
  pub notes : ForSome told (λ r. GetsProperPrefix log r.notes)

-- the sink for the notes failed, on the message that a read failed
pub record UnreadNotesFailed (unread : List ℕ → Type 0) (log : Change) : Type 0 where
  pub cause : HasFailed log
  pub name : List ℕ
  pub read : unread name
  pub notes : GetsProperPrefix log (message name problem.Unread)

-- a read failed: the notes have its message
pub record IsUnread (unread : List ℕ → Type 0) (log : Change) : Type 0 where
  pub name : List ℕ
  pub read : unread name
  pub notes : Gets log (message name problem.Unread)

-- words and shelf come to something, and where the reply to that is told, so much holds of it
abbrev pub Answered : (Settled → Type 0) → Option (List ℕ) → (Reply → Type 0) → Type 0
Answered settles input P = (s : Settled) × settles s × ForSome (reply s input) P

-- a sink failed
abbrev pub IsUnwritten : (Settled → Type 0) → Option (List ℕ) → (List ℕ → Type 0) → Change → Change → Type 0
IsUnwritten settles input unread out notes =
    ((s : Settled) × settles s × (OutFailed (reply s input) out notes ⊎ NotesFailed (reply s input) out notes))
    ⊎ UnreadNotesFailed unread notes

-- there was no memory: nothing is written, or parts of the reply
abbrev pub IsForgone : (Settled → Type 0) → Option (List ℕ) → Change → Change → Type 0
IsForgone settles input out notes = (GetsNothing out × GetsNothing notes) ⊎ Answered settles input (HasPart out notes)

-- a status that a reply has
abbrev pub IsAnswer : Status → Type 0
IsAnswer Done = Unit {0}
IsAnswer (Refused number) = Unit {0}
IsAnswer Usage = Unit {0}
IsAnswer _ = ⊥

abbrev pub Stands : (Settled → Type 0) → Option (List ℕ) → (List ℕ → Type 0) → Change → Change → Status → Type 0
Stands settles input unread out notes Done = Answered settles input (IsReply out notes Done)
Stands settles input unread out notes (Refused number) = Answered settles input (IsReply out notes (Refused number))
Stands settles input unread out notes Usage = Answered settles input (IsReply out notes Usage)
Stands settles input unread out notes ReadFault = IsUnread unread notes
Stands settles input unread out notes WriteFault = IsUnwritten settles input unread out notes
Stands settles input unread out notes NoMemory = IsForgone settles input out notes

-- what the notes get where a text does not serve
abbrev pub StopTold : Change → List ℕ → TextStop → Status → Type 0
StopTold log name UnreadText status = Told log.old log.new log.count log.new_count (message name problem.Unread) ReadFault status
StopTold log name (RefusedText p) status = Told log.old log.new log.count log.new_count (message name p) (Refused (problem_number p)) status
StopTold log name NoTextMemory status = (status ≡ NoMemory) × GetsNothing log
