-- How what stands after a part of a run makes what stands after the whole.
use Rattle.std.proofs.Common.{◌≡◌, ◌⊎◌, inl, inr, ℕ, zero, suc, take, ◌≤◌, List, [], length, Some, None, refl, sym, ◌∙◌, ap, subst, append-nil, arith}
use Rattle.std.proofs.Math.Seq.{take-length}
use Rattle.std.specs.Prelude.{Option, option_map}
use Rattle.std.specs.Option.{ForSome}
use Rattle.std.specs.Io.KnownBytes.{Appends, Keeps}
use Rattle.sled_base.specs.Causes.{Rose}
use Rattle.sled_base.specs.Contents.{AppendsProperPrefix}
use Rattle.sled_model.specs.declared.spec.Spec.{Spec}
use Rattle.sled_model.specs.declared.statement.Statement.{Statement}
use Rattle.image_listing.specs.declared.answers.Stop.{Stop}
use Rattle.image_listing.specs.Listing.{Taking, listing_by}
use Rattle.disassembler.specs.Disassembly.{IsTakingOf}
use Rattle.toolkit_cli.specs.declared.status.Status.{Status}
use Rattle.toolkit_cli.specs.declared.status.Status.TheVariants.{Done, Refused, Usage, ReadFault, WriteFault, NoMemory}
use Rattle.toolkit_cli.specs.declared.messages.Problem.{Problem}
use Rattle.toolkit_cli.specs.declared.messages.Problem.TheVariants as problem
use Rattle.toolkit_cli.specs.declared.texts.TextStop.{TextStop}
use Rattle.toolkit_cli.specs.declared.texts.TextStop.TheVariants.{Unread as UnreadText, Refused as RefusedText, NoMemory as NoTextMemory}
use Rattle.toolkit_cli.specs.Words.{Words}
use Rattle.toolkit_cli.specs.Messages.{message, problem_number, usage_text}
use Rattle.toolkit_cli.specs.Reply.{Settled, Shelved, no_form, refused_text, accepted, Settles, Reply, reply, refused, listing_reply, listed_reply, usage_reply}
use Rattle.toolkit_cli.specs.Told.{Told}
use Rattle.toolkit_cli.specs.Stands.{Change, HasFailed, Gets, GetsPrefix, GetsNothing, IsReply, OutFailed, NotesFailed, HasPart, IsAnswer, Answered, IsForgone, Stands, StopTold, Unread, UnreadByWords, AcceptsByWords}

-- where a mapped option is one, the option is
map_some : {A B : Type 0} (o : Option A) (f : A → B) (r : B) → option_map f o ≡ Some r → (a : A) × (o ≡ Some a) × (f a ≡ r)
map_some None f r e = cc
map_some (Some a) f r e = (a, refl, some_same (f a) r e) where
  some_same : {C : Type 0} (x y : C) → Some x ≡ Some y → x ≡ y
  some_same x y e = cc

-- a count that rose later has risen
pub Rose-later : (a b c : ℕ) → a ≤ b → Rose b c → Rose a c
Rose-later a b c le rose = omega arith

pub Keeps-same : (a b : Option (List ℕ)) → b ≡ a → Keeps a b
Keeps-same None b e = tt
Keeps-same (Some x) None e = cc
Keeps-same (Some x) (Some y) e = cc

pub Gets-nothing : (s : Change) → GetsNothing s → Gets s []
Gets-nothing s h = gets_nothing s.old s.new h where
  gets_nothing : (a b : Option (List ℕ)) → Keeps a b → Appends a b []
  gets_nothing None b h = tt
  gets_nothing (Some x) None h = absurd h
  gets_nothing (Some x) (Some y) h = h ∙ sym (append-nil x)

GetsPrefix-none : (s : Change) (bytes : List ℕ) → GetsNothing s → GetsPrefix s bytes
GetsPrefix-none s bytes h = (0, Gets-nothing s h)

GetsPrefix-all : (s : Change) (bytes : List ℕ) → Gets s bytes → GetsPrefix s bytes
GetsPrefix-all s bytes h = (length bytes, subst (λ (b : List ℕ). Appends s.old s.new b) (sym (take-length bytes)) h)

-- the output is that of the reply, and these are its notes and its status
pub record HasOutput (sink : Change) (note : List ℕ) (wanted : Status) (r : Reply) : Type 0 where
  pub output : Gets sink r.output
  pub text : r.notes ≡ note
  pub answer : r.status ≡ wanted

is_reply : (sink log : Change) (note : List ℕ) (wanted : Status) (r : Reply) → HasOutput sink note wanted r → Gets log note → IsReply sink log wanted r
is_reply sink log note wanted r has got = record { output = has.output; notes = subst (λ (b : List ℕ). Gets log b) (sym has.text) got; status = sym has.answer }

pub answer_stands : (settles : Settled → Type 0) (input : Option (List ℕ)) (unread : List ℕ → Type 0) (sink log : Change) (note : List ℕ) (wanted : Status) (s : Settled) → IsAnswer wanted → settles s
    → ForSome (reply s input) (HasOutput sink note wanted) → Gets log note → Stands settles input unread sink log wanted
answer_stands settles input unread sink log note Done s is so has got = (s, so, λ r e. is_reply sink log note Done r (has r e) got)
answer_stands settles input unread sink log note (Refused number) s is so has got = (s, so, λ r e. is_reply sink log note (Refused number) r (has r e) got)
answer_stands settles input unread sink log note Usage s is so has got = (s, so, λ r e. is_reply sink log note Usage r (has r e) got)
answer_stands settles input unread sink log note ReadFault s is so has got = absurd is
answer_stands settles input unread sink log note WriteFault s is so has got = absurd is
answer_stands settles input unread sink log note NoMemory s is so has got = absurd is

-- the notes of a reply whose output is written
pub told_stands : (settles : Settled → Type 0) (input : Option (List ℕ)) (unread : List ℕ → Type 0) (sink log : Change) (note : List ℕ) (wanted status : Status) (s : Settled) → IsAnswer wanted → settles s
    → ForSome (reply s input) (HasOutput sink note wanted) → Told log.old log.new log.count log.new_count note wanted status → Stands settles input unread sink log status
told_stands settles input unread sink log note wanted status s is so has (inl h) =
    subst (λ (a : Status). Stands settles input unread sink log a) (sym h.0) (answer_stands settles input unread sink log note wanted s is so has h.1)
told_stands settles input unread sink log note wanted status s is so has (inr (inl h)) = subst (λ (a : Status). Stands settles input unread sink log a) (sym h.0) (inl (
  s,
  so,
  inr (record {
    cause = h.1;
    output = λ r e. (has r e).output;
    notes = λ r e. subst (λ (b : List ℕ). AppendsProperPrefix log.old log.new b) (sym (has r e).text) h.2;
  }),
))
told_stands settles input unread sink log note wanted status s is so has (inr (inr h)) = subst (λ (a : Status). Stands settles input unread sink log a) (sym h.0) (inr (
  s,
  so,
  λ r e. record {
    output = GetsPrefix-all sink r.output (has r e).output;
    notes = GetsPrefix-none log r.notes h.1;
  },
))

-- the message that a read failed
pub unread_stands : (settles : Settled → Type 0) (input : Option (List ℕ)) (unread : List ℕ → Type 0) (sink log : Change) (name : List ℕ) (status : Status) → unread name
    → (GetsNothing log → IsForgone settles input sink log) → Told log.old log.new log.count log.new_count (message name problem.Unread) ReadFault status → Stands settles input unread sink log status
unread_stands settles input unread sink log name status read forgone (inl h) =
    subst (λ (a : Status). Stands settles input unread sink log a) (sym h.0) (record { name = name; read = read; notes = h.1 })
unread_stands settles input unread sink log name status read forgone (inr (inl h)) =
    subst (λ (a : Status). Stands settles input unread sink log a) (sym h.0) (inr (record { cause = h.1; name = name; read = read; notes = h.2 }))
unread_stands settles input unread sink log name status read forgone (inr (inr h)) =
    subst (λ (a : Status). Stands settles input unread sink log a) (sym h.0) (forgone h.1)

refused_output : (sink : Change) (name : List ℕ) (p : Problem) (r : Reply) → GetsNothing sink → Some (refused [] name p) ≡ Some r → HasOutput sink (message name p) (Refused (problem_number p)) r
refused_output sink name p r kept e =
    let same : refused [] name p ≡ r = cc in
    subst (λ (x : Reply). HasOutput sink (message name p) (Refused (problem_number p)) x) same (record { output = Gets-nothing sink kept; text = refl; answer = refl })

-- a text that does not serve, before anything is written
pub stopped_stands : (settles : Settled → Type 0) (input : Option (List ℕ)) (unread : List ℕ → Type 0) (sink log : Change) (name : List ℕ) (stop : TextStop) (status : Status)
    → (stop ≡ UnreadText → unread name) → ((p : Problem) → stop ≡ RefusedText p → settles (refused_text name p)) → GetsNothing sink → StopTold log name stop status
    → Stands settles input unread sink log status
stopped_stands settles input unread sink log name UnreadText status read so kept h = unread_stands settles input unread sink log name status (read refl) (λ k. inl (kept, k)) h
stopped_stands settles input unread sink log name (RefusedText p) status read so kept h =
    told_stands settles input unread sink log (message name p) (Refused (problem_number p)) status (refused_text name p) tt (so p refl) (λ r e. refused_output sink name p r kept e) h
stopped_stands settles input unread sink log name NoTextMemory status read so kept h =
    subst (λ (a : Status). Stands settles input unread sink log a) (sym h.0) (inl (kept, h.1))

-- what stands for a later part stands for the whole
pub Stands-along : (settles later : Settled → Type 0) (input : Option (List ℕ)) (unread unread_later : List ℕ → Type 0) (sink log : Change) (status : Status)
    → ((s : Settled) → later s → settles s) → ((name : List ℕ) → unread_later name → unread name) → Stands later input unread_later sink log status → Stands settles input unread sink log status
Stands-along settles later input unread unread_later sink log Done up read h = (h.0, up h.0 h.1, h.2)
Stands-along settles later input unread unread_later sink log (Refused number) up read h = (h.0, up h.0 h.1, h.2)
Stands-along settles later input unread unread_later sink log Usage up read h = (h.0, up h.0 h.1, h.2)
Stands-along settles later input unread unread_later sink log ReadFault up read h = record { name = h.name; read = read h.name h.read; notes = h.notes }
Stands-along settles later input unread unread_later sink log WriteFault up read (inl h) = inl (h.0, up h.0 h.1, h.2)
Stands-along settles later input unread unread_later sink log WriteFault up read (inr h) = inr (record { cause = h.cause; name = h.name; read = read h.name h.read; notes = h.notes })
Stands-along settles later input unread unread_later sink log NoMemory up read (inl h) = inl h
Stands-along settles later input unread unread_later sink log NoMemory up read (inr h) = inr (h.0, up h.0 h.1, h.2)

-- ---- the listing

-- a taking of a statement is one of an equal statement
pub takes_along : (a b : Spec) (s t : Statement) (taking : Taking) → a ≡ b → s ≡ t → IsTakingOf b t taking → IsTakingOf a s taking
takes_along a b s t taking specs statements of = subst (λ (x : Spec). IsTakingOf x s taking) (sym specs) (subst (λ (x : Statement). IsTakingOf b x taking) (sym statements) of)

output_of : (lines : List ℕ) (stop : Option Stop) → (listed_reply lines stop).output ≡ lines
output_of lines None = refl
output_of lines (Some s) = refl

-- what holds of the lines of the listing, holds of the output of the reply
of_lines : (taking : Taking) (base : ℕ) (input : Option (List ℕ)) (P : List ℕ → Type 0) → ForSome input (λ bytes. P (listing_by taking base bytes).lines)
    → ForSome (reply (accepted taking base) input) (λ r. P r.output)
of_lines taking base input P so r e =
    let bytes = map_some input (λ (b : List ℕ). listing_reply (listing_by taking base b)) r e in
    let l = listing_by taking base bytes.0 in
    subst P (sym (output_of l.lines l.stop) ∙ ap (λ (x : Reply). x.output) bytes.2) (so bytes.0 bytes.1)

-- the listing ended so, and its lines are written
pub input_listed : (taking : Taking) (base : ℕ) (input : Option (List ℕ)) (sink : Change) (stop : Option Stop) (note : List ℕ) (wanted : Status)
    → (listed_reply [] stop).notes ≡ note → (listed_reply [] stop).status ≡ wanted
    → ForSome input (λ bytes. Gets sink (listing_by taking base bytes).lines) → ForSome input (λ bytes. (listing_by taking base bytes).stop ≡ stop)
    → ForSome (reply (accepted taking base) input) (HasOutput sink note wanted)
input_listed taking base input sink stop note wanted text answer lines ended r e =
    let bytes = map_some input (λ (b : List ℕ). listing_reply (listing_by taking base b)) r e in
    let l = listing_by taking base bytes.0 in
    let same : listed_reply l.lines stop ≡ r = ap (λ (s : Option Stop). listed_reply l.lines s) (sym (ended bytes.0 bytes.1)) ∙ bytes.2 in
    subst (λ (x : Reply). HasOutput sink note wanted x) same (has_output l.lines stop text answer (lines bytes.0 bytes.1)) where
      has_output : (ls : List ℕ) (stop : Option Stop) → (listed_reply [] stop).notes ≡ note → (listed_reply [] stop).status ≡ wanted → Gets sink ls → HasOutput sink note wanted (listed_reply ls stop)
      has_output ls None text answer got = record { output = got; text = text; answer = answer }
      has_output ls (Some s) text answer got = record { output = got; text = text; answer = answer }

-- the output has a part of the lines
pub input_unwritten : (taking : Taking) (base : ℕ) (input : Option (List ℕ)) (sink log : Change) → GetsNothing log → HasFailed sink
    → ForSome input (λ bytes. AppendsProperPrefix sink.old sink.new (listing_by taking base bytes).lines)
    → OutFailed (reply (accepted taking base) input) sink log
input_unwritten taking base input sink log kept cause part = record {
  cause = cause;
  output = of_lines taking base input (λ lines. AppendsProperPrefix sink.old sink.new lines) part;
  notes = kept;
}

-- there was no memory behind some of the lines
pub input_forgone : (taking : Taking) (base : ℕ) (input : Option (List ℕ)) (sink log : Change) → ForSome input (λ bytes. GetsPrefix sink (listing_by taking base bytes).lines)
    → GetsNothing log → IsForgone (λ s. s ≡ accepted taking base) input sink log
input_forgone taking base input sink log part kept =
    inr (accepted taking base, refl, λ r e. record { output = of_lines taking base input (GetsPrefix sink) part r e; notes = GetsPrefix-none log r.notes kept })

-- ---- the words

-- no form: the usage text
pub usage_output : (sink : Change) (input : Option (List ℕ)) → GetsNothing sink → ForSome (reply no_form input) (HasOutput sink usage_text Usage)
usage_output sink input kept r e =
    let same : usage_reply ≡ r = cc in
    subst (λ (x : Reply). HasOutput sink usage_text Usage x) same (record { output = Gets-nothing sink kept; text = refl; answer = refl })

-- what the words ask for decides
pub by_words : (asked form : Option Words) (shelf : Shelved) (input : Option (List ℕ)) (shelf_rose : List ℕ → Type 0) (intake sink log : Change) (status : Status) → asked ≡ form
    → Stands (Settles form shelf) input (UnreadByWords form shelf shelf_rose intake sink) sink log status → Stands (Settles asked shelf) input (UnreadByWords asked shelf shelf_rose intake sink) sink log status
by_words asked form shelf input shelf_rose intake sink log status e h =
    subst (λ (w : Option Words). Stands (Settles w shelf) input (UnreadByWords w shelf shelf_rose intake sink) sink log status) (sym e) h

-- ---- each status by itself

pub stands_answer : (settles : Settled → Type 0) (input : Option (List ℕ)) (unread : List ℕ → Type 0) (sink log : Change) (status : Status) → IsAnswer status → Stands settles input unread sink log status
    → Answered settles input (IsReply sink log status)
stands_answer settles input unread sink log Done is h = h
stands_answer settles input unread sink log (Refused number) is h = h
stands_answer settles input unread sink log Usage is h = h
stands_answer settles input unread sink log ReadFault is h = absurd is
stands_answer settles input unread sink log WriteFault is h = absurd is
stands_answer settles input unread sink log NoMemory is h = absurd is

-- no form: the usage text, a failed write of it, or no memory
pub stands_no_form : (asked : Option Words) (shelf : Shelved) (input : Option (List ℕ)) (shelf_rose : List ℕ → Type 0) (intake sink log : Change) (status : Status) → asked ≡ None
    → Stands (Settles asked shelf) input (UnreadByWords asked shelf shelf_rose intake sink) sink log status → (status ≡ Usage) ⊎ ((status ≡ WriteFault) ⊎ (status ≡ NoMemory))
stands_no_form asked shelf input shelf_rose intake sink log status e h =
    formless status (subst (λ (w : Option Words). Stands (Settles w shelf) input (UnreadByWords w shelf shelf_rose intake sink) sink log status) e h) where
      usage_status : (answer : Status) (s : Settled) → s ≡ no_form → ForSome (reply s input) (IsReply sink log answer) → answer ≡ Usage
      usage_status answer s is h = (subst (λ (x : Settled). ForSome (reply x input) (IsReply sink log answer)) is h usage_reply refl).status

      formless : (status : Status) → Stands (λ s. s ≡ no_form) input (UnreadByWords None shelf shelf_rose intake sink) sink log status → (status ≡ Usage) ⊎ ((status ≡ WriteFault) ⊎ (status ≡ NoMemory))
      formless Done h = inl (usage_status Done h.0 h.1 h.2)
      formless (Refused number) h = inl (usage_status (Refused number) h.0 h.1 h.2)
      formless Usage h = inl refl
      formless ReadFault h = absurd h.read
      formless WriteFault h = inr (inl refl)
      formless NoMemory h = inr (inr refl)

-- ---- where the texts are not both accepted

take_none : (n : ℕ) → take n [] ≡ (let none : List ℕ = [] in none)
take_none zero = refl
take_none (suc n) = refl

got_nothing : (s : Change) (bytes : List ℕ) → bytes ≡ [] → Gets s bytes → GetsNothing s
got_nothing s bytes e h = kept s.old s.new (subst (λ (b : List ℕ). Appends s.old s.new b) e h) where
  kept : (a b : Option (List ℕ)) → Appends a b [] → Keeps a b
  kept None b h = tt
  kept (Some x) None h = absurd h
  kept (Some x) (Some y) h = h ∙ append-nil x

got_part : (s : Change) (bytes : List ℕ) → bytes ≡ [] → GetsPrefix s bytes → GetsNothing s
got_part s bytes e h = got_nothing s (take h.0 bytes) (ap (take h.0) e ∙ take_none h.0) h.1

no_proper : (s : Change) (bytes : List ℕ) → bytes ≡ [] → ¬ AppendsProperPrefix s.old s.new bytes
no_proper s bytes e h = absurd (omega (arith, h.1, ap length e))

-- both texts are accepted, or the reply has no output
silent : (asked : Option Words) (shelf : Shelved) (input : Option (List ℕ)) (s : Settled) → Settles asked shelf s
    → AcceptsByWords asked shelf ⊎ ((r : Reply) × (reply s input ≡ Some r) × (r.output ≡ []))
silent None shelf input s so = inr (usage_reply, ap (λ (x : Settled). reply x input) so, refl)
silent (Some words) shelf input no_form so = absurd so
silent (Some words) shelf input (refused_text name p) so = inr (refused [] name p, refl, refl)
silent (Some words) shelf input (accepted taking base) so = inl (so.1.description, so.1.statement, so.1.spec, so.1.stated)

-- so nothing is written there
untouched_by : (asked : Option Words) (shelf : Shelved) (input : Option (List ℕ)) (P : Reply → Type 0) (sink : Change) → ((r : Reply) → r.output ≡ [] → P r → GetsNothing sink)
    → Answered (Settles asked shelf) input P → AcceptsByWords asked shelf ⊎ GetsNothing sink
untouched_by asked shelf input P sink nothing h = by_case (silent asked shelf input h.0 h.1) where
  by_case : AcceptsByWords asked shelf ⊎ ((r : Reply) × (reply h.0 input ≡ Some r) × (r.output ≡ [])) → AcceptsByWords asked shelf ⊎ GetsNothing sink
  by_case (inl a) = inl a
  by_case (inr k) = inr (nothing k.0 k.2 (h.2 k.0 k.1))

-- a text that cannot be read leaves the output as it is, and before the input both are accepted
unread_untouched : (asked : Option Words) (shelf : Shelved) (shelf_rose : List ℕ → Type 0) (intake sink : Change) (name : List ℕ) → UnreadByWords asked shelf shelf_rose intake sink name
    → AcceptsByWords asked shelf ⊎ GetsNothing sink
unread_untouched None shelf shelf_rose intake sink name h = absurd h
unread_untouched (Some words) shelf shelf_rose intake sink name (inl h) = inr h.2
unread_untouched (Some words) shelf shelf_rose intake sink name (inr (inl h)) = inr h.3
unread_untouched (Some words) shelf shelf_rose intake sink name (inr (inr h)) = let both = h.1.1 in inl (both.description, both.statement, both.spec, both.stated)

pub stands_untouched : (asked : Option Words) (shelf : Shelved) (input : Option (List ℕ)) (shelf_rose : List ℕ → Type 0) (intake sink log : Change) (status : Status)
    → Stands (Settles asked shelf) input (UnreadByWords asked shelf shelf_rose intake sink) sink log status → AcceptsByWords asked shelf ⊎ GetsNothing sink
stands_untouched asked shelf input shelf_rose intake sink log Done h = untouched_by asked shelf input (IsReply sink log Done) sink (λ r e k. got_nothing sink r.output e k.output) h
stands_untouched asked shelf input shelf_rose intake sink log (Refused number) h = untouched_by asked shelf input (IsReply sink log (Refused number)) sink (λ r e k. got_nothing sink r.output e k.output) h
stands_untouched asked shelf input shelf_rose intake sink log Usage h = untouched_by asked shelf input (IsReply sink log Usage) sink (λ r e k. got_nothing sink r.output e k.output) h
stands_untouched asked shelf input shelf_rose intake sink log ReadFault h = unread_untouched asked shelf shelf_rose intake sink h.name h.read
stands_untouched asked shelf input shelf_rose intake sink log WriteFault (inr h) = unread_untouched asked shelf shelf_rose intake sink h.name h.read
stands_untouched asked shelf input shelf_rose intake sink log WriteFault (inl h) = by_part h.2 where
  by_part : OutFailed (reply h.0 input) sink log ⊎ NotesFailed (reply h.0 input) sink log → AcceptsByWords asked shelf ⊎ GetsNothing sink
  by_part (inl k) = untouched_by asked shelf input (λ r. AppendsProperPrefix sink.old sink.new r.output) sink (λ r e part. absurd (no_proper sink r.output e part)) (h.0, h.1, k.output)
  by_part (inr k) = untouched_by asked shelf input (λ r. Gets sink r.output) sink (λ r e got. got_nothing sink r.output e got) (h.0, h.1, k.output)
stands_untouched asked shelf input shelf_rose intake sink log NoMemory (inl h) = inr h.0
stands_untouched asked shelf input shelf_rose intake sink log NoMemory (inr h) = untouched_by asked shelf input (HasPart sink log) sink (λ r e k. got_part sink r.output e k.output) h
