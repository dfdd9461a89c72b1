-- What is read off a run of a code after the turns of a journal: its events, its output, the messages that one process
-- sent to another, those that were handled, how each process stands, and how the run ends.
use Rattle.std.specs.Prelude.{◌≡◌, ℕ, ◌+◌, ◌<◌, ◌==◌, ◌&&◌, if◌then◌else◌, Bool, false, Option, None, Some, IsSome, List, [], ◌∷◌, ◌++◌, length, take}
use Rattle.std.specs.List.{flat_map}
use Rattle.std.specs.Option.{option_map}
use Rattle.ink_base.specs.declared.limits.Limit.TheVariants as limit
use Rattle.ink_base.specs.Actions.{Action, is_enabled, as_made}
use Rattle.ink_base.specs.Actions as action
use Rattle.ink_base.specs.Ends.{Standing, Enabled, AtTake, AtGet, Spent, Endless, Stop, End, end_of}
use Rattle.ink_base.specs.Limits.{limit_of}
use Rattle.ink_base.specs.Messages.{Mailbox, Message, front_of}
use Rattle.ink_base.specs.Numbered.{numbered}
use Rattle.ink_code.specs.declared.code.Code.{Code}
use Rattle.ink_code.specs.Process.{Process}
use Rattle.ink_code.specs.Runs.{World, no_parcel, opening_world, Next, CodeTurn, CodeReplay}
use Rattle.ink_code.specs.Slice.{steps_on}
use Rattle.ink_code.specs.Trees.{Parcel}

-- an event: the process that made it, the action as it was made, and the run before it
pub record Event : Type 0 where
  pub process : ℕ
  pub made : Action Parcel
  pub before : World

abbrev pub event_of : {code : Code} {limits : List ℕ} (process : ℕ) (old new : World) → CodeTurn code limits process old new → Event
event_of {limits = limits} process old new turn =
    record { process = process; made = as_made turn.wish old.shared limits; before = old }

-- the events of the turns of a journal, in its order
pub data Events (code : Code) (limits : List ℕ) : List ℕ → World → List Event → Type 0 where
  begins : Events code limits [] (opening_world code) []
  turns : (journal : List ℕ) (process : ℕ) (old new : World) (events : List Event) → Events code limits journal old events
      → (turn : CodeTurn code limits process old new) → Events code limits (journal ++ process ∷ []) new (events ++ event_of process old new turn ∷ [])

-- what a run has written after the turns of a journal
pub record Writes (code : Code) (limits : List ℕ) (journal : List ℕ) (output : List ℕ) : Type 0 where
  pub world : World
  pub replay : CodeReplay code limits journal world
  pub written : output ≡ world.shared.output

-- the output of a journal whose last event is a print, cut within the line that it adds
pub record WritesCut (code : Code) (limits : List ℕ) (journal : List ℕ) (output : List ℕ) : Type 0 where
  pub before : List ℕ
  pub process : ℕ
  pub entries : journal ≡ before ++ process ∷ []
  pub old : World
  pub new : World
  pub replay : CodeReplay code limits before old
  pub turn : CodeTurn code limits process old new
  pub text : List ℕ
  pub prints : turn.wish ≡ action.Print text
  pub count : ℕ
  pub cut : count < length text + 1
  pub written : output ≡ old.shared.output ++ take count (text ++ 10 ∷ [])

abbrev pub message_to : Option (Mailbox Parcel) → ℕ → ℕ → Parcel → List (Message Parcel)
message_to None sender method values = []
message_to (Some box) sender method values =
    record { number = box.sent + 1; sender = sender; method = method; values = values } ∷ []

-- the message that an action of a process sends to another, where it sends one
abbrev pub sent_in : ℕ → ℕ → ℕ → Action Parcel → World → List (Message Parcel)
sent_in sender receiver process (action.Send to method values) before =
    if process == sender && to == receiver then message_to (numbered before.shared.mail to) process method values else []
sent_in sender receiver process other before = []

-- the opening message is sent by no process, whose number is 0
abbrev pub opening_message : Code → ℕ → ℕ → List (Message Parcel)
opening_message code sender receiver =
    if sender == 0 && receiver == 1
    then record { number = 1; sender = 0; method = code.main; values = no_parcel } ∷ []
    else []

-- the messages that one process sent to another, in the order of the events
abbrev pub messages_sent : Code → ℕ → ℕ → List Event → List (Message Parcel)
messages_sent code sender receiver events =
    opening_message code sender receiver ++ flat_map (λ event. sent_in sender receiver event.process event.made event.before) events

abbrev pub if_from : ℕ → Option (Message Parcel) → List (Message Parcel)
if_from sender None = []
if_from sender (Some message) = if message.sender == sender then message ∷ [] else []

-- the message of a sender that an action of a process takes, where it takes one
abbrev pub taken_in : ℕ → ℕ → ℕ → Action Parcel → World → List (Message Parcel)
taken_in sender receiver process action.Take before =
    if process == receiver then if_from sender (front_of before.shared.mail process) else []
taken_in sender receiver process other before = []

-- the messages of one process that another took, in the order of the events
abbrev pub messages_handled : ℕ → ℕ → List Event → List (Message Parcel)
messages_handled sender receiver events =
    flat_map (λ event. taken_in sender receiver event.process event.made event.before) events

-- how a process of a run stands: its next action can be made, or waits, or it has none within its limit of steps, or none
-- at all
pub data StandsAs (code : Code) (limits : List ℕ) (world : World) (process : ℕ) : Standing → Type 0 where
  enabled : (new : World) → CodeTurn code limits process world new → StandsAs code limits world process Enabled
  at_take : (waiting : Process) → Next code limits world process action.Take waiting
      → is_enabled {V = Parcel} action.Take process world.shared ≡ false → StandsAs code limits world process AtTake
  at_get : (future : ℕ) (waiting : Process) → Next code limits world process (action.GetFuture future) waiting
      → is_enabled {V = Parcel} (action.GetFuture future) process world.shared ≡ false → StandsAs code limits world process AtGet
  spent : (p q : Process) (steps : ℕ) → numbered world.processes process ≡ Some p
      → steps_on steps code limits p ≡ Some q → q.ran ≡ limit_of limit.Local limits → StandsAs code limits world process (Spent q.ran)
  endless : (p : Process) → numbered world.processes process ≡ Some p
      → ((steps : ℕ) → IsSome (steps_on steps code limits p)) → StandsAs code limits world process Endless

-- how the processes of a run stand, by number from the first one on
abbrev pub StandAs : Code → List ℕ → World → ℕ → List Process → List Standing → Type 0
StandAs code limits world first [] [] = Unit {0}
StandAs code limits world first [] (standing ∷ others) = ⊥
StandAs code limits world first (p ∷ ps) [] = ⊥
StandAs code limits world first (p ∷ ps) (standing ∷ others) =
    StandsAs code limits world first standing × StandAs code limits world (first + 1) ps others

-- how a run ends that stands so, by why no further event is made and whether the journal is full
pub record EndsAs (code : Code) (limits : List ℕ) (world : World) (stop : Stop) (is_full : Bool) (end : End) : Type 0 where
  pub standings : List Standing
  pub stand : StandAs code limits world 1 world.processes standings
  pub ends : end_of (option_map (λ panic. panic.0) world.panic) stop is_full standings ≡ Some end
