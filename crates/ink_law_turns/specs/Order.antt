-- What processes send to one another and what they take, over events one after another, whatever the processes do.
use Rattle.std.specs.Prelude.{◌≡◌, ℕ, ◌+◌, ◌<◌, ◌≤◌, ◌==◌, ◌&&◌, if◌then◌else◌, Option, None, Some, List, [], ◌∷◌, ◌++◌}
use Rattle.std.specs.List.{flat_map}
use Rattle.ink_base.specs.Actions.{Action, Take, Send, SharedState, after_action}
use Rattle.ink_base.specs.Messages.{Message, Mailbox, front_of}
use Rattle.ink_base.specs.Numbered.{numbered}

-- an event: the process that made it, the action as it was made, and what the processes shared before it
pub record Event (V : Type 0) : Type 0 where
  pub process : ℕ
  pub made : Action V
  pub before : SharedState V

-- each event finds what the one before left, and the last one leaves that
abbrev pub Follow : {V : Type 0} → SharedState V → List (Event V) → SharedState V → Type 0
Follow old [] new = old ≡ new
Follow old (event ∷ events) new =
    (event.before ≡ old) × Follow (after_action event.made event.process event.before) events new

abbrev pub message_to : {V : Type 0} → Option (Mailbox V) → ℕ → ℕ → V → List (Message V)
message_to None sender method values = []
message_to (Some box) sender method values =
    record { number = box.sent + 1; sender = sender; method = method; values = values } ∷ []

-- the message that an action of a process sends to another, where it sends one
abbrev pub sent_in : {V : Type 0} → ℕ → ℕ → ℕ → Action V → SharedState V → List (Message V)
sent_in sender receiver process (Send to method values) before =
    if process == sender && to == receiver then message_to (numbered before.mail to) process method values else []
sent_in sender receiver process other before = []

abbrev pub if_from : {V : Type 0} → ℕ → Option (Message V) → List (Message V)
if_from sender None = []
if_from sender (Some message) = if message.sender == sender then message ∷ [] else []

-- the message of a sender that an action of a process takes, where it takes one
abbrev pub taken_in : {V : Type 0} → ℕ → ℕ → ℕ → Action V → SharedState V → List (Message V)
taken_in sender receiver process Take before = if process == receiver then if_from sender (front_of before.mail process) else []
taken_in sender receiver process other before = []

-- the messages that one process sent to another, and those of one that another took, in the order of the events
abbrev pub all_sent : {V : Type 0} → ℕ → ℕ → List (Event V) → List (Message V)
all_sent sender receiver events = flat_map (λ event. sent_in sender receiver event.process event.made event.before) events

abbrev pub all_taken : {V : Type 0} → ℕ → ℕ → List (Event V) → List (Message V)
all_taken sender receiver events = flat_map (λ event. taken_in sender receiver event.process event.made event.before) events

-- of messages, those of one sender
abbrev pub from_sender : {V : Type 0} → ℕ → List (Message V) → List (Message V)
from_sender sender [] = []
from_sender sender (message ∷ others) = if_from sender (Some message) ++ from_sender sender others

-- one list begins another
abbrev pub Begins : {X : Type 0} → List X → List X → Type 0
Begins {X} front whole = (rest : List X) × (whole ≡ front ++ rest)

-- the numbers of messages rise, from above one number and up to another, so that no two are one
abbrev pub Rise : {V : Type 0} → ℕ → List (Message V) → ℕ → Type 0
Rise low [] high = low ≤ high
Rise low (message ∷ others) high = (low < message.number) × Rise message.number others high

-- how many messages ever went into a mailbox
abbrev pub sent_to : {V : Type 0} → Option (Mailbox V) → ℕ
sent_to None = 0
sent_to (Some box) = box.sent
