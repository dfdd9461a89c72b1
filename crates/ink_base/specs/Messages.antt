-- The mail: the unread messages of each process. V is what a message carries.
use Rattle.std.specs.Prelude.{ℕ, ◌+◌, Option, None, Some, List, [], ◌∷◌, ◌++◌}
use Rattle.ink_base.specs.Numbered.{numbered, set_numbered}

-- a message: its number among all that were ever sent to its process, counted from 1, the process that sent it, the
-- method that it calls, and what it carries
pub record Message (V : Type 0) : Type 0 where
  pub number : ℕ
  pub sender : ℕ
  pub method : ℕ
  pub values : V

-- a mailbox: how many messages were ever sent to it, and those that were not taken yet, the oldest first
pub record Mailbox (V : Type 0) : Type 0 where
  pub sent : ℕ
  pub unread : List (Message V)

-- the mailboxes of the processes, by number
abbrev pub Mail : Type 0 → Type 0
Mail V = List (Mailbox V)

abbrev pub empty_mailbox : {V : Type 0} → Mailbox V
empty_mailbox = record { sent = 0; unread = [] }

-- a mailbox after one more message
abbrev pub with_message : {V : Type 0} → Mailbox V → ℕ → ℕ → V → Mailbox V
with_message box sender method values =
    record {
      sent = box.sent + 1;
      unread = box.unread ++ record { number = box.sent + 1; sender = sender; method = method; values = values } ∷ [];
    }

-- a mailbox without its first message
abbrev pub without_first : {V : Type 0} → List (Message V) → List (Message V)
without_first [] = []
without_first (first ∷ rest) = rest

abbrev pub first_of : {V : Type 0} → List (Message V) → Option (Message V)
first_of [] = None
first_of (first ∷ rest) = Some first

abbrev pub unread_in : {V : Type 0} → Option (Mailbox V) → List (Message V)
unread_in None = []
unread_in (Some box) = box.unread

-- the unread messages of a process: none where there is no such process
abbrev pub unread_of : {V : Type 0} → Mail V → ℕ → List (Message V)
unread_of mail process = unread_in (numbered mail process)

-- the message that a process would take
abbrev pub front_of : {V : Type 0} → Mail V → ℕ → Option (Message V)
front_of mail process = first_of (unread_of mail process)

abbrev pub send_to_box : {V : Type 0} → Option (Mailbox V) → Mail V → ℕ → ℕ → ℕ → V → Mail V
send_to_box None mail to sender method values = mail
send_to_box (Some box) mail to sender method values = set_numbered mail to (with_message box sender method values)

-- the mail after a message was sent to a process
abbrev pub after_send : {V : Type 0} → Mail V → ℕ → ℕ → ℕ → V → Mail V
after_send mail to sender method values = send_to_box (numbered mail to) mail to sender method values

abbrev pub take_from_box : {V : Type 0} → Option (Mailbox V) → Mail V → ℕ → Mail V
take_from_box None mail process = mail
take_from_box (Some box) mail process = set_numbered mail process (record box { unread = without_first box.unread })

-- the mail after a process took its front message
abbrev pub after_take : {V : Type 0} → Mail V → ℕ → Mail V
after_take mail process = take_from_box (numbered mail process) mail process

abbrev pub put_in_box : {V : Type 0} → Option (Mailbox V) → Mail V → ℕ → Message V → Mail V
put_in_box None mail process message = mail
put_in_box (Some box) mail process message = set_numbered mail process (record box { unread = message ∷ box.unread })

-- the mail after a message that a process took came back, in front of the others
abbrev pub after_put_back : {V : Type 0} → Mail V → ℕ → Message V → Mail V
after_put_back mail process message = put_in_box (numbered mail process) mail process message
