-- The actions by which a process acts on what all processes share. V is what goes from one process to another.
use Rattle.std.specs.Prelude.{ℕ, Bool, true, false, nat_le, if◌then◌else◌, Option, None, Some, List, [], ◌∷◌, ◌++◌, length}
use Rattle.std.specs.Option.{option_map_or}
use Rattle.ink_base.specs.declared.limits.Limit.{Limit}
use Rattle.ink_base.specs.declared.limits.Limit.TheVariants as limit
use Rattle.ink_base.specs.Numbered.{numbered}
use Rattle.ink_base.specs.Limits.{limit_of, panic_text}
use Rattle.ink_base.specs.Messages.{Mail, empty_mailbox, unread_of, after_send, after_take}
use Rattle.ink_base.specs.Futures.{Futures, is_ready, is_broken, after_make, after_set, after_break, after_get, changed_future}
use Rattle.ink_base.specs.Panics.{broken_text}

pub data Action (V : Type 0) : Type 0 where
  Take : Action V
  Print : (text : List ℕ) → Action V
  Spawn : (kind : ℕ) (fields : V) → Action V
  Send : (to method : ℕ) (values : V) → Action V
  NewFuture : Action V
  SetFuture : (future : ℕ) (value : V) → Action V
  BreakFuture : (future : ℕ) → Action V
  GetFuture : (future : ℕ) → Action V
  Panic : (text : List ℕ) → Action V

-- what the processes of a run share: a mailbox for each of them, the futures, and what was printed
pub record SharedState (V : Type 0) : Type 0 where
  pub mail : Mail V
  pub futures : Futures V
  pub output : List ℕ

-- what they share when a run begins: one process, which has a message from no process
abbrev pub opening : {V : Type 0} → ℕ → V → SharedState V
opening method values =
    record { mail = after_send (empty_mailbox ∷ []) 1 0 method values; futures = []; output = [] }

abbrev pub has_some : {X : Type 0} → List X → Bool
has_some [] = false
has_some (x ∷ xs) = true

-- whether an action of a process can be made now: a take wants a message, and a get a future that is set or broken
abbrev pub is_enabled : {V : Type 0} → Action V → ℕ → SharedState V → Bool
is_enabled Take process shared = has_some (unread_of shared.mail process)
is_enabled (Print text) process shared = true
is_enabled (Spawn kind fields) process shared = true
is_enabled (Send to method values) process shared = true
is_enabled NewFuture process shared = true
is_enabled (SetFuture future value) process shared = true
is_enabled (BreakFuture future) process shared = true
is_enabled (GetFuture future) process shared = option_map_or is_ready (numbered shared.futures future) false
is_enabled (Panic text) process shared = true

-- the panic text of a limit, where so many reach its number
abbrev pub reached : Limit → ℕ → List ℕ → Option (List ℕ)
reached limit count limits = if nat_le (limit_of limit limits) count then panic_text limit else None

-- with which text an enabled action is made as a panic in its place: a spawn, a send or a new future at its limit, and
-- a get of a broken future
abbrev pub panic_of : {V : Type 0} → Action V → SharedState V → List ℕ → Option (List ℕ)
panic_of Take shared limits = None
panic_of (Print text) shared limits = None
panic_of (Spawn kind fields) shared limits = reached limit.Processes (length shared.mail) limits
panic_of (Send to method values) shared limits = reached limit.Mailbox (length (unread_of shared.mail to)) limits
panic_of NewFuture shared limits = reached limit.Futures (length shared.futures) limits
panic_of (SetFuture future value) shared limits = None
panic_of (BreakFuture future) shared limits = None
panic_of (GetFuture future) shared limits =
    if option_map_or is_broken (numbered shared.futures future) false then Some broken_text else None
panic_of (Panic text) shared limits = Some text

abbrev pub panic_or : {V : Type 0} → Option (List ℕ) → Action V → Action V
panic_or None action = action
panic_or (Some text) action = Panic text

-- an enabled action as it is made
abbrev pub as_made : {V : Type 0} → Action V → SharedState V → List ℕ → Action V
as_made action shared limits = panic_or (panic_of action shared limits) action

-- what the processes share after an action that a process makes
abbrev pub after_action : {V : Type 0} → Action V → ℕ → SharedState V → SharedState V
after_action Take process shared = record shared { mail = after_take shared.mail process }
after_action (Print text) process shared = record shared { output = shared.output ++ text ++ 10 ∷ [] }
after_action (Spawn kind fields) process shared = record shared { mail = shared.mail ++ empty_mailbox ∷ [] }
after_action (Send to method values) process shared = record shared { mail = after_send shared.mail to process method values }
after_action NewFuture process shared = record shared { futures = after_make shared.futures }
after_action (SetFuture future value) process shared =
    record shared { futures = changed_future shared.futures future (λ state. after_set state value) }
after_action (BreakFuture future) process shared = record shared { futures = changed_future shared.futures future after_break }
after_action (GetFuture future) process shared = record shared { futures = changed_future shared.futures future after_get }
after_action (Panic text) process shared = shared
