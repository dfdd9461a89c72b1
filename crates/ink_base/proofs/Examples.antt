-- What the shared definitions give in small cases: how ends overlap, the order of mail, and the states of a future.
use Rattle.std.proofs.Common.{◌≡◌, ℕ, Bool, true, false, None, Some, List, [], ◌∷◌, refl, replicate}
use Rattle.std.specs.Prelude.{codes}
use Rattle.ink_base.specs.declared.future.FutureState.{FutureState}
use Rattle.ink_base.specs.declared.future.FutureState.TheVariants.{Open, Set}
use Rattle.ink_base.specs.Actions.{Take, Print, Spawn, Send, NewFuture, BreakFuture, GetFuture, Panic, SharedState, opening, is_enabled, as_made, after_action}
use Rattle.ink_base.specs.Ends.{Standing, Enabled, AtTake, AtGet, Spent, Endless, Rests, CheckedIn, RoundsMade, EntriesMade, EntryFails, Panicked, Waiting, Quiet, EventLimit, LocalLimit, RoundLimit, JournalEnds, BadEntry, end_of}
use Rattle.ink_base.specs.Futures.{after_set, after_break, after_get, after_value_back, value_of}
use Rattle.ink_base.specs.Limits.{default_numbers}
use Rattle.ink_base.specs.Messages.{Mail, empty_mailbox, front_of, unread_of, after_send, after_take, after_put_back}

-- the limit of rounds comes before each other end but a panic
rounds_first : (is_full : Bool) (processes : List Standing) → end_of None (RoundsMade 3) is_full processes ≡ Some (RoundLimit 3)
rounds_first is_full processes = refl

panic_first : (is_full : Bool) (processes : List Standing) → end_of (Some 2) (CheckedIn 2) is_full processes ≡ Some (Panicked 2)
panic_first is_full processes = refl

quiet : end_of None Rests false (AtTake ∷ AtTake ∷ []) ≡ Some Quiet
quiet = refl

least_waiting : end_of None Rests false (AtTake ∷ AtGet ∷ AtGet ∷ []) ≡ Some (Waiting 2)
least_waiting = refl

endless_is_no_end : end_of None Rests false (AtTake ∷ Endless ∷ []) ≡ None
endless_is_no_end = refl

full_journal : end_of None (CheckedIn 2) true (AtTake ∷ Enabled ∷ []) ≡ Some (EventLimit 2)
full_journal = refl

-- a process that is spent ends the run by its own limit, whether the journal has room or not
spent_before_full : end_of None (CheckedIn 1) true (Spent 9 ∷ Enabled ∷ []) ≡ Some (LocalLimit 1 9)
spent_before_full = refl

-- after the last entry of a replay the first process that is spent or enabled decides
spent_before_enabled : end_of None EntriesMade false (AtTake ∷ Spent 9 ∷ Enabled ∷ []) ≡ Some (LocalLimit 2 9)
spent_before_enabled = refl

enabled_before_spent : end_of None EntriesMade true (AtTake ∷ Enabled ∷ Spent 9 ∷ []) ≡ Some (JournalEnds 2)
enabled_before_spent = refl

replay_at_rest : end_of None EntriesMade true (AtGet ∷ AtTake ∷ []) ≡ Some (Waiting 1)
replay_at_rest = refl

bad_entry : end_of None (EntryFails 4 1) false (AtTake ∷ []) ≡ Some (BadEntry 4)
bad_entry = refl

entry_of_no_process : end_of None (EntryFails 4 7) false (AtTake ∷ []) ≡ Some (BadEntry 4)
entry_of_no_process = refl

spent_at_entry : end_of None (EntryFails 4 1) false (Spent 9 ∷ []) ≡ Some (LocalLimit 1 9)
spent_at_entry = refl

entry_after_panic : end_of (Some 1) (EntryFails 4 1) false (Spent 9 ∷ []) ≡ Some (BadEntry 4)
entry_after_panic = refl

-- two processes; 1 sends 10 and then 20 to 2
two_sent : Mail ℕ
two_sent = after_send (after_send (empty_mailbox ∷ empty_mailbox ∷ []) 2 1 5 10) 2 1 6 20

oldest_first : front_of two_sent 2 ≡ Some (record { number = 1; sender = 1; method = 5; values = 10 })
unfolding two_sent
oldest_first = refl

then_the_next : front_of (after_take two_sent 2) 2 ≡ Some (record { number = 2; sender = 1; method = 6; values = 20 })
unfolding two_sent
then_the_next = refl

-- what was taken and comes back is the oldest again
back_in_front : after_put_back (after_take two_sent 2) 2 (record { number = 1; sender = 1; method = 5; values = 10 }) ≡ two_sent
unfolding two_sent
back_in_front = refl

-- a mailbox that was emptied goes on with its numbers
numbers_go_on : unread_of (after_send (after_take (after_take two_sent 2) 2) 2 2 7 30) 2 ≡ record { number = 3; sender = 2; method = 7; values = 30 } ∷ []
unfolding two_sent
numbers_go_on = refl

abbrev made : FutureState ℕ
made = Open

set_once : after_set (after_set made 4) 5 ≡ Set 4
set_once = refl

taken_once : value_of (after_get (after_set made 4)) ≡ None
taken_once = refl

back_in_its_future : after_value_back (after_get (after_set made 4)) 4 ≡ Set 4
back_in_its_future = refl

set_is_not_broken : after_break (after_set made 4) ≡ Set 4
set_is_not_broken = refl

-- process 1 alone, with the message with which a run begins
start : SharedState ℕ
start = opening 5 10

take_is_enabled : is_enabled Take 1 start ≡ true
unfolding start
take_is_enabled = refl

take_waits : is_enabled Take 1 (after_action Take 1 start) ≡ false
unfolding start
take_waits = refl

get_waits : is_enabled (GetFuture 1) 1 (after_action NewFuture 1 start) ≡ false
unfolding start
get_waits = refl

get_of_broken : as_made (GetFuture 1) (after_action (BreakFuture 1) 1 (after_action NewFuture 1 start)) default_numbers ≡ Panic (codes "future is broken")
unfolding start
get_of_broken = refl

spawn_at_its_limit : as_made (Spawn 3 0) start (replicate 14 1) ≡ Panic (codes "limit reached: processes")
unfolding start
spawn_at_its_limit = refl

send_at_its_limit : as_made (Send 1 5 0) start (replicate 14 1) ≡ Panic (codes "limit reached: mailbox")
unfolding start
send_at_its_limit = refl

send_below_its_limit : as_made (Send 1 5 0) start (replicate 14 2) ≡ Send 1 5 0
unfolding start
send_below_its_limit = refl

printed_line : (after_action (Print (codes "a")) 1 (after_action (Print (codes "b")) 1 start)).output ≡ 98 ∷ 10 ∷ 97 ∷ 10 ∷ []
unfolding start
printed_line = refl
