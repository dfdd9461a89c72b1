-- A check-in of the machine adds to the journal, and takes nothing away.
use Rattle.std.proofs.Common.{◌≡◌, ◌≤◌, ◌+◌, ℕ, Bool, true, false, Option, None, Some, Ok, Err, List, [], ◌∷◌, ◌++◌, length, length-append, le_refl, refl, sym, ap, ◌∙◌, arith}
use Rattle.std.specs.Prelude.{nat_le, if◌then◌else◌}
use Rattle.std.proofs.lemmas.List.{append-nil, append_assoc, length-map}
use Rattle.ink_base.specs.declared.limits.Limit.TheVariants as limit
use Rattle.ink_base.specs.Actions.{Action, as_made, is_enabled}
use Rattle.ink_base.specs.Actions as action
use Rattle.ink_base.specs.Ends.{End, EventLimit}
use Rattle.ink_base.specs.Limits.{limit_of}
use Rattle.ink_base.specs.Numbered.{numbered, set_numbered}
use Rattle.ink_code.specs.declared.code.Code.{Code}
use Rattle.ink_code.specs.Machine.{Outcome, Stepped, Went, Wants, Panics, Spent}
use Rattle.ink_code.specs.Process.{Process}
use Rattle.ink_code.specs.Rounds.{RoundState, Status, checked_in, unless_ended, acted, acts, back_in, comes_back, end_by, ends_with, made_by, status_after, stopped_at, waits_at, woken, woken_at, woken_from_get, woken_from_take, Ready, Stopped}
use Rattle.ink_code.specs.Runs.{after_made, begun, process_after, with_started}
use Rattle.ink_code.specs.Trees.{Parcel}
use Rattle.ink_law_turns.proofs.Numbering.{length-set_numbered}
use Rattle.ink_rounds.specs.Machine.{Begins, Gone, all_checked_in, slice_from}

pub begins_same : (js ks : List ℕ) → ks ≡ js → Begins js ks
begins_same js ks same = record { rest = []; is = same ∙ sym (append-nil js) }

pub begins_on : (js ks ls : List ℕ) → Begins js ks → Begins ks ls → Begins js ls
begins_on js ks ls first second = record {
  rest = first.rest ++ second.rest;
  is = second.is ∙ (ap (λ (xs : List ℕ). xs ++ second.rest) first.is ∙ append_assoc js first.rest second.rest);
}

module _ (code : Code) (limits : List ℕ) (number : ℕ) (run : RoundState) where
  abbrev Grows : RoundState → Type 0
  Grows new = Begins run.journal new.journal

  stays : (new : RoundState) → new.journal ≡ run.journal → Grows new
  stays new same = begins_same run.journal new.journal same

  acted_grows : (made : Action Parcel) (left : Option Process) → Grows (acted made number left run)
  acted_grows made None = stays (acted made number None run) refl
  acted_grows made (Some p) = record { rest = number ∷ []; is = refl }

  acts_by : (wish : Action Parcel) (p : Process) (enabled full : Bool) → Grows (if enabled then (if full then ends_with (EventLimit number) number p run else made_by code (as_made wish run.world.shared limits) number p run) else back_in number p (waits_at wish) run)
  acts_by wish p false full = begins_same run.journal run.journal refl
  acts_by wish p true true = begins_same run.journal run.journal refl
  acts_by wish p true false = acted_grows (as_made wish run.world.shared limits) (process_after code (as_made wish run.world.shared limits) number run.world.shared p)

  acts_grows : (wish : Action Parcel) (p : Process) → Grows (acts code limits wish number p run)
  acts_grows wish p = acts_by wish p (is_enabled wish number run.world.shared) (nat_le (limit_of limit.Events limits) (length run.journal))

  back_grows : (stepped : Stepped) (p : Process) → Grows (comes_back code limits stepped number p run)
  back_grows Went p = begins_same run.journal run.journal refl
  back_grows (Wants wish) p = acts_grows wish p
  back_grows (Panics text) p = acts_grows (action.Panic text) p
  back_grows (Spent steps) p = begins_same run.journal run.journal refl

  unless_grows : (e : Option End) (stepped : Stepped) (p : Process) → Grows (unless_ended e (back_in number p Stopped run) (comes_back code limits stepped number p run))
  unless_grows None stepped p = back_grows stepped p
  unless_grows (Some end) stepped p = begins_same run.journal run.journal refl

  pub check_grows : (outcome : Outcome) → Begins run.journal (checked_in code limits number outcome run).journal
  unfolding checked_in
  check_grows (Err why) = begins_same run.journal run.journal refl
  check_grows (Ok (stepped, p)) = unless_grows run.ended stepped p

pub all_grow : (code : Code) (limits : List ℕ) (gone : Gone) (run : RoundState) → Begins run.journal (all_checked_in code limits gone run).journal
all_grow code limits [] run = begins_same run.journal run.journal refl
all_grow code limits (g ∷ gone) run =
    let next : RoundState = checked_in code limits g.0 (slice_from code limits g.1) run in
    begins_on run.journal next.journal (all_checked_in code limits gone next).journal (check_grows code limits g.0 run (slice_from code limits g.1)) (all_grow code limits gone next)

pub all_append : (code : Code) (limits : List ℕ) (gone more : Gone) (run : RoundState) → all_checked_in code limits (gone ++ more) run ≡ all_checked_in code limits more (all_checked_in code limits gone run)
all_append code limits [] more run = refl
all_append code limits (g ∷ gone) more run = all_append code limits gone more (checked_in code limits g.0 (slice_from code limits g.1) run)

-- there are no fewer processes
abbrev pub NoFewer : RoundState → RoundState → Type 0
NoFewer old new = (length old.world.processes ≤ length new.world.processes) × (length old.statuses ≤ length new.statuses)

started_more : (made : Action Parcel) (ps : List Process) → length ps ≤ length (with_started made ps)
started_more (action.Spawn kind given) ps =
    let more = length-append ps (begun (length ps + 1) kind given ∷ []) in omega (arith, more)
started_more other ps = le_refl (length ps)

woken_at_more : (o : Option Status) (ss : List Status) (to : ℕ) → length ss ≤ length (woken_at o ss to)
woken_at_more None ss to = le_refl (length ss)
woken_at_more (Some s) ss to = let same = length-set_numbered ss to (woken_from_take s) in omega (arith, same)

woken_more : (made : Action Parcel) (ss : List Status) → length ss ≤ length (woken made ss)
woken_more (action.Send to method values) ss = woken_at_more (numbered ss to) ss to
woken_more (action.SetFuture future value) ss = let same = length-map ss (woken_from_get future) in omega (arith, same)
woken_more (action.BreakFuture future) ss = let same = length-map ss (woken_from_get future) in omega (arith, same)
woken_more (action.Spawn kind given) ss = let more = length-append ss (Ready ∷ []) in omega (arith, more)
woken_more other ss = le_refl (length ss)

module _ (code : Code) (limits : List ℕ) (number : ℕ) (run : RoundState) where
  more_back : (p : Process) (s : Status) → NoFewer run (back_in number p s run)
  more_back p s =
      let processes = length-set_numbered run.world.processes number p in
      let statuses = length-set_numbered run.statuses number s in
      (omega (arith, processes), omega (arith, statuses))

  more_stopped : NoFewer run (stopped_at number run)
  more_stopped =
      let statuses = length-set_numbered run.statuses number Stopped in
      (le_refl (length run.world.processes), omega (arith, statuses))

  more_acted : (made : Action Parcel) (left : Option Process) → NoFewer run (acted made number left run)
  unfolding after_made
  more_acted made None = more_stopped
  more_acted made (Some p) =
      let processes = length-set_numbered run.world.processes number p in
      let statuses = length-set_numbered run.statuses number (status_after (end_by made number)) in
      let started = started_more made (set_numbered run.world.processes number p) in
      let woke = woken_more made (set_numbered run.statuses number (status_after (end_by made number))) in
      (omega (arith, processes, started), omega (arith, statuses, woke))

  more_by : (wish : Action Parcel) (p : Process) (enabled full : Bool) → NoFewer run (if enabled then (if full then ends_with (EventLimit number) number p run else made_by code (as_made wish run.world.shared limits) number p run) else back_in number p (waits_at wish) run)
  more_by wish p false full = more_back p (waits_at wish)
  more_by wish p true true = more_back p Stopped
  more_by wish p true false = more_acted (as_made wish run.world.shared limits) (process_after code (as_made wish run.world.shared limits) number run.world.shared p)

  more_acts : (wish : Action Parcel) (p : Process) → NoFewer run (acts code limits wish number p run)
  more_acts wish p = more_by wish p (is_enabled wish number run.world.shared) (nat_le (limit_of limit.Events limits) (length run.journal))

  more_comes : (stepped : Stepped) (p : Process) → NoFewer run (comes_back code limits stepped number p run)
  more_comes Went p = more_back p Ready
  more_comes (Wants wish) p = more_acts wish p
  more_comes (Panics text) p = more_acts (action.Panic text) p
  more_comes (Spent steps) p = more_back p Stopped

  more_unless : (e : Option End) (stepped : Stepped) (p : Process) → NoFewer run (unless_ended e (back_in number p Stopped run) (comes_back code limits stepped number p run))
  more_unless None stepped p = more_comes stepped p
  more_unless (Some end) stepped p = more_back p Stopped

  -- a check-in leaves no fewer processes
  pub check_more : (outcome : Outcome) → NoFewer run (checked_in code limits number outcome run)
  unfolding checked_in
  check_more (Err why) = more_stopped
  check_more (Ok (stepped, p)) = more_unless run.ended stepped p
