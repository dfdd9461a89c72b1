-- A check-in of a kept world is that of the machine.
use Rattle.std.proofs.Common.{◌≡◌, ◌≢◌, ℕ, ◌+◌, ◌≤◌, Bool, true, false, Option, None, Some, Ok, List, [], ◌∷◌, ◌++◌, length, map, refl, sym, ap, ◌∙◌, subst}
use Rattle.std.specs.Prelude.{nat_le, if◌then◌else◌}
use Rattle.std.proofs.lemmas.List.{map-append, length-map}
use Rattle.ink_base.specs.declared.limits.Limit.TheVariants as limit
use Rattle.ink_base.specs.Actions.{Action, SharedState, after_action, as_made, is_enabled}
use Rattle.ink_base.specs.Actions as action
use Rattle.ink_base.specs.Ends.{End, EventLimit, LocalLimit}
use Rattle.ink_base.specs.Limits.{limit_of}
use Rattle.ink_base.specs.Numbered.{set_numbered}
use Rattle.ink_code.specs.declared.code.Code.{Code}
use Rattle.ink_code.specs.Machine.{Outcome, Stepped, Went, Wants, Panics, Spent}
use Rattle.ink_code.specs.Process.{Process}
use Rattle.ink_code.specs.Rounds.{RoundState, checked_in, unless_ended}
use Rattle.ink_code.specs.Rounds as machine
use Rattle.ink_code.specs.Runs.{after_made, begun, process_after, with_started}
use Rattle.ink_code.specs.Trees.{Parcel}
use Rattle.ink_law_runs.specs.CodeMachine.{code_machine}
use Rattle.ink_law_turns.proofs.Numbering.{length-set_numbered}
use Rattle.ink_rounds.specs.Machine.{AreOthers, Gone, IsAs, ended_by, homes_without, status_of, statuses_without}
use Rattle.ink_rounds.proofs.Stopping.{any_put, woken_calm}
use Rattle.ink_rounds.proofs.Without.{put_back, put_before, length_put, set_mapped, woken_as, woken_without}
use Rattle.ink_post.specs.Worlds.{CodeState}
use Rattle.ink_statuses.specs.Readings.{is_stopped}
use Rattle.ink_worlds.specs.Standing.{text_in}
use Rattle.ink_worlds.specs.State as w
use Rattle.ink_worlds.specs.declared.halt.Halt.{Halt}
use Rattle.ink_worlds.specs.declared.halt.Halt.TheVariants as halt
use Rattle.ink_worlds.specs.declared.status.Status.{Status}
use Rattle.ink_worlds.specs.declared.status.Status.TheVariants.{Out}

some_process : Process → Option Process
some_process p = Some p

home_out : ℕ × Process → Option Process
home_out x = None

status_out : ℕ × Process → Status
status_out x = Out x.0 x.1.ran

-- the lists of a world with one of the lent processes back
module _ (number : ℕ) (p : Process) (gone : Gone) (last : ℕ) (others : AreOthers number last gone) (state : CodeState) (run : RoundState) (alike : IsAs ((number, p) ∷ gone) state run) where
  homes_back : (q : Process) → set_numbered state.homes number (Some q) ≡ homes_without gone (map (λ (x : Process). Some x) (set_numbered run.world.processes number q))
  homes_back q =
      ap (λ (hs : List (Option Process)). set_numbered hs number (Some q)) alike.homes
      ∙ (put_back (λ (x : ℕ × Process). None) (number, p) gone (map (λ (x : Process). Some x) run.world.processes) last (Some q) others
      ∙ ap (λ (hs : List (Option Process)). homes_without gone hs) (sym (set_mapped (λ (x : Process). Some x) run.world.processes number q)))

  statuses_back : (status : machine.Status) → set_numbered state.statuses number (status_of status) ≡ statuses_without gone (map status_of (set_numbered run.statuses number status))
  statuses_back status =
      ap (λ (ss : List Status). set_numbered ss number (status_of status)) alike.statuses
      ∙ (put_back (λ (x : ℕ × Process). Out x.0 x.1.ran) (number, p) gone (map status_of run.statuses) last (status_of status) others
      ∙ ap (λ (ss : List Status). statuses_without gone ss) (sym (set_mapped status_of run.statuses number status)))

  -- a process comes home, and the run goes on or ends with it
  back_as : (q : Process) (status : machine.Status) (halt : Option Halt) (ended : Option End) → ended ≡ ended_by halt → (halt ≡ None → (state.halt ≡ None) × (is_stopped (status_of status) ≡ false))
      → (new : CodeState) → new ≡ record (w.back_in number q (status_of status) state) { halt = halt } → IsAs gone new (let back = machine.back_in number q status run in record back { ended = ended })
  back_as q status halt ended same calm new is =
      subst (λ (s : CodeState). IsAs gone s (let back = machine.back_in number q status run in record back { ended = ended })) (sym is) (record {
        homes = homes_back q;
        statuses = statuses_back status;
        shared = alike.shared;
        journal = alike.journal;
        text = alike.text;
        ended = same;
        stopped = λ goes. any_put state.statuses number (status_of status) (alike.stopped (calm goes).0) (calm goes).1;
      })

  homes_more : (code : Code) (limits : List ℕ) (made : Action Parcel) (ps : List Process) (hs : List (Option Process)) → last ≤ length ps → hs ≡ homes_without gone (map (λ (x : Process). Some x) ps)
      → w.home_started (code_machine code limits) made hs ≡ homes_without gone (map (λ (x : Process). Some x) (with_started made ps))
  homes_more code limits (action.Spawn kind given) ps hs low is =
      let many : length hs ≡ length ps = ap length is ∙ (length_put (λ (x : ℕ × Process). None) gone (map (λ (x : Process). Some x) ps) ∙ length-map ps (λ (x : Process). Some x)) in
      let under : last ≤ length (map (λ (x : Process). Some x) ps) = subst (λ (n : ℕ). last ≤ n) (sym (length-map ps (λ (x : Process). Some x))) low in
      ap (λ (n : ℕ). hs ++ Some (begun (n + 1) kind given) ∷ []) many
      ∙ (ap (λ (xs : List (Option Process)). xs ++ Some (begun (length ps + 1) kind given) ∷ []) is
      ∙ (sym (put_before (λ (x : ℕ × Process). None) gone (map (λ (x : Process). Some x) ps) (Some (begun (length ps + 1) kind given) ∷ []) number last others under)
      ∙ ap (λ (xs : List (Option Process)). homes_without gone xs) (sym (map-append (λ (x : Process). Some x) ps (begun (length ps + 1) kind given ∷ [])))))
  homes_more code limits other ps hs low is = is

  ended_as : (made : Action Parcel) → machine.end_by made number ≡ ended_by (w.halt_by made number)
  ended_as (action.Panic text) = refl
  ended_as other = refl

  status_as : (made : Action Parcel) → w.status_after made ≡ status_of (machine.status_after (machine.end_by made number))
  status_as (action.Panic text) = refl
  status_as other = refl

  text_as : (made : Action Parcel) → w.text_by made ≡ text_in (Rattle.ink_code.specs.Runs.panic_by made number)
  text_as (action.Panic text) = refl
  text_as other = refl

  status_calm : (made : Action Parcel) → w.halt_by made number ≡ None → is_stopped (w.status_after made) ≡ false
  status_calm (action.Panic text) none = absurd (cc)
  status_calm other none = refl

  -- an action was made
  acted_as : (code : Code) (limits : List ℕ) (made : Action Parcel) (q : Process) → state.halt ≡ None → last ≤ length run.world.processes → last ≤ length run.statuses
      → (new : CodeState) → new ≡ w.acted (code_machine code limits) made number q state → IsAs gone new (machine.acted made number (Some q) run)
  unfolding after_made
  acted_as code limits made q goes low under new is =
      let ps : List Process = set_numbered run.world.processes number q in
      let status : machine.Status = machine.status_after (machine.end_by made number) in
      let ss : List machine.Status = set_numbered run.statuses number status in
      let low' : last ≤ length ps = subst (λ (n : ℕ). last ≤ n) (sym (length-set_numbered run.world.processes number q)) low in
      let under' : last ≤ length (map status_of ss) = subst (λ (n : ℕ). last ≤ n) (sym (length-map ss status_of ∙ length-set_numbered run.statuses number status)) under in
      subst (λ (s : CodeState). IsAs gone s (machine.acted made number (Some q) run)) (sym is) (record {
        homes = homes_more code limits made ps (set_numbered state.homes number (Some q)) low' (homes_back q);
        statuses = ap (λ (s : Status). w.woken made (set_numbered state.statuses number s)) (status_as made)
            ∙ (ap (w.woken made) (statuses_back status)
            ∙ (woken_without made gone (map status_of ss) number last others under'
            ∙ ap (λ (xs : List Status). statuses_without gone xs) (sym (woken_as made ss))));
        shared = ap (λ (shared : SharedState Parcel). after_action made number shared) alike.shared;
        journal = ap (λ (js : List ℕ). js ++ number ∷ []) alike.journal;
        text = text_as made;
        ended = ended_as made;
        stopped = λ still. woken_calm made (set_numbered state.statuses number (w.status_after made)) (any_put state.statuses number (w.status_after made) (alike.stopped goes) (status_calm made still));
      })

  waits_as : (wish : Action Parcel) → w.waits_at wish ≡ status_of (machine.waits_at wish)
  waits_as (action.GetFuture future) = refl
  waits_as other = refl

  waits_calm : (wish : Action Parcel) → is_stopped (status_of (machine.waits_at wish)) ≡ false
  waits_calm (action.GetFuture future) = refl
  waits_calm other = refl

  module _ (code : Code) (limits : List ℕ) (goes : state.halt ≡ None) (low : last ≤ length run.world.processes) (under : last ≤ length run.statuses) (answer : w.Answer) (right : answer ≢ w.Wrong) (new : CodeState) where
    running : run.ended ≡ None
    running = alike.ended ∙ ap ended_by goes

    -- the run with the process back, where it goes on
    still_as : (q : Process) (status : machine.Status) → is_stopped (status_of status) ≡ false → new ≡ w.back_in number q (status_of status) state → IsAs gone new (machine.back_in number q status run)
    still_as q status calm is = back_as q status state.halt run.ended alike.ended (λ none. (none, calm)) new is

    made_as : (made : Action Parcel) (left : Option Process) → w.Makes (code_machine code limits) made number left state answer new → IsAs gone new (machine.acted made number left run)
    made_as made None makes = absurd (right makes.0)
    made_as made (Some q) makes = acted_as code limits made q goes low under new makes.1

    acts_by : (wish : Action Parcel) (q : Process) (enabled full : Bool) → w.ActsBy (code_machine code limits) limits number wish q state enabled full answer new
        → IsAs gone new (if enabled then (if full then machine.ends_with (EventLimit number) number q run else machine.made_by code (as_made wish run.world.shared limits) number q run) else machine.back_in number q (machine.waits_at wish) run)
    acts_by wish q false full acts =
        still_as q (machine.waits_at wish) (waits_calm wish) (acts.1 ∙ ap (λ (s : Status). w.back_in number q s state) (waits_as wish))
    acts_by wish q true true acts = back_as q machine.Stopped (Some (halt.Events number)) (Some (EventLimit number)) refl (λ none. absurd (cc)) new acts.1
    acts_by wish q true false acts =
        made_as (as_made wish run.world.shared limits) (process_after code (as_made wish run.world.shared limits) number run.world.shared q)
        (subst (λ (shared : SharedState Parcel). w.Makes (code_machine code limits) (as_made wish shared limits) number (process_after code (as_made wish shared limits) number shared q) state answer new) alike.shared acts)

    acts_as : (wish : Action Parcel) (q : Process) → w.Acts (code_machine code limits) limits number wish q state answer new → IsAs gone new (machine.acts code limits wish number q run)
    acts_as wish q acts =
        acts_by wish q (is_enabled wish number run.world.shared) (nat_le (limit_of limit.Events limits) (length run.journal))
        (subst (λ (js : List ℕ). w.ActsBy (code_machine code limits) limits number wish q state (is_enabled wish number run.world.shared) (nat_le (limit_of limit.Events limits) (length js)) answer new) alike.journal
        (subst (λ (shared : SharedState Parcel). w.ActsBy (code_machine code limits) limits number wish q state (is_enabled wish number shared) (nat_le (limit_of limit.Events limits) (length state.journal)) answer new) alike.shared acts))

-- with what a process comes home from a slice that came to this
abbrev pub came_by : Stepped → w.Came Parcel
came_by Went = w.Went
came_by (Wants wish) = w.Wants wish
came_by (Panics text) = w.Wants (action.Panic text)
came_by (Spent steps) = w.Spent steps

-- what a slice came to is done as the machine does it
module _ (number : ℕ) (p : Process) (gone : Gone) (last : ℕ) (others : AreOthers number last gone) (state : CodeState) (run : RoundState) (alike : IsAs ((number, p) ∷ gone) state run)
    (code : Code) (limits : List ℕ) (low : last ≤ length run.world.processes) (under : last ≤ length run.statuses) (answer : w.Answer) (right : answer ≢ w.Wrong) (new : CodeState) where
  back_on : (stepped : Stepped) (q : Process) → state.halt ≡ None → w.ComesBack (code_machine code limits) limits number (came_by stepped) q state answer new → IsAs gone new (machine.comes_back code limits stepped number q run)
  back_on Went q goes back = back_as number p gone last others state run alike q machine.Ready state.halt run.ended alike.ended (λ none. (none, refl)) new back.1
  back_on (Wants wish) q goes back = acts_as number p gone last others state run alike code limits goes low under answer right new wish q back
  back_on (Panics text) q goes back = acts_as number p gone last others state run alike code limits goes low under answer right new (action.Panic text) q back
  back_on (Spent steps) q goes back =
      back_as number p gone last others state run alike q machine.Stopped (Some (halt.Local number steps)) (Some (LocalLimit number steps)) refl (λ none. absurd (cc)) new back.1

  by_halt : (stepped : Stepped) (q : Process) (o : Option Halt) (e : Option End) → state.halt ≡ o → run.ended ≡ e → e ≡ ended_by o → o ≢ Some halt.SinkFailed → w.ChecksInBy (code_machine code limits) limits number (came_by stepped) q state o answer new
      → IsAs gone new (unless_ended e (machine.back_in number q machine.Stopped run) (machine.comes_back code limits stepped number q run))
  by_halt stepped q None None at is same sound checks = back_on stepped q at checks
  by_halt stepped q None (Some end) at is same sound checks = absurd (cc)
  by_halt stepped q (Some h) (Some end) at is same sound checks =
      back_as number p gone last others state run alike q machine.Stopped state.halt run.ended alike.ended (λ none. absurd (let e = sym at ∙ none in cc)) new checks.1
  by_halt stepped q (Some (halt.Panicked process)) None at is same sound checks = absurd (cc)
  by_halt stepped q (Some (halt.Events process)) None at is same sound checks = absurd (cc)
  by_halt stepped q (Some (halt.Local process steps)) None at is same sound checks = absurd (cc)
  by_halt stepped q (Some halt.SinkFailed) None at is same sound checks = absurd (sound refl)

  pub checked_as : (stepped : Stepped) (q : Process) (outcome : Outcome) → outcome ≡ Ok (stepped, q) → state.halt ≢ Some halt.SinkFailed → w.ChecksIn (code_machine code limits) limits number (came_by stepped) q state answer new
      → IsAs gone new (checked_in code limits number outcome run)
  unfolding checked_in
  checked_as stepped q outcome is sound checks =
      subst (λ (o : Outcome). IsAs gone new (checked_in code limits number o run)) (sym is)
      (by_halt stepped q state.halt run.ended refl refl alike.ended sound checks)
