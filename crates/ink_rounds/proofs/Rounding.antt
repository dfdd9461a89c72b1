-- A round of a kept world is that of the machine.
use Rattle.std.proofs.Common.{◌≡◌, ◌+◌, ℕ, Bool, true, false, Option, None, Some, List, [], ◌∷◌, length, map, reverse, refl, sym, ap, ◌∙◌, subst, arith}
use Rattle.std.specs.Prelude.{◌&&◌}
use Rattle.std.specs.List.{list_any}
use Rattle.std.proofs.lemmas.List.{length-map, reverse-reverse}
use Rattle.ink_base.specs.Ends.{End}
use Rattle.ink_code.specs.declared.code.Code.{Code}
use Rattle.ink_code.specs.Process.{Process}
use Rattle.ink_code.specs.Rounds.{RoundState, checked_in, each_checked_in, round, slices_of, unless_ended}
use Rattle.ink_code.specs.Rounds as machine
use Rattle.ink_post.specs.Worlds.{CodeState, Stands, home_of, world_of}
use Rattle.ink_post.specs.declared.post.Post.{Post}
use Rattle.ink_rounds.specs.Lent.{AreSliced}
use Rattle.ink_rounds.specs.Machine.{AllCameFrom, AreApart, Awaits, Begins, Follows, FollowsAll, Gone, IsAs, LendsAll, all_checked_in, ended_by, gone_of, homes_without, ready_from, ready_in, slice_from, status_of, statuses_without}
use Rattle.ink_rounds.specs.declared.lent.Lent.{Lent}
use Rattle.ink_rounds.proofs.Apart.{apart_front, apart_ready}
use Rattle.ink_rounds.proofs.Growing.{all_append, all_grow, begins_on}
use Rattle.ink_rounds.proofs.Stopping.{any_without}
use Rattle.ink_statuses.specs.Readings.{is_stopped}
use Rattle.ink_worlds.specs.declared.status.Status.{Status}

-- those that made their slices came to what these came to
pub all_came : (code : Code) (limits : List ℕ) (xs ys : List Lent) → AreSliced code limits xs ys → AllCameFrom code limits (gone_of xs) ys
all_came code limits [] [] sliced = tt
all_came code limits [] (y ∷ ys) sliced = absurd sliced
all_came code limits (x ∷ xs) [] sliced = absurd sliced
all_came code limits (x ∷ xs) (y ∷ ys) sliced = (sliced.0.number, sliced.0.from, all_came code limits xs ys sliced.1)

-- the machine checks in those that were ready
each_as : (code : Code) (limits : List ℕ) (first : ℕ) (ss : List machine.Status) (ps : List Process) (run : RoundState) → each_checked_in code limits first (slices_of code limits ss ps) run ≡ all_checked_in code limits (ready_from first (map status_of ss) (map (λ (p : Process). Some p) ps)) run
unfolding each_checked_in slices_of
each_as code limits first [] ps run = refl
each_as code limits first (s ∷ ss) [] run = refl
each_as code limits first (machine.Ready ∷ ss) (p ∷ ps) run = each_as code limits (first + 1) ss ps (checked_in code limits first (slice_from code limits p) run)
each_as code limits first (machine.Idle ∷ ss) (p ∷ ps) run = each_as code limits (first + 1) ss ps run
each_as code limits first (machine.Held future ∷ ss) (p ∷ ps) run = each_as code limits (first + 1) ss ps run
each_as code limits first (machine.Stopped ∷ ss) (p ∷ ps) run = each_as code limits (first + 1) ss ps run

round_as : (code : Code) (limits : List ℕ) (run : RoundState) → run.ended ≡ None → round code limits run ≡ all_checked_in code limits (ready_from 1 (map status_of run.statuses) (map (λ (p : Process). Some p) run.world.processes)) run
unfolding round
round_as code limits run goes =
    ap (λ (e : Option End). unless_ended e run (each_checked_in code limits 1 (slices_of code limits run.statuses run.world.processes) run)) goes
    ∙ each_as code limits 1 run.statuses run.world.processes run

module _ (code : Code) (old middle new : Post) (xs ys zs : List Lent) (are_lent : Bool) (stands : Stands code old) (lends : LendsAll are_lent old middle (gone_of xs)) (limited : middle.limits ≡ old.limits) (sliced : AreSliced code old.limits xs ys) (turned : zs ≡ reverse ys)
    (run : RoundState) (goes : old.halt ≡ None) (follows : Follows true [] old run) where
  abbrev gone : Gone
  gone = gone_of xs

  alike : IsAs [] (world_of old run.world.shared.output) run
  alike = follows.exact refl (λ failed. absurd (let e = sym goes ∙ failed in cc))

  running : run.ended ≡ None
  running = alike.ended ∙ ap ended_by goes

  ready_as : ready_in old ≡ ready_from 1 (map status_of run.statuses) (map (λ (p : Process). Some p) run.world.processes)
  ready_as =
      ap (λ (ss : List Status). ready_from 1 ss (map home_of old.homes.items)) alike.statuses
      ∙ ap (λ (hs : List (Option Process)). ready_from 1 (map status_of run.statuses) hs) alike.homes

  round_ready : round code old.limits run ≡ all_checked_in code old.limits (ready_in old) run
  round_ready = round_as code old.limits run running ∙ ap (λ (g : Gone). all_checked_in code old.limits g run) (sym ready_as)

  without : IsAs gone (world_of middle run.world.shared.output) run
  without =
      let is = lends.after run.world.shared.output in
      record {
        homes = ap (λ (s : CodeState). s.homes) is ∙ ap (λ (hs : List (Option Process)). homes_without gone hs) alike.homes;
        statuses = ap (λ (s : CodeState). s.statuses) is ∙ ap (λ (ss : List Status). statuses_without gone ss) alike.statuses;
        shared = ap (λ (s : CodeState). s.shared) is ∙ alike.shared;
        journal = ap (λ (s : CodeState). s.journal) is ∙ alike.journal;
        text = ap (λ (s : CodeState). s.text) is ∙ alike.text;
        ended = alike.ended ∙ ap (λ (s : CodeState). ended_by s.halt) (sym is);
        stopped = λ none. ap (λ (s : CodeState). list_any is_stopped s.statuses) is ∙ any_without gone old.statuses.items (alike.stopped goes);
      }

  many : length run.statuses ≡ length old.statuses.items
  many = sym (ap length alike.statuses ∙ length-map run.statuses status_of)

  as_many : length run.world.processes ≡ length old.statuses.items
  as_many =
      let homes : length (map home_of old.homes.items) ≡ length run.world.processes = ap length alike.homes ∙ length-map run.world.processes (λ (p : Process). Some p) in
      sym homes ∙ (stands.1.homes ∙ sym stands.1.statuses)

  apart : AreApart (length old.statuses.items) gone
  apart =
      apart_front (length old.statuses.items) gone lends.rest
      (subst (λ (g : Gone). AreApart (length old.statuses.items) g) (sym lends.ready) (apart_ready 1 (length old.statuses.items) old.statuses.items (map home_of old.homes.items) (omega arith)))

  awaits : Awaits code gone (reverse zs) middle run
  awaits = record {
    follows = record { exact = λ whole sound. without; begins = subst (λ (js : List ℕ). Begins js run.journal) (sym (ap (λ (s : CodeState). s.journal) (lends.after []))) follows.begins };
    came = subst (λ (l : List Lent). AllCameFrom code middle.limits gone l) (sym (ap reverse turned ∙ reverse-reverse ys))
        (subst (λ (l : List ℕ). AllCameFrom code l gone ys) (sym limited) (all_came code old.limits xs ys sliced));
    last = length old.statuses.items;
    apart = apart;
    processes = omega (arith, as_many);
    statuses = omega (arith, many);
  }

  abbrev home_run : RoundState
  home_run = all_checked_in code old.limits gone run

  brought : (whole : Bool) → FollowsAll code whole (reverse zs) middle new → Follows whole [] new home_run
  brought whole home = subst (λ (l : List ℕ). Follows whole [] new (all_checked_in code l gone run)) limited (home gone run awaits)

  -- the rest of those that were ready come in the machine
  round_rest : round code old.limits run ≡ all_checked_in code old.limits lends.rest home_run
  round_rest =
      round_ready
      ∙ (ap (λ (g : Gone). all_checked_in code old.limits g run) (sym lends.ready)
      ∙ all_append code old.limits gone lends.rest run)

  on_begins : (whole : Bool) → Follows whole [] new home_run → Begins new.journal.entries (round code old.limits run).journal
  on_begins whole home =
      subst (λ (r : RoundState). Begins new.journal.entries r.journal) (sym round_rest)
      (begins_on new.journal.entries home_run.journal (all_checked_in code old.limits lends.rest home_run).journal home.begins (all_grow code old.limits lends.rest home_run))

  round_whole : are_lent ≡ true → round code old.limits run ≡ home_run
  round_whole lent = round_rest ∙ ap (λ (g : Gone). all_checked_in code old.limits g home_run) (lends.all lent)

  rounded : (whole : Bool) → FollowsAll code whole (reverse zs) middle new → Follows (whole && are_lent) [] new (round code old.limits run)
  rounded whole home = by whole are_lent refl (brought whole home)
    where
      by : (w a : Bool) → are_lent ≡ a → Follows w [] new home_run → Follows (w && a) [] new (round code old.limits run)
      by false a is back = record { exact = λ all. absurd (cc); begins = on_begins false back }
      by true false is back = record { exact = λ all. absurd (cc); begins = on_begins true back }
      by true true is back = subst (λ (r : RoundState). Follows true [] new r) (sym (round_whole is)) back

  -- where all that went came home so, it is by whether all that were ready went
  pub rounded_whole : (whole : Bool) → whole ≡ true → FollowsAll code whole (reverse zs) middle new → Follows are_lent [] new (round code old.limits run)
  rounded_whole whole all home = subst (λ (w : Bool). Follows (w && are_lent) [] new (round code old.limits run)) all (rounded whole home)

  pub rounded_part : (whole : Bool) → whole ≡ false → FollowsAll code whole (reverse zs) middle new → Follows whole [] new (round code old.limits run)
  rounded_part whole part home =
      subst (λ (w : Bool). Follows w [] new (round code old.limits run)) (sym part)
      (subst (λ (w : Bool). Follows (w && are_lent) [] new (round code old.limits run)) part (rounded whole home))
