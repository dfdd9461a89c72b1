-- The lists of a world after one process went out or came home, and after the mail changed.
use Rattle.std.proofs.Common.{◌≡◌, ℕ, Option, None, Some, List, [], length, map, false, Bor, refl, ap, sym, ◌∙◌}
use Rattle.std.specs.Option.{is_some, option_copied, option_map}
use Rattle.std.proofs.lemmas.List.{length-map}
use Rattle.ink_base.specs.Numbered.{numbered, set_numbered}
use Rattle.ink_code.specs.Process.{Process}
use Rattle.ink_law_turns.proofs.Numbering.{none_some, map_set_numbered, numbered-map}
use Rattle.ink_mail.specs.Boxes.{RoomyBox, mail_of}
use Rattle.ink_post.specs.Answers.{Lends, LendsBy}
use Rattle.ink_post.specs.Asks.{NoneReady}
use Rattle.ink_post.specs.Worlds.{CodeState, home_of, proc_at, world_of}
use Rattle.ink_post.specs.declared.post.Post.{Post}
use Rattle.ink_proc.specs.State.{state_of}
use Rattle.ink_proc.specs.declared.process.Proc.{Proc}
use Rattle.ink_worlds.specs.State.{put_in, ready_at}
use Rattle.ink_worlds.specs.declared.status.Status.{Status}
use Rattle.ink_worlds.specs.declared.status.Status.TheVariants.{Held, Idle, Out, Ready, Stopped}

pub home_set : (homes : List (Option Proc)) (process : ℕ) (home : Option Proc) → map home_of (set_numbered homes process home) ≡ set_numbered (map home_of homes) process (home_of home)
home_set homes process home = map_set_numbered home_of homes process home

pub homes_length : (homes : List (Option Proc)) → length (map home_of homes) ≡ length homes
homes_length homes = length-map homes home_of

-- there is a mailbox for each process
pub mail_count : (post : Post) → length (mail_of post.mail) ≡ length post.homes.items
mail_count post = length-map post.mail.items (λ (roomy : RoomyBox). roomy.mailbox) ∙ post.mail_level ∙ sym post.homes_level

-- one process went home, or out
pub home_changed : (old : CodeState) (process : ℕ) (home : Option Proc) (status : Status) (homes homes' : List (Option Proc)) (statuses : List Status) → map home_of homes ≡ old.homes → homes' ≡ set_numbered homes process home → statuses ≡ set_numbered old.statuses process status → record old { homes = map home_of homes'; statuses = statuses } ≡ put_in process (home_of home) status old
home_changed old process home status homes homes' statuses are at_home at_status =
    ap (λ (hs : List (Option Process)). record old { homes = hs; statuses = statuses }) (ap (map home_of) at_home ∙ home_set homes process home ∙ ap (λ (hs : List (Option Process)). set_numbered hs process (home_of home)) are)
    ∙ ap (λ (ss : List Status). record old { homes = set_numbered old.homes process (home_of home); statuses = ss }) at_status

-- and an entry was added
pub entry_added : (old new : CodeState) (before after : List ℕ) → old ≡ new → before ≡ after → record old { journal = before } ≡ record new { journal = after }
entry_added old new before after same entries =
    ap (λ (s : CodeState). record s { journal = before }) same ∙ ap (λ (js : List ℕ). record new { journal = js }) entries

-- a process went out
pub lends_is : (old : CodeState) (process seat : ℕ) (proc : Proc) (homes homes' : List (Option Proc)) (statuses : List Status) → map home_of homes ≡ old.homes → numbered homes process ≡ Some (Some proc) → homes' ≡ set_numbered homes process None → statuses ≡ set_numbered old.statuses process (Out seat proc.ran) → numbered old.statuses process ≡ Some Ready → LendsBy process seat old (record old { homes = map home_of homes'; statuses = statuses }) (state_of proc)
lends_is old process seat proc homes homes' statuses are there at_home at_status ready = (
  ready,
  ap (λ (hs : List (Option Process)). numbered hs process) (sym are) ∙ numbered-map home_of homes process ∙ ap (option_map home_of) there,
  home_changed old process None (Out seat proc.ran) homes homes' statuses are at_home at_status,
)

not_up : (status : Option Status) (home : Option (Option Process)) → (status ≡ Some Ready → ⊥) → ready_at status home ≡ None
not_up None home none = refl
not_up (Some Ready) home none = absurd (none refl)
not_up (Some (Out seat ran)) home none = refl
not_up (Some Idle) home none = refl
not_up (Some (Held future)) home none = refl
not_up (Some Stopped) home none = refl

not_home : (status : Option Status) (home : Option (Option Proc)) → proc_at home ≡ None → ready_at status (option_map home_of home) ≡ None
not_home None home none = refl
not_home (Some (Out seat ran)) home none = refl
not_home (Some Idle) home none = refl
not_home (Some (Held future)) home none = refl
not_home (Some Stopped) home none = refl
not_home (Some Ready) None none = refl
not_home (Some Ready) (Some None) none = refl
not_home (Some Ready) (Some (Some proc)) none = absurd (cc)

-- a process that isn't ready, or isn't at home
pub none_up : (post : Post) (process : ℕ) → (numbered post.statuses.items process ≡ Some Ready → ⊥) → NoneReady process post
none_up post process none = not_up (numbered post.statuses.items process) (numbered (map home_of post.homes.items) process) none

pub none_home : (post : Post) (process : ℕ) → proc_at (numbered post.homes.items process) ≡ None → NoneReady process post
none_home post process none =
    ap (λ (o : Option (Option Process)). ready_at (numbered post.statuses.items process) o) (numbered-map home_of post.homes.items process)
    ∙ not_home (numbered post.statuses.items process) (numbered post.homes.items process) none

pub copied_none : (o : Option (Bor Proc)) → is_some o ≡ false → option_copied o ≡ None
copied_none None none = refl
copied_none (Some proc) none = absurd (cc)

ready_home : (post : Post) (process seat : ℕ) (p : Process) (new : CodeState) → LendsBy process seat (world_of post []) new p → ready_at (numbered post.statuses.items process) (numbered (map home_of post.homes.items) process) ≡ Some p
ready_home post process seat p new lends =
    ap (λ (s : Option Status). ready_at s (numbered (map home_of post.homes.items) process)) lends.0
    ∙ ap (λ (o : Option (Option Process)). ready_at (Some Ready) o) lends.1

-- a process that was lent was at home and ready
pub lent_ready : (post new : Post) (process seat : ℕ) (p : Process) → Lends process seat post new p → NoneReady process post → ⊥
lent_ready post new process seat p lends none = none_some p (sym none ∙ ready_home post process seat p (world_of new []) (lends []))
