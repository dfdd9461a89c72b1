-- In each run there is a mailbox for each process.
use Rattle.std.proofs.Common.{◌≡◌, ℕ, ◌+◌, Option, Some, None, List, [], ◌∷◌, ◌++◌, length, refl, sym, ap, ◌∙◌, subst, arith, length-append}
use Rattle.ink_base.specs.Actions.{Action, SharedState, as_made, after_action}
use Rattle.ink_base.specs.Actions as action
use Rattle.ink_base.specs.Messages.{Mail, Mailbox, empty_mailbox, with_message, without_first, take_from_box, send_to_box}
use Rattle.ink_base.specs.Numbered.{numbered, set_numbered}
use Rattle.ink_code.specs.declared.code.Code.{Code}
use Rattle.ink_code.specs.Process.{Process}
use Rattle.ink_code.specs.Runs.{World, begun, with_started, after_made, CodeTurn, CodeReplay, begins, turns, CodeAhead, AreAhead}
use Rattle.ink_code.specs.Trees.{Parcel}
use Rattle.ink_law_ownership.proofs.Numbers.{length-set_numbered}

take_length : (mail : Mail Parcel) (process : ℕ) (found : Option (Mailbox Parcel)) → numbered mail process ≡ found → length (take_from_box found mail process) ≡ length mail
take_length mail process None is = refl
take_length mail process (Some box) is =
    length-set_numbered mail process box (record box { unread = without_first box.unread }) is

send_length : (mail : Mail Parcel) (to sender method : ℕ) (parcel : Parcel) (found : Option (Mailbox Parcel)) → numbered mail to ≡ found → length (send_to_box found mail to sender method parcel) ≡ length mail
send_length mail to sender method parcel None is = refl
send_length mail to sender method parcel (Some box) is =
    length-set_numbered mail to box (with_message box sender method parcel) is

-- an action keeps it
action_length : (made : Action Parcel) (process : ℕ) (shared : SharedState Parcel) (processes : List Process) → length shared.mail ≡ length processes → (let after = after_action made process shared in length after.mail) ≡ length (with_started made processes)
action_length action.Take process shared processes same =
    take_length shared.mail process (numbered shared.mail process) refl ∙ same
action_length (action.Send to method parcel) process shared processes same =
    send_length shared.mail to process method parcel (numbered shared.mail to) refl ∙ same
action_length (action.Spawn kind parcel) process shared processes same =
    let one = length-append shared.mail (empty_mailbox {V = Parcel} ∷ []) in
    let other = length-append processes (begun (length processes + 1) kind parcel ∷ []) in
    omega arith
action_length (action.Print text) process shared processes same = same
action_length action.NewFuture process shared processes same = same
action_length (action.SetFuture number parcel) process shared processes same = same
action_length (action.BreakFuture number) process shared processes same = same
action_length (action.GetFuture number) process shared processes same = same
action_length (action.Panic text) process shared processes same = same

abbrev HasMail : World → Type 0
HasMail world = length world.shared.mail ≡ length world.processes

turn_mail : (code : Code) (limits : List ℕ) (process : ℕ) (old new : World) → HasMail old → CodeTurn code limits process old new → HasMail new
unfolding after_made
turn_mail code limits process old new same t =
    let made = as_made t.wish old.shared limits in
    let others = set_numbered old.processes process t.left in
    let count = length-set_numbered old.processes process t.next.p t.left t.next.stands in
    subst HasMail (sym t.after) (action_length made process old.shared others (same ∙ sym count))

replay_mail : (code : Code) (limits journal : List ℕ) (world : World) → CodeReplay code limits journal world → HasMail world
replay_mail code limits _ _ begins = refl
replay_mail code limits _ _ (turns journal process old new before turn) =
    turn_mail code limits process old new (replay_mail code limits journal old before) turn

ahead_length : (code : Code) (limits : List ℕ) (ps qs : List Process) → AreAhead code limits ps qs → length qs ≡ length ps
ahead_length code limits [] [] ahead = refl
ahead_length code limits [] (q ∷ qs) ahead = absurd ahead
ahead_length code limits (p ∷ ps) [] ahead = absurd ahead
ahead_length code limits (p ∷ ps) (q ∷ qs) ahead = let rest = ahead_length code limits ps qs ahead.1 in omega arith

pub mail-for-each : (code : Code) (limits journal : List ℕ) (world : World) → CodeAhead code limits journal world → length world.shared.mail ≡ length world.processes
mail-for-each code limits journal world a =
    let turned = replay_mail code limits journal a.turned a.replay in
    let shared = ap (λ s. length s.mail) a.shared in
    let processes = ahead_length code limits a.turned.processes world.processes a.ahead in
    omega arith
