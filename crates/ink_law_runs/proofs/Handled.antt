-- The order of messages in the runs of a code.
use Rattle.std.proofs.Common.{◌≡◌, ℕ, zero, suc, ◌+◌, ◌≤◌, Bool, true, false, eqb, cond, Option, None, Some, List, [], ◌∷◌, ◌++◌, map, refl, ap, sym, ◌∙◌, subst, append_assoc, inl, inr, arith}
use Rattle.std.specs.Prelude.{◌&&◌}
use Rattle.std.specs.List.{flat_map}
use Rattle.std.proofs.lemmas.List.{append-nil}
use Rattle.std.proofs.lemmas.List.Concat.{flat_map-cons}
use Rattle.std.proofs.lemmas.Bool.{cases_eq, eq-eqb, ne_eqb}
use Rattle.ink_base.specs.Actions.{Action, SharedState, opening, after_action, as_made}
use Rattle.ink_base.specs.Actions as action
use Rattle.ink_base.specs.Messages.{Mailbox, Message, Mail, unread_in, unread_of}
use Rattle.ink_base.specs.Numbered.{numbered}
use Rattle.ink_code.specs.declared.code.Code.{Code}
use Rattle.ink_code.specs.Readings.{Event, Events, begins, turns, event_of, opening_message, messages_sent, messages_handled}
use Rattle.ink_code.specs.Readings as read
use Rattle.ink_code.specs.Runs.{World, CodeTurn, no_parcel, opening_world}
use Rattle.ink_code.specs.Process.{Process}
use Rattle.ink_code.specs.Runs as runs
use Rattle.ink_code.specs.Trees.{Parcel}
use Rattle.ink_law_turns.specs.Order as order
use Rattle.ink_law_turns.specs.Order.{Begins, Follow, Rise, all_sent, all_taken, from_sender, sent_in, taken_in, sent_to}
use Rattle.ink_law_turns.proofs.Numbering.{numbered-suc}
use Rattle.ink_law_turns.proofs.Ordered.{in_order, numbers_rise, rise_behind}

-- an event as what processes share sees it
abbrev event_in : Event → order.Event Parcel
event_in event = record { process = event.process; made = event.made; before = event.before.shared }

-- a list with one event more
follow_more : (events : List (order.Event Parcel)) (event : order.Event Parcel) (old mid new : SharedState Parcel) → Follow old events mid → event.before ≡ mid → after_action event.made event.process event.before ≡ new → Follow old (events ++ event ∷ []) new
follow_more [] event old mid new follow finds leaves = (finds ∙ sym follow, leaves)
follow_more (first ∷ events) event old mid new follow finds leaves =
    (follow.0, follow_more events event (after_action first.made first.process first.before) mid new follow.1 finds leaves)

map_more : (events : List Event) (event : Event) → map event_in (events ++ event ∷ []) ≡ map event_in events ++ event_in event ∷ []
map_more [] event = refl
map_more (first ∷ events) event = ap (λ (es : List (order.Event Parcel)). event_in first ∷ es) (map_more events event)

shared_after : (made : Action Parcel) (process : ℕ) (left : Process) (old : World) → (runs.after_made made process left old).shared ≡ after_action made process old.shared
unfolding runs.after_made
shared_after made process left old = refl

module _ (code : Code) (limits : List ℕ) where
  followed : (journal : List ℕ) (world : World) (events : List Event) → Events code limits journal world events → Follow (opening_world code).shared (map event_in events) world.shared
  followed _ _ _ begins = refl
  followed _ _ _ (turns journal process old new events before turn) =
      subst (λ (es : List (order.Event Parcel)). Follow (opening_world code).shared es new.shared) (sym (map_more events (event_of process old new turn)))
      (follow_more (map event_in events) (event_in (event_of process old new turn)) (opening_world code).shared old.shared new.shared (followed journal old events before) refl
      (sym (ap (λ (w : World). w.shared) turn.after ∙ shared_after (as_made turn.wish old.shared limits) process turn.left old)))

-- the readings of events, one by one

sent_same : (sender receiver process : ℕ) (made : Action Parcel) (before : World) → read.sent_in sender receiver process made before ≡ sent_in sender receiver process made before.shared
sent_same sender receiver process (action.Send to method values) before = sends (numbered before.shared.mail to)
  where
    sends : (o : Option (Mailbox Parcel)) → (cond (eqb process sender && eqb to receiver) (read.message_to o process method values) []) ≡ cond (eqb process sender && eqb to receiver) (order.message_to o process method values) []
    sends None = refl
    sends (Some box) = refl
sent_same sender receiver process action.Take before = refl
sent_same sender receiver process (action.Print text) before = refl
sent_same sender receiver process (action.Spawn kind parcel) before = refl
sent_same sender receiver process action.NewFuture before = refl
sent_same sender receiver process (action.SetFuture number parcel) before = refl
sent_same sender receiver process (action.BreakFuture number) before = refl
sent_same sender receiver process (action.GetFuture number) before = refl
sent_same sender receiver process (action.Panic text) before = refl

if_same : (sender : ℕ) (o : Option (Message Parcel)) → read.if_from sender o ≡ order.if_from sender o
if_same sender None = refl
if_same sender (Some message) = refl

taken_same : (sender receiver process : ℕ) (made : Action Parcel) (before : World) → read.taken_in sender receiver process made before ≡ taken_in sender receiver process made before.shared
taken_same sender receiver process action.Take before =
    ap (λ (zs : List (Message Parcel)). cond (eqb process receiver) zs []) (if_same sender _)
taken_same sender receiver process (action.Send to method values) before = refl
taken_same sender receiver process (action.Print text) before = refl
taken_same sender receiver process (action.Spawn kind parcel) before = refl
taken_same sender receiver process action.NewFuture before = refl
taken_same sender receiver process (action.SetFuture number parcel) before = refl
taken_same sender receiver process (action.BreakFuture number) before = refl
taken_same sender receiver process (action.GetFuture number) before = refl
taken_same sender receiver process (action.Panic text) before = refl

module _ (f : Event → List (Message Parcel)) (g : order.Event Parcel → List (Message Parcel)) (same : (event : Event) → f event ≡ g (event_in event)) where
  flat_same : (events : List Event) → flat_map f events ≡ flat_map g (map event_in events)
  flat_same [] = refl
  flat_same (event ∷ events) =
      flat_map-cons f event events
      ∙ (ap (λ (zs : List (Message Parcel)). zs ++ flat_map f events) (same event)
      ∙ (ap (λ (zs : List (Message Parcel)). g (event_in event) ++ zs) (flat_same events)
      ∙ sym (flat_map-cons g (event_in event) (map event_in events))))

module _ (sender receiver : ℕ) where
  all_sent_same : (events : List Event) → flat_map (λ (event : Event). read.sent_in sender receiver event.process event.made event.before) events ≡ all_sent sender receiver (map event_in events)
  all_sent_same events = flat_same (λ event. read.sent_in sender receiver event.process event.made event.before) (λ event. sent_in sender receiver event.process event.made event.before) (λ event. sent_same sender receiver event.process event.made event.before) events

  handled_same : (events : List Event) → messages_handled sender receiver events ≡ all_taken sender receiver (map event_in events)
  handled_same events = flat_same (λ event. read.taken_in sender receiver event.process event.made event.before) (λ event. taken_in sender receiver event.process event.made event.before) (λ event. taken_same sender receiver event.process event.made event.before) events

-- the opening message

module _ (code : Code) where
  abbrev mail : Mail Parcel
  mail = (opening_world code).shared.mail

  abbrev one : Message Parcel
  one = record { number = 1; sender = 0; method = code.main; values = no_parcel }

  no_more : (box : Mailbox Parcel) (number : ℕ) → (number ≡ 1 → ⊥) → numbered (box ∷ []) number ≡ None
  no_more box zero differ = refl
  no_more box (suc zero) differ = absurd (differ refl)
  no_more box (suc (suc k)) differ = numbered-suc (box ∷ []) (suc k)

  opened : (sender receiver : ℕ) → from_sender sender (unread_of mail receiver) ≡ opening_message code sender receiver
  opened sender receiver =
      elim (cases_eq receiver 1) [
        | inl same ↦ (
            ap (λ (i : ℕ). from_sender sender (unread_of mail i)) same
            ∙ (from_opening sender
            ∙ ap (λ (b : Bool). cond (eqb sender 0 && b) (one ∷ []) []) (sym (eq-eqb receiver 1 same))))
        | inr differ ↦ (
            ap (λ (o : Option (Mailbox Parcel)). from_sender sender (unread_in o)) (no_more _ receiver differ)
            ∙ ap (λ (b : Bool). cond b (one ∷ []) []) (sym (apart (eqb sender 0) (ne_eqb receiver 1 differ))))
      ]
    where
      apart : (b : Bool) → eqb receiver 1 ≡ false → (b && eqb receiver 1) ≡ false
      apart true e = e
      apart false e = refl

      from_opening : (sender : ℕ) → from_sender sender (one ∷ []) ≡ cond (eqb sender 0 && true) (one ∷ []) []
      from_opening sender =
          elim (cases_eq sender 0) [
            | inl is ↦ (ap (λ (b : Bool). cond b (one ∷ []) [] ++ []) (eq-eqb 0 sender (sym is)) ∙ ap (λ (b : Bool). cond (b && true) (one ∷ []) []) (sym (eq-eqb sender 0 is)))
            | inr not ↦ (ap (λ (b : Bool). cond b (one ∷ []) [] ++ []) (ne_eqb 0 sender (λ e. not (sym e))) ∙ ap (λ (b : Bool). cond (b && true) (one ∷ []) []) (sym (ne_eqb sender 0 not)))
          ]

  opening_count : (receiver : ℕ) → receiver ≡ 1 → 1 ≤ sent_to (numbered mail receiver)
  opening_count receiver same = subst (λ (i : ℕ). 1 ≤ sent_to (numbered mail i)) (sym same) (omega arith)

  rise_opening : (sender receiver : ℕ) (test : Bool) → (eqb sender 0 && eqb receiver 1) ≡ test → Rise 0 (cond test (one ∷ []) []) (sent_to (numbered mail receiver))
  rise_opening sender receiver false is = omega arith
  rise_opening sender receiver true is =
      elim (cases_eq receiver 1) [
        | inl same ↦ (omega arith, opening_count receiver same)
        | inr differ ↦ absurd (never (eqb sender 0) (ne_eqb receiver 1 differ) is)
      ]
    where
      never : (b : Bool) → eqb receiver 1 ≡ false → (b && eqb receiver 1) ≡ true → ⊥
      never true e d = cc
      never false e d = cc

module _ (code : Code) (limits journal : List ℕ) (world : World) (events : List Event) (made : Events code limits journal world events) (sender receiver : ℕ) where
  pub handled_in_order : Begins (messages_handled sender receiver events) (messages_sent code sender receiver events)
  handled_in_order =
      let from = in_order sender receiver (map event_in events) (opening_world code).shared world.shared (followed code limits journal world events made) in (
        from.0,
        ap (λ (zs : List (Message Parcel)). opening_message code sender receiver ++ zs) (all_sent_same sender receiver events)
            ∙ (ap (λ (zs : List (Message Parcel)). zs ++ all_sent sender receiver (map event_in events)) (sym (opened code sender receiver))
            ∙ (from.1 ∙ ap (λ (zs : List (Message Parcel)). zs ++ from.0) (sym (handled_same sender receiver events)))),
      )

  pub sent_numbers : Rise 0 (messages_sent code sender receiver events) (sent_to (numbered world.shared.mail receiver))
  sent_numbers =
      let rise = numbers_rise sender receiver (map event_in events) (opening_world code).shared world.shared (followed code limits journal world events made) in
      subst (λ (zs : List (Message Parcel)). Rise 0 (opening_message code sender receiver ++ zs) (sent_to (numbered world.shared.mail receiver))) (sym (all_sent_same sender receiver events))
      (rise_behind 0 (sent_to (numbered (opening_world code).shared.mail receiver)) (sent_to (numbered world.shared.mail receiver)) (opening_message code sender receiver) (all_sent sender receiver (map event_in events)) (rise_opening code sender receiver (eqb sender 0 && eqb receiver 1) refl) rise)
