-- The order of messages: what one process took of another begins what that one sent to it.
use Rattle.std.proofs.Common.{◌≡◌, ◌≢◌, ℕ, ◌+◌, ◌<◌, ◌≤◌, Bool, true, false, eqb, cond, Option, None, Some, List, [], ◌∷◌, ◌++◌, refl, ap, sym, ◌∙◌, subst, inl, inr, append_assoc, ◌⊎◌, arith}
use Rattle.std.specs.Prelude.{◌&&◌}
use Rattle.std.specs.List.{flat_map}
use Rattle.std.proofs.lemmas.List.{append-nil}
use Rattle.std.proofs.lemmas.List.Concat.{flat_map-cons}
use Rattle.std.proofs.lemmas.Bool.{cases_eq, eq-eqb, ne_eqb}
use Rattle.ink_base.specs.Actions.{Action, Take, Print, Spawn, Send, NewFuture, SetFuture, BreakFuture, GetFuture, Panic, SharedState, after_action}
use Rattle.ink_base.specs.Messages.{Mail, Mailbox, Message, unread_in, unread_of, first_of, without_first, empty_mailbox, with_message, send_to_box, take_from_box}
use Rattle.ink_base.specs.Numbered.{numbered, set_numbered}
use Rattle.ink_law_turns.specs.Order.{Event, Follow, message_to, sent_in, if_from, taken_in, all_sent, all_taken, from_sender, Begins, Rise, sent_to}
use Rattle.ink_law_turns.proofs.Numbering.{numbered-set_same, numbered-set_other, numbered-append, numbered-append_cases, none_some}
use Rattle.ink_law_turns.proofs.Sharing.{sent_elsewhere, taken_elsewhere, found_unread}

module _ {V : Type 0} (sender receiver : ℕ) where
  -- the unread messages of the one process from the other
  abbrev left_of : SharedState V → List (Message V)
  left_of shared = from_sender sender (unread_of shared.mail receiver)

  from-append : (xs ys : List (Message V)) → from_sender sender (xs ++ ys) ≡ from_sender sender xs ++ from_sender sender ys
  from-append [] ys = refl
  from-append (x ∷ xs) ys =
      ap (λ (zs : List (Message V)). if_from sender (Some x) ++ zs) (from-append xs ys)
      ∙ sym (append_assoc (if_from sender (Some x)) (from_sender sender xs) (from_sender sender ys))

  first_and_rest : (xs : List (Message V)) → from_sender sender xs ≡ if_from sender (first_of xs) ++ from_sender sender (without_first xs)
  first_and_rest [] = refl
  first_and_rest (x ∷ xs) = refl

  kept_nil : (xs ys : List (Message V)) → ys ≡ xs → from_sender sender xs ++ [] ≡ from_sender sender ys
  kept_nil xs ys e = append-nil (from_sender sender xs) ∙ sym (ap (from_sender sender) e)

  taken_here : (o : Option (Mailbox V)) (mail : Mail V) (process : ℕ) → numbered mail process ≡ o → unread_of (take_from_box o mail process) process ≡ without_first (unread_of mail process)
  taken_here None mail process at = ap unread_in at ∙ sym (ap (λ (x : Option (Mailbox V)). without_first (unread_in x)) at)
  taken_here (Some box) mail process at =
      ap unread_in (numbered-set_same mail process (record box { unread = without_first box.unread }) box at)
      ∙ sym (ap (λ (x : Option (Mailbox V)). without_first (unread_in x)) at)

  sent_here : (o : Option (Mailbox V)) (mail : Mail V) (to by method : ℕ) (values : V) → numbered mail to ≡ o → unread_of mail to ++ message_to o by method values ≡ unread_of (send_to_box o mail to by method values) to
  sent_here None mail to by method values at = append-nil (unread_of mail to)
  sent_here (Some box) mail to by method values at =
      ap (λ (x : Option (Mailbox V)). unread_in x ++ message_to (Some box) by method values) at
      ∙ sym (ap unread_in (numbered-set_same mail to (with_message box by method values) box at))

  -- of a message those of the sender, where the sender sent it, and where not
  own : (o : Option (Mailbox V)) (by method : ℕ) (values : V) → by ≡ sender → from_sender sender (message_to o by method values) ≡ message_to o by method values
  own None by method values same = refl
  own (Some box) by method values same =
      let m : Message V = record { number = box.sent + 1; sender = by; method = method; values = values } in
      ap (λ (b : Bool). cond b (m ∷ []) [] ++ []) (eq-eqb by sender same)

  other : (o : Option (Mailbox V)) (by method : ℕ) (values : V) → by ≢ sender → from_sender sender (message_to o by method values) ≡ []
  other None by method values differ = refl
  other (Some box) by method values differ =
      let m : Message V = record { number = box.sent + 1; sender = by; method = method; values = values } in
      ap (λ (b : Bool). cond b (m ∷ []) [] ++ []) (ne_eqb by sender differ)

  -- a send, by whether it is to this receiver and from this sender
  send_turn : (to method by : ℕ) (values : V) (shared : SharedState V) → left_of shared ++ sent_in sender receiver by (Send to method values) shared ≡ left_of (after_action (Send to method values) by shared)
  send_turn to method by values shared =
      elim (cases_eq to receiver) [
        | inl same ↦ to_here same
        | inr differ ↦ (
            ap (λ (b : Bool). left_of shared ++ cond b (message_to (numbered shared.mail to) by method values) []) (apart (eqb by sender) differ)
            ∙ kept_nil (unread_of shared.mail receiver) (unread_of (after_action (Send to method values) by shared).mail receiver) (sent_elsewhere (numbered shared.mail to) shared.mail to receiver by method values (λ e. differ (sym e))))
      ]
    where
      apart : (b : Bool) → to ≢ receiver → (b && eqb to receiver) ≡ false
      apart true differ = ne_eqb to receiver differ
      apart false differ = refl

      sends : List (Message V)
      sends = message_to (numbered shared.mail to) by method values

      after_here : to ≡ receiver → left_of shared ++ from_sender sender sends ≡ left_of (after_action (Send to method values) by shared)
      after_here same =
          sym (from-append (unread_of shared.mail receiver) sends)
          ∙ ap (from_sender sender) (subst (λ (i : ℕ). unread_of shared.mail i ++ sends ≡ unread_of (after_action (Send to method values) by shared).mail i) same (sent_here (numbered shared.mail to) shared.mail to by method values refl))

      to_here : to ≡ receiver → left_of shared ++ sent_in sender receiver by (Send to method values) shared ≡ left_of (after_action (Send to method values) by shared)
      to_here same =
          elim (cases_eq by sender) [
            | inl is ↦ (
                ap (λ (b : Bool). left_of shared ++ cond (b && eqb to receiver) sends []) (eq-eqb by sender is)
                ∙ (ap (λ (b : Bool). left_of shared ++ cond b sends []) (eq-eqb to receiver same)
                ∙ (ap (λ (zs : List (Message V)). left_of shared ++ zs) (sym (own (numbered shared.mail to) by method values is)) ∙ after_here same)))
            | inr differ ↦ (
                ap (λ (b : Bool). left_of shared ++ cond (b && eqb to receiver) sends []) (ne_eqb by sender differ)
                ∙ (ap (λ (zs : List (Message V)). left_of shared ++ zs) (sym (other (numbered shared.mail to) by method values differ)) ∙ after_here same))
          ]

  take_turn : (by : ℕ) (shared : SharedState V) → left_of shared ≡ taken_in sender receiver by Take shared ++ left_of (after_action {V = V} Take by shared)
  take_turn by shared =
      elim (cases_eq by receiver) [
        | inl same ↦ (
            first_and_rest (unread_of shared.mail receiver)
            ∙ (ap (λ (i : ℕ). if_from sender (first_of (unread_of shared.mail i)) ++ from_sender sender (without_first (unread_of shared.mail receiver))) (sym same)
            ∙ (ap (λ (ys : List (Message V)). if_from sender (first_of (unread_of shared.mail by)) ++ from_sender sender ys) (sym (subst (λ (i : ℕ). unread_of (after_action {V = V} Take by shared).mail i ≡ without_first (unread_of shared.mail i)) same (taken_here (numbered shared.mail by) shared.mail by refl)))
            ∙ ap (λ (b : Bool). cond b (if_from sender (first_of (unread_of shared.mail by))) [] ++ left_of (after_action {V = V} Take by shared)) (sym (eq-eqb by receiver same)))))
        | inr differ ↦ (
            ap (from_sender sender) (sym (taken_elsewhere (numbered shared.mail by) shared.mail by receiver (λ e. differ (sym e))))
            ∙ ap (λ (b : Bool). cond b (if_from sender (first_of (unread_of shared.mail by))) [] ++ left_of (after_action {V = V} Take by shared)) (sym (ne_eqb by receiver differ)))
      ]

  -- what an action adds to the unread messages and takes from them
  pub one_turn : (made : Action V) (by : ℕ) (shared : SharedState V) → left_of shared ++ sent_in sender receiver by made shared ≡ taken_in sender receiver by made shared ++ left_of (after_action made by shared)
  one_turn Take by shared = append-nil (left_of shared) ∙ take_turn by shared
  one_turn (Send to method values) by shared = send_turn to method by values shared
  one_turn (Spawn kind fields) by shared = kept_nil (unread_of shared.mail receiver) (unread_of (after_action (Spawn kind fields) by shared).mail receiver) (found_unread (numbered shared.mail receiver) shared.mail receiver refl)
  one_turn (Print text) by shared = append-nil (left_of shared)
  one_turn NewFuture by shared = append-nil (left_of shared)
  one_turn (SetFuture f value) by shared = append-nil (left_of shared)
  one_turn (BreakFuture f) by shared = append-nil (left_of shared)
  one_turn (GetFuture f) by shared = append-nil (left_of shared)
  one_turn (Panic text) by shared = append-nil (left_of shared)

  -- over all events: what was unread or sent is what was taken and what is unread
  pub put_and_taken : (events : List (Event V)) (old new : SharedState V) → Follow old events new → left_of old ++ all_sent sender receiver events ≡ all_taken sender receiver events ++ left_of new
  put_and_taken [] old new follow = append-nil (left_of old) ∙ ap left_of follow
  put_and_taken (event ∷ events) old new follow =
      let s : List (Message V) = sent_in sender receiver event.process event.made event.before in
      let t : List (Message V) = taken_in sender receiver event.process event.made event.before in
      let mid : SharedState V = after_action event.made event.process event.before in
      let later : List (Message V) = all_sent sender receiver events in
      ap (λ (zs : List (Message V)). left_of old ++ zs) (flat_map-cons (λ (x : Event V). sent_in sender receiver x.process x.made x.before) event events)
      ∙ (ap (λ (x : SharedState V). left_of x ++ (s ++ later)) (sym follow.0)
      ∙ (sym (append_assoc (left_of event.before) s later)
      ∙ (ap (λ (zs : List (Message V)). zs ++ later) (one_turn event.made event.process event.before)
      ∙ (append_assoc t (left_of mid) later
      ∙ (ap (λ (zs : List (Message V)). t ++ zs) (put_and_taken events mid new follow.1)
      ∙ (sym (append_assoc t (all_taken sender receiver events) (left_of new))
      ∙ ap (λ (zs : List (Message V)). zs ++ left_of new) (sym (flat_map-cons (λ (x : Event V). taken_in sender receiver x.process x.made x.before) event events))))))))

  pub in_order : (events : List (Event V)) (old new : SharedState V) → Follow old events new → Begins (all_taken sender receiver events) (from_sender sender (unread_of old.mail receiver) ++ all_sent sender receiver events)
  in_order events old new follow = (left_of new, put_and_taken events old new follow)

-- the numbers of what is sent to one process

rise_nil : (V : Type 0) (before after : ℕ) → after ≡ before → Rise {V = V} before [] after
rise_nil V before after e = omega (arith, e)

module _ {V : Type 0} where
  count_took : (o : Option (Mailbox V)) (mail : Mail V) (process receiver : ℕ) → numbered mail process ≡ o → sent_to (numbered (take_from_box o mail process) receiver) ≡ sent_to (numbered mail receiver)
  count_took None mail process receiver at = refl
  count_took (Some box) mail process receiver at =
      elim (cases_eq receiver process) [
        | inl same ↦ (ap (λ (i : ℕ). sent_to (numbered (take_from_box (Some box) mail process) i)) same
            ∙ (ap sent_to (numbered-set_same mail process (record box { unread = without_first box.unread }) box at)
            ∙ sym (ap (λ (i : ℕ). sent_to (numbered mail i)) same ∙ ap sent_to at)))
        | inr differ ↦ ap sent_to (numbered-set_other mail process receiver (record box { unread = without_first box.unread }) differ)
      ]

  count_started : (o : Option (Mailbox V)) (mail : Mail V) (receiver : ℕ) → numbered mail receiver ≡ o → sent_to (numbered (mail ++ empty_mailbox ∷ []) receiver) ≡ sent_to (numbered mail receiver)
  count_started (Some box) mail receiver at = ap sent_to (numbered-append mail (empty_mailbox ∷ []) receiver box at ∙ sym at)
  count_started None mail receiver at = new (numbered (mail ++ empty_mailbox ∷ []) receiver) refl ∙ sym (ap sent_to at)
    where
      new : (n : Option (Mailbox V)) → numbered (mail ++ empty_mailbox ∷ []) receiver ≡ n → sent_to (numbered (mail ++ empty_mailbox ∷ []) receiver) ≡ 0
      new None e = ap sent_to e
      new (Some box) e = elim (numbered-append_cases mail empty_mailbox box receiver e) [
        | inl old ↦ absurd (none_some box (sym at ∙ old))
        | inr is ↦ (ap sent_to e ∙ ap (λ (b : Mailbox V). b.sent) (sym is.1))
      ]

  pub weaker : (low lower high : ℕ) (xs : List (Message V)) → lower ≤ low → Rise low xs high → Rise lower xs high
  weaker low lower high [] less rise = omega (arith, less, rise)
  weaker low lower high (x ∷ xs) less rise = let first = rise.0 in (omega arith, rise.1)

  pub rise_behind : (low mid high : ℕ) (xs ys : List (Message V)) → Rise low xs mid → Rise mid ys high → Rise low (xs ++ ys) high
  rise_behind low mid high [] ys one two = weaker mid low high ys one two
  rise_behind low mid high (x ∷ xs) ys one two = (one.0, rise_behind x.number mid high xs ys one.1 two)

  rise_if : (b : Bool) (before after : ℕ) (xs : List (Message V)) → before ≤ after → Rise before xs after → Rise before (cond b xs []) after
  rise_if true before after xs less rise = rise
  rise_if false before after xs less rise = less

  module _ (sender receiver : ℕ) where
    sent_rise : (o : Option (Mailbox V)) (mail : Mail V) (by method : ℕ) (values : V) → numbered mail receiver ≡ o → Rise (sent_to (numbered mail receiver)) (message_to o by method values) (sent_to (numbered (send_to_box o mail receiver by method values) receiver))
    sent_rise None mail by method values at = omega arith
    sent_rise (Some box) mail by method values at =
        let before : sent_to (numbered mail receiver) ≡ box.sent = ap sent_to at in
        let after : sent_to (numbered (send_to_box (Some box) mail receiver by method values) receiver) ≡ box.sent + 1 = ap sent_to (numbered-set_same mail receiver (with_message box by method values) box at) in
        (omega arith, omega arith)

    sent_grows : (o : Option (Mailbox V)) (mail : Mail V) (by method : ℕ) (values : V) → numbered mail receiver ≡ o → sent_to (numbered mail receiver) ≤ sent_to (numbered (send_to_box o mail receiver by method values) receiver)
    sent_grows None mail by method values at = omega arith
    sent_grows (Some box) mail by method values at =
        let before : sent_to (numbered mail receiver) ≡ box.sent = ap sent_to at in
        let after : sent_to (numbered (send_to_box (Some box) mail receiver by method values) receiver) ≡ box.sent + 1 = ap sent_to (numbered-set_same mail receiver (with_message box by method values) box at) in
        omega arith

    count_elsewhere : (o : Option (Mailbox V)) (mail : Mail V) (to by method : ℕ) (values : V) → receiver ≢ to → sent_to (numbered (send_to_box o mail to by method values) receiver) ≡ sent_to (numbered mail receiver)
    count_elsewhere None mail to by method values differ = refl
    count_elsewhere (Some box) mail to by method values differ = ap sent_to (numbered-set_other mail to receiver (with_message box by method values) differ)

    abbrev RisesBy : Action V → ℕ → SharedState V → Type 0
    RisesBy made by shared = Rise (sent_to (numbered shared.mail receiver)) (sent_in sender receiver by made shared) (sent_to (numbered (after_action made by shared).mail receiver))

    send_rises : (to method by : ℕ) (values : V) (shared : SharedState V) → RisesBy (Send to method values) by shared
    send_rises to method by values shared =
        elim (cases_eq to receiver) [
          | inl same ↦ subst (λ (i : ℕ). Rise (sent_to (numbered shared.mail receiver)) (cond (eqb by sender && eqb i receiver) (message_to (numbered shared.mail i) by method values) []) (sent_to (numbered (send_to_box (numbered shared.mail i) shared.mail i by method values) receiver))) (sym same)
              (rise_if (eqb by sender && eqb receiver receiver) (sent_to (numbered shared.mail receiver)) (sent_to (numbered (send_to_box (numbered shared.mail receiver) shared.mail receiver by method values) receiver)) (message_to (numbered shared.mail receiver) by method values)
              (sent_grows (numbered shared.mail receiver) shared.mail by method values refl) (sent_rise (numbered shared.mail receiver) shared.mail by method values refl))
          | inr differ ↦ subst (λ (b : Bool). Rise (sent_to (numbered shared.mail receiver)) (cond b (message_to (numbered shared.mail to) by method values) []) (sent_to (numbered (send_to_box (numbered shared.mail to) shared.mail to by method values) receiver))) (sym (apart (eqb by sender) differ))
              (rise_nil V (sent_to (numbered shared.mail receiver)) (sent_to (numbered (send_to_box (numbered shared.mail to) shared.mail to by method values) receiver)) (count_elsewhere (numbered shared.mail to) shared.mail to by method values (λ e. differ (sym e))))
        ]
      where
        apart : (b : Bool) → to ≢ receiver → (b && eqb to receiver) ≡ false
        apart true differ = ne_eqb to receiver differ
        apart false differ = refl

    one_rise : (made : Action V) (by : ℕ) (shared : SharedState V) → RisesBy made by shared
    one_rise (Send to method values) by shared = send_rises to method by values shared
    one_rise Take by shared = rise_nil V (sent_to (numbered shared.mail receiver)) (sent_to (numbered (after_action {V = V} Take by shared).mail receiver)) (count_took (numbered shared.mail by) shared.mail by receiver refl)
    one_rise (Spawn kind fields) by shared = rise_nil V (sent_to (numbered shared.mail receiver)) (sent_to (numbered (after_action (Spawn kind fields) by shared).mail receiver)) (count_started (numbered shared.mail receiver) shared.mail receiver refl)
    one_rise (Print text) by shared = omega arith
    one_rise NewFuture by shared = omega arith
    one_rise (SetFuture f value) by shared = omega arith
    one_rise (BreakFuture f) by shared = omega arith
    one_rise (GetFuture f) by shared = omega arith
    one_rise (Panic text) by shared = omega arith

    pub numbers_rise : (events : List (Event V)) (old new : SharedState V) → Follow old events new → Rise (sent_to (numbered old.mail receiver)) (all_sent sender receiver events) (sent_to (numbered new.mail receiver))
    numbers_rise [] old new follow = rise_nil V (sent_to (numbered old.mail receiver)) (sent_to (numbered new.mail receiver)) (ap (λ (s : SharedState V). sent_to (numbered s.mail receiver)) (sym follow))
    numbers_rise (event ∷ events) old new follow =
        let s : List (Message V) = sent_in sender receiver event.process event.made event.before in
        let mid : SharedState V = after_action event.made event.process event.before in
        let first = subst (λ (x : SharedState V). Rise (sent_to (numbered x.mail receiver)) s (sent_to (numbered mid.mail receiver))) follow.0 (one_rise event.made event.process event.before) in
        subst (λ (zs : List (Message V)). Rise (sent_to (numbered old.mail receiver)) zs (sent_to (numbered new.mail receiver))) (sym (flat_map-cons (λ (x : Event V). sent_in sender receiver x.process x.made x.before) event events))
        (rise_behind (sent_to (numbered old.mail receiver)) (sent_to (numbered mid.mail receiver)) (sent_to (numbered new.mail receiver)) s (all_sent sender receiver events) first (numbers_rise events mid new follow.1))
