-- What an action leaves of the mail and the futures that it doesn't name.
use Rattle.std.proofs.Common.{◌≡◌, ◌≢◌, ℕ, Bool, false, Option, None, Some, List, [], ◌∷◌, ◌++◌, refl, ap, sym, ◌∙◌, inl, inr}
use Rattle.std.specs.Option.{option_map_or}
use Rattle.std.proofs.lemmas.Bool.{cases_eq}
use Rattle.ink_base.specs.Actions.{Action, Take, Print, Spawn, Send, NewFuture, SetFuture, BreakFuture, GetFuture, Panic, SharedState, after_action}
use Rattle.ink_base.specs.Futures.{Futures, is_ready, after_set, after_break, after_get, change_at}
use Rattle.ink_base.specs.Messages.{Mail, Mailbox, Message, unread_in, unread_of, empty_mailbox, with_message, without_first, send_to_box, take_from_box}
use Rattle.ink_base.specs.Numbered.{numbered, set_numbered}
use Rattle.ink_base.specs.declared.future.FutureState.{FutureState}
use Rattle.ink_base.specs.declared.future.FutureState.TheVariants.{Open, Set, Broken, Taken}
use Rattle.ink_law_turns.proofs.Numbering.{numbered-set_same, numbered-set_other, numbered-append, numbered-append_cases, none_some}

module _ {V : Type 0} where
  box_kept : (mail : Mail V) (to process : ℕ) (box : Mailbox V) → process ≢ to → unread_of (set_numbered mail to box) process ≡ unread_of mail process
  box_kept mail to process box differ = ap unread_in (numbered-set_other mail to process box differ)

  pub sent_elsewhere : (o : Option (Mailbox V)) (mail : Mail V) (to process sender method : ℕ) (values : V) → process ≢ to → unread_of (send_to_box o mail to sender method values) process ≡ unread_of mail process
  sent_elsewhere None mail to process sender method values differ = refl
  sent_elsewhere (Some box) mail to process sender method values differ = box_kept mail to process (with_message box sender method values) differ

  pub taken_elsewhere : (o : Option (Mailbox V)) (mail : Mail V) (by process : ℕ) → process ≢ by → unread_of (take_from_box o mail by) process ≡ unread_of mail process
  taken_elsewhere None mail by process differ = refl
  taken_elsewhere (Some box) mail by process differ = box_kept mail by process (record box { unread = without_first box.unread }) differ

  pub found_unread : (o : Option (Mailbox V)) (mail : Mail V) (process : ℕ) → numbered mail process ≡ o → unread_of (mail ++ empty_mailbox ∷ []) process ≡ unread_of mail process
  found_unread (Some box) mail process at = ap unread_in (numbered-append mail (empty_mailbox ∷ []) process box at ∙ sym at)
  found_unread None mail process at = appended (numbered (mail ++ empty_mailbox ∷ []) process) refl ∙ sym (ap unread_in at)
    where
      appended : (n : Option (Mailbox V)) → numbered (mail ++ empty_mailbox ∷ []) process ≡ n → unread_in (numbered (mail ++ empty_mailbox ∷ []) process) ≡ []
      appended None e = ap unread_in e
      appended (Some box) e = elim (numbered-append_cases mail empty_mailbox box process e) [
        | inl old ↦ absurd (none_some box (sym at ∙ old))
        | inr new ↦ (ap unread_in e ∙ ap (λ (b : Mailbox V). b.unread) (sym new.1))
      ]

  -- the unread messages of a process that an action doesn't name
  pub unread_kept : (made : Action V) (by process : ℕ) (shared : SharedState V) → process ≢ by → ((to method : ℕ) (values : V) → made ≡ Send to method values → process ≢ to) → unread_of (after_action made by shared).mail process ≡ unread_of shared.mail process
  unread_kept Take by process shared differ apart = taken_elsewhere (numbered shared.mail by) shared.mail by process differ
  unread_kept (Send to method values) by process shared differ apart = sent_elsewhere (numbered shared.mail to) shared.mail to process by method values (apart to method values refl)
  unread_kept (Spawn kind fields) by process shared differ apart = found_unread (numbered shared.mail process) shared.mail process refl
  unread_kept (Print text) by process shared differ apart = refl
  unread_kept NewFuture by process shared differ apart = refl
  unread_kept (SetFuture future value) by process shared differ apart = refl
  unread_kept (BreakFuture future) by process shared differ apart = refl
  unread_kept (GetFuture future) by process shared differ apart = refl
  unread_kept (Panic text) by process shared differ apart = refl

  -- whether a get of a future need not wait
  abbrev pub ready_in : Option (FutureState V) → Bool
  ready_in o = option_map_or is_ready o false

  not_ready_after_get : (state : FutureState V) → is_ready state ≡ false → is_ready (after_get state) ≡ false
  not_ready_after_get Open e = refl
  not_ready_after_get (Set had) e = absurd (cc)
  not_ready_after_get Broken e = absurd (cc)
  not_ready_after_get Taken e = refl

  got_at : (o : Option (FutureState V)) (futures : Futures V) (got future : ℕ) → numbered futures got ≡ o → ready_in (numbered futures future) ≡ false → ready_in (numbered (change_at o futures got after_get) future) ≡ false
  got_at None futures got future at e = e
  got_at (Some state) futures got future at e =
      elim (cases_eq future got) [
        | inl same ↦ (
            ap (λ (i : ℕ). ready_in (numbered (set_numbered futures got (after_get state)) i)) same
            ∙ (ap ready_in (numbered-set_same futures got (after_get state) state at)
            ∙ not_ready_after_get state (sym (ap ready_in (ap (λ (i : ℕ). numbered futures i) same ∙ at)) ∙ e)))
        | inr differ ↦ (ap ready_in (numbered-set_other futures got future (after_get state) differ) ∙ e)
      ]

  changed_elsewhere : (o : Option (FutureState V)) (futures : Futures V) (changed future : ℕ) (change : FutureState V → FutureState V) → future ≢ changed → ready_in (numbered futures future) ≡ false → ready_in (numbered (change_at o futures changed change) future) ≡ false
  changed_elsewhere None futures changed future change differ e = e
  changed_elsewhere (Some state) futures changed future change differ e = ap ready_in (numbered-set_other futures changed future (change state) differ) ∙ e

  opened : (futures : Futures V) (future : ℕ) → ready_in (numbered futures future) ≡ false → ready_in (numbered (futures ++ Open ∷ []) future) ≡ false
  opened futures future e = at (numbered futures future) refl
    where
      new_one : (n : Option (FutureState V)) → numbered futures future ≡ None → numbered (futures ++ Open ∷ []) future ≡ n → ready_in n ≡ false
      new_one None at d = refl
      new_one (Some state) at d = elim (numbered-append_cases futures Open state future d) [
        | inl old ↦ absurd (none_some state (sym at ∙ old))
        | inr new ↦ ap (λ (s : FutureState V). is_ready s) (sym new.1)
      ]

      at : (o : Option (FutureState V)) → numbered futures future ≡ o → ready_in (numbered (futures ++ Open ∷ []) future) ≡ false
      at None d = new_one (numbered (futures ++ Open ∷ []) future) d refl
      at (Some state) d = ap ready_in (numbered-append futures (Open ∷ []) future state d) ∙ (ap ready_in (sym d) ∙ e)

  -- a future that no action sets or breaks is as unready as it was
  pub future_kept : (made : Action V) (by future : ℕ) (shared : SharedState V) → ((f : ℕ) (value : V) → made ≡ SetFuture f value → future ≢ f) → ((f : ℕ) → made ≡ BreakFuture f → future ≢ f) → ready_in (numbered shared.futures future) ≡ false → ready_in (numbered (after_action made by shared).futures future) ≡ false
  future_kept (SetFuture f value) by future shared a b e = changed_elsewhere (numbered shared.futures f) shared.futures f future (λ state. after_set state value) (a f value refl) e
  future_kept (BreakFuture f) by future shared a b e = changed_elsewhere (numbered shared.futures f) shared.futures f future after_break (b f refl) e
  future_kept (GetFuture f) by future shared a b e = got_at (numbered shared.futures f) shared.futures f future refl e
  future_kept NewFuture by future shared a b e = opened shared.futures future e
  future_kept Take by future shared a b e = e
  future_kept (Print text) by future shared a b e = e
  future_kept (Spawn kind fields) by future shared a b e = e
  future_kept (Send to method values) by future shared a b e = e
  future_kept (Panic text) by future shared a b e = e
