-- What was taken and put is there and has room, since the action can be made.
use Rattle.std.proofs.Common.{◌≡◌, ℕ, zero, suc, Bool, true, false, cond, Option, None, Some, List, [], ◌∷◌, set, refl, ap, sym, ◌∙◌, subst}
use Rattle.std.specs.Prelude.{IfSome}
use Rattle.ink_base.specs.declared.future.FutureState.{FutureState}
use Rattle.ink_base.specs.declared.future.FutureState.TheVariants.{Set, Taken}
use Rattle.ink_base.specs.Futures.{Futures, after_get, after_value_back, change_at, changed_future}
use Rattle.ink_base.specs.Messages.{Mail, Mailbox, Message, after_put_back, after_take, first_of, front_of, put_in_box, take_from_box, unread_in, without_first}
use Rattle.ink_base.specs.Numbered.{numbered, set_numbered}
use Rattle.ink_base.specs.Objects.{Objects}
use Rattle.ink_code.specs.Runs.{held_by}
use Rattle.ink_law_turns.proofs.Numbering.{numbered-set_same, set_numbered-same, set_numbered-suc}
use Rattle.ink_parcel.specs.Parts.{AreApartFrom}
use Rattle.ink_code.specs.Trees.{Parcel}

pub not_reached : (b : Bool) (text : List ℕ) → cond b (Some text) None ≡ None → b ≡ false
not_reached true text e = absurd (cc)
not_reached false text e = refl

set_twice : {X : Type 0} (xs : List X) (of : ℕ) (x y : X) → set_numbered (set_numbered xs of x) of y ≡ set_numbered xs of y
set_twice xs zero x y = refl
set_twice {X} xs (suc k) x y =
    ap (λ zs. set_numbered zs (suc k) y) (set_numbered-suc xs k x) ∙ (set_numbered-suc (set xs k x) k y ∙ (at xs k ∙ sym (set_numbered-suc xs k y)))
  where
    at : (zs : List X) (i : ℕ) → set (set zs i x) i y ≡ set zs i y
    at [] i = refl
    at (z ∷ zs) zero = refl
    at (z ∷ zs) (suc i) = ap (λ ws. z ∷ ws) (at zs i)

-- the objects of a message that is taken have other names
pub apart_front : (mail : Mail Parcel) (process : ℕ) (objects : Objects) (message : Message Parcel) (values : Parcel) → IfSome (front_of mail process) (λ first. AreApartFrom objects first.values.objects) → front_of mail process ≡ Some message → values ≡ message.values → AreApartFrom objects values.objects
apart_front mail process objects message values apart is same =
    let found : IfSome (Some message) (λ first. AreApartFrom objects first.values.objects) = subst (λ (o : Option (Message Parcel)). IfSome o (λ first. AreApartFrom objects first.values.objects)) is apart in
    subst (λ (v : Parcel). AreApartFrom objects v.objects) (sym same) found

-- and so have those of a value
pub apart_value : (futures : Futures Parcel) (future : ℕ) (objects : Objects) (value : Parcel) → IfSome (held_by (numbered futures future)) (λ parcel. AreApartFrom objects parcel.objects) → numbered futures future ≡ Some (Set value) → AreApartFrom objects value.objects
apart_value futures future objects value apart is =
    subst (λ (o : Option (FutureState Parcel)). IfSome (held_by o) (λ parcel. AreApartFrom objects parcel.objects)) is apart

box_back : (box : Mailbox Parcel) (message : Message Parcel) (unread : List (Message Parcel)) → box.unread ≡ unread → first_of unread ≡ Some message → record box { unread = message ∷ without_first box.unread } ≡ box
box_back box message [] is found = absurd (cc)
box_back box message (first ∷ others) is found =
    let same : message ≡ first = cc in
    let all : message ∷ without_first box.unread ≡ box.unread = ap (λ (us : List (Message Parcel)). message ∷ without_first us) is ∙ ap (λ (m : Message Parcel). m ∷ others) same ∙ sym is in
    ap (λ (us : List (Message Parcel)). record box { unread = us }) all

back_at : (o : Option (Mailbox Parcel)) (mail : Mail Parcel) (of : ℕ) (message : Message Parcel) → numbered mail of ≡ o → first_of (unread_in o) ≡ Some message → after_put_back (take_from_box o mail of) of message ≡ mail
back_at None mail of message is found = absurd (cc)
back_at (Some box) mail of message is found =
    let taken : Mailbox Parcel = record box { unread = without_first box.unread } in
    ap (λ (o : Option (Mailbox Parcel)). put_in_box o (set_numbered mail of taken) of message) (numbered-set_same mail of taken box is)
    ∙ set_twice mail of taken (record box { unread = message ∷ without_first box.unread })
    ∙ ap (λ (b : Mailbox Parcel). set_numbered mail of b) (box_back box message box.unread refl found)
    ∙ set_numbered-same mail of box is

-- a message that was taken and comes back stands where it stood
pub front_back : (mail : Mail Parcel) (of : ℕ) (message : Message Parcel) → front_of mail of ≡ Some message → after_put_back (after_take mail of) of message ≡ mail
front_back mail of message found = back_at (numbered mail of) mail of message refl found

pub taken_at : (futures after : Futures Parcel) (future : ℕ) (value : Parcel) → numbered futures future ≡ Some (Set value) → after ≡ changed_future futures future after_get → numbered after future ≡ Some Taken
taken_at futures after future value is changed =
    ap (λ (fs : Futures Parcel). numbered fs future) (changed ∙ ap (λ (o : Option (FutureState Parcel)). change_at o futures future after_get) is)
    ∙ numbered-set_same futures future Taken (Set value) is

-- and a value
pub value_back : (futures after : Futures Parcel) (future : ℕ) (value : Parcel) → numbered futures future ≡ Some (Set value) → after ≡ changed_future futures future after_get → changed_future after future (λ state. after_value_back state value) ≡ futures
value_back futures after future value is changed =
    let taken : after ≡ set_numbered futures future Taken = changed ∙ ap (λ (o : Option (FutureState Parcel)). change_at o futures future after_get) is in
    ap (λ (o : Option (FutureState Parcel)). change_at o after future (λ state. after_value_back state value)) (taken_at futures after future value is changed)
    ∙ ap (λ (fs : Futures Parcel). set_numbered fs future (Set value)) taken
    ∙ set_twice futures future Taken (Set value)
    ∙ set_numbered-same futures future (Set value) is
