-- The mail that a list of mailboxes is, where one of them was set out, changed and set back.
use Rattle.std.proofs.Common.{◌≡◌, ℕ, zero, suc, ◌≤◌, Option, None, Some, List, [], ◌∷◌, ◌++◌, length, map, set, refl, ap, sym, ◌∙◌, subst}
use Rattle.std.specs.List.{slice_get}
use Rattle.std.specs.Option.{option_map}
use Rattle.std.proofs.lemmas.List.{length-map, map-append}
use Rattle.ink_base.specs.Messages.{Mail, Mailbox, Message, empty_mailbox, first_of, front_of, unread_in, unread_of, with_message, without_first, send_to_box, take_from_box, put_in_box, after_send, after_take, after_put_back}
use Rattle.ink_base.specs.Numbered.{numbered, set_numbered}
use Rattle.ink_code.specs.Trees.{Parcel}
use Rattle.ink_law_turns.proofs.Numbering.{map_set_numbered, none_some, numbered-map, numbered-set_same, numbered-suc, set_numbered-suc, set_numbered-same}
use Rattle.ink_mail.specs.Boxes.{RoomyBox, spare_in}

abbrev seen : RoomyBox → Mailbox Parcel
seen roomy = roomy.mailbox

abbrev all_seen : List RoomyBox → Mail Parcel
all_seen boxes = map (λ roomy. roomy.mailbox) boxes

pub boxes_length : (boxes : List RoomyBox) → length (all_seen boxes) ≡ length boxes
boxes_length boxes = length-map boxes seen

pub boxes_added : (boxes : List RoomyBox) (new : RoomyBox) → new.mailbox ≡ empty_mailbox → all_seen (boxes ++ new ∷ []) ≡ all_seen boxes ++ empty_mailbox ∷ []
boxes_added boxes new empty = map-append seen boxes (new ∷ []) ∙ ap (λ (b : Mailbox Parcel). all_seen boxes ++ b ∷ []) empty

number_seen : (boxes : List RoomyBox) (of : ℕ) (o : Option RoomyBox) → numbered boxes of ≡ o → numbered (all_seen boxes) of ≡ option_map seen o
number_seen boxes of o is = numbered-map seen boxes of ∙ ap (option_map seen) is

pub none_seen : (boxes : List RoomyBox) (of : ℕ) → numbered boxes of ≡ None → numbered (all_seen boxes) of ≡ None
none_seen boxes of is = number_seen boxes of None is

pub unread_none : (boxes : List RoomyBox) (of : ℕ) → numbered boxes of ≡ None → unread_of (all_seen boxes) of ≡ []
unread_none boxes of is = ap unread_in (number_seen boxes of None is)

pub unread_some : (boxes : List RoomyBox) (of : ℕ) (box : RoomyBox) → numbered boxes of ≡ Some box → unread_of (all_seen boxes) of ≡ box.mailbox.unread
unread_some boxes of box is = ap unread_in (number_seen boxes of (Some box) is)

pub front_none : (boxes : List RoomyBox) (of : ℕ) → numbered boxes of ≡ None → front_of (all_seen boxes) of ≡ None
front_none boxes of is = ap first_of (unread_none boxes of is)

pub front_some : (boxes : List RoomyBox) (of : ℕ) (box : RoomyBox) → numbered boxes of ≡ Some box → front_of (all_seen boxes) of ≡ first_of box.mailbox.unread
front_some boxes of box is = ap first_of (unread_some boxes of box is)

-- where there is no such mailbox nothing is set
set_none : (boxes : List RoomyBox) (of : ℕ) (x : RoomyBox) → numbered boxes of ≡ None → set_numbered boxes of x ≡ boxes
set_none boxes zero x is = refl
set_none boxes (suc k) x is = set_numbered-suc boxes k x ∙ at boxes k (sym (numbered-suc boxes k) ∙ is)
  where
    at : (zs : List RoomyBox) (i : ℕ) → slice_get zs i ≡ None → set zs i x ≡ zs
    at [] i none = refl
    at (z ∷ zs) zero none = absurd (none_some z (sym none))
    at (z ∷ zs) (suc i) none = ap (λ ws. z ∷ ws) (at zs i none)

set_twice : (boxes : List RoomyBox) (of : ℕ) (x y : RoomyBox) → set_numbered (set_numbered boxes of x) of y ≡ set_numbered boxes of y
set_twice boxes zero x y = refl
set_twice boxes (suc k) x y =
    ap (λ zs. set_numbered zs (suc k) y) (set_numbered-suc boxes k x) ∙ (set_numbered-suc (set boxes k x) k y ∙ (at boxes k ∙ sym (set_numbered-suc boxes k y)))
  where
    at : (zs : List RoomyBox) (i : ℕ) → set (set zs i x) i y ≡ set zs i y
    at [] i = refl
    at (z ∷ zs) zero = refl
    at (z ∷ zs) (suc i) = ap (λ ws. z ∷ ws) (at zs i)

-- the mail after a mailbox was set out, and set back as another
set_back : (boxes : List RoomyBox) (of : ℕ) (x y : RoomyBox) → all_seen (set_numbered (set_numbered boxes of x) of y) ≡ set_numbered (all_seen boxes) of y.mailbox
set_back boxes of x y = ap all_seen (set_twice boxes of x y) ∙ map_set_numbered seen boxes of y

pub unset : (boxes : List RoomyBox) (of : ℕ) (x : RoomyBox) → numbered boxes of ≡ None → all_seen (set_numbered boxes of x) ≡ all_seen boxes
unset boxes of x is = ap all_seen (set_none boxes of x is)

pub set_same : (boxes : List RoomyBox) (of : ℕ) (x y box : RoomyBox) → numbered boxes of ≡ Some box → y.mailbox ≡ box.mailbox → all_seen (set_numbered (set_numbered boxes of x) of y) ≡ all_seen boxes
set_same boxes of x y box is same =
    set_back boxes of x y ∙ (ap (set_numbered (all_seen boxes) of) same ∙ set_numbered-same (all_seen boxes) of box.mailbox (number_seen boxes of (Some box) is))

pub box_sent : (boxes : List RoomyBox) (of sender method : ℕ) (values : Parcel) (x y box : RoomyBox) → numbered boxes of ≡ Some box → y.mailbox ≡ with_message box.mailbox sender method values → all_seen (set_numbered (set_numbered boxes of x) of y) ≡ after_send (all_seen boxes) of sender method values
box_sent boxes of sender method values x y box is now =
    set_back boxes of x y ∙ (ap (set_numbered (all_seen boxes) of) now ∙ sym (ap (λ (o : Option (Mailbox Parcel)). send_to_box o (all_seen boxes) of sender method values) (number_seen boxes of (Some box) is)))

pub box_taken : (boxes : List RoomyBox) (of : ℕ) (x y box : RoomyBox) → numbered boxes of ≡ Some box → y.mailbox ≡ record box.mailbox { unread = without_first box.mailbox.unread } → all_seen (set_numbered (set_numbered boxes of x) of y) ≡ after_take (all_seen boxes) of
box_taken boxes of x y box is now =
    set_back boxes of x y ∙ (ap (set_numbered (all_seen boxes) of) now ∙ sym (ap (λ (o : Option (Mailbox Parcel)). take_from_box o (all_seen boxes) of) (number_seen boxes of (Some box) is)))

pub none_taken : (boxes : List RoomyBox) (of : ℕ) (x : RoomyBox) → numbered boxes of ≡ None → all_seen (set_numbered boxes of x) ≡ after_take (all_seen boxes) of
none_taken boxes of x is = unset boxes of x is ∙ sym (ap (λ (o : Option (Mailbox Parcel)). take_from_box o (all_seen boxes) of) (number_seen boxes of None is))

pub box_put : (boxes : List RoomyBox) (of : ℕ) (message : Message Parcel) (x y box : RoomyBox) → numbered boxes of ≡ Some box → y.mailbox ≡ record box.mailbox { unread = message ∷ box.mailbox.unread } → all_seen (set_numbered (set_numbered boxes of x) of y) ≡ after_put_back (all_seen boxes) of message
box_put boxes of message x y box is now =
    set_back boxes of x y ∙ (ap (set_numbered (all_seen boxes) of) now ∙ sym (ap (λ (o : Option (Mailbox Parcel)). put_in_box o (all_seen boxes) of message) (number_seen boxes of (Some box) is)))

pub none_put : (boxes : List RoomyBox) (of : ℕ) (message : Message Parcel) (x : RoomyBox) → numbered boxes of ≡ None → all_seen (set_numbered boxes of x) ≡ after_put_back (all_seen boxes) of message
none_put boxes of message x is = unset boxes of x is ∙ sym (ap (λ (o : Option (Mailbox Parcel)). put_in_box o (all_seen boxes) of message) (number_seen boxes of None is))

-- the room of a mailbox that was set back
pub room_back : (boxes : List RoomyBox) (of : ℕ) (x y box : RoomyBox) → numbered boxes of ≡ Some box → spare_in (numbered (set_numbered (set_numbered boxes of x) of y) of) ≡ y.spare
room_back boxes of x y box is = ap (λ zs. spare_in (numbered zs of)) (set_twice boxes of x y) ∙ ap spare_in (numbered-set_same boxes of y box is)
