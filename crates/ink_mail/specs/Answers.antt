-- What a send answers, and what it leaves.
use Rattle.std.specs.Prelude.{◌≡◌, ◌<◌, ◌≤◌, ℕ, None, Result, Ok, Err, length}
use Rattle.ink_base.specs.Messages.{unread_of, after_send}
use Rattle.ink_base.specs.Numbered.{numbered}
use Rattle.ink_code.specs.Trees.{Parcel}
use Rattle.ink_numbered.specs.Roomy.{Roomy}
use Rattle.ink_mail.specs.Boxes.{RoomyBox, mail_of}
use Rattle.ink_mail.specs.declared.fault.SendFault.{SendFault}
use Rattle.ink_mail.specs.declared.fault.SendFault.TheVariants as fault

-- the message stands behind the others of its receiver; else nothing changed, and what it was to carry comes back
abbrev pub IsSendAnswer : Result (Unit {0}) SendFault → Roomy RoomyBox → Roomy RoomyBox → ℕ → ℕ → ℕ → Parcel → ℕ → Type 0
IsSendAnswer (Ok _) old new to sender method values most =
    (length (unread_of (mail_of old) to) < most) × (mail_of new ≡ after_send (mail_of old) to sender method values)
IsSendAnswer (Err (fault.NoBox back)) old new to sender method values most =
    (numbered (mail_of old) to ≡ None) × (mail_of new ≡ mail_of old) × (back ≡ values)
IsSendAnswer (Err (fault.Full back)) old new to sender method values most =
    (most ≤ length (unread_of (mail_of old) to)) × (mail_of new ≡ mail_of old) × (back ≡ values)
IsSendAnswer (Err (fault.OutOfMemory back)) old new to sender method values most = (mail_of new ≡ mail_of old) × (back ≡ values)
