-- What a contract sees of mailboxes.
use Rattle.std.specs.Prelude.{ℕ, Option, None, Some, List, map}
use Rattle.ink_base.specs.Messages.{Mail, Mailbox}
use Rattle.ink_base.specs.Numbered.{numbered}
use Rattle.ink_code.specs.Trees.{Parcel}
use Rattle.ink_numbered.specs.Roomy.{Roomy}

-- a mailbox, and how many messages it can take without memory
pub record RoomyBox : Type 0 where
  pub mailbox : Mailbox Parcel
  pub spare : ℕ

-- the mail without the room
abbrev pub mail_of : Roomy RoomyBox → Mail Parcel
mail_of boxes = map (λ roomy. roomy.mailbox) boxes.items

abbrev pub spare_in : Option RoomyBox → ℕ
spare_in None = 0
spare_in (Some roomy) = roomy.spare

-- how many messages the mailbox of a process can take without memory
abbrev pub spare_of : Roomy RoomyBox → ℕ → ℕ
spare_of boxes process = spare_in (numbered boxes.items process)
