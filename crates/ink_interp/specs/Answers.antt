-- How a reply and the answer to it tell what the code machine says.
use Rattle.std.specs.Prelude.{◌≡◌, Result, Ok, Err}
use Rattle.ink_base.specs.Objects.{Objects}
use Rattle.ink_code.specs.declared.wrong.Wrong.{Wrong}
use Rattle.ink_code.specs.Process.{Process}
use Rattle.ink_code.specs.Replies as machine
use Rattle.ink_parcel.specs.Parts.{AreApartFrom}
use Rattle.ink_interp.specs.declared.reply.Reply.{Reply}
use Rattle.ink_interp.specs.declared.reply.Reply.TheVariants as reply
use Rattle.ink_interp.specs.declared.reply.AnswerFault.{AnswerFault}
use Rattle.ink_interp.specs.declared.reply.AnswerFault.TheVariants as fault

-- a reply as the code machine is written over it
abbrev pub told : Reply → machine.Reply
told reply.Done = machine.Done
told (reply.Message method parcel) = machine.Taken method parcel
told (reply.Process process) = machine.Started process
told (reply.NewPair future) = machine.NewPair future
told (reply.Got parcel) = machine.Got parcel

-- no object of the reply has the name of one that is there
abbrev pub IsApart : Reply → Objects → Type 0
IsApart (reply.Message method parcel) objects = AreApartFrom objects parcel.objects
IsApart (reply.Got parcel) objects = AreApartFrom objects parcel.objects
IsApart other objects = Unit {0}

-- the process is left as the machine says, or the code is wrong in that way
abbrev pub Leaves : Result Process Wrong → Result (Unit {0}) Wrong → Process → Type 0
Leaves left (Ok _) new = left ≡ Ok new
Leaves left (Err why) new = left ≡ Err why

-- the reply carries objects: it is a message, or the value of a future
abbrev pub HasParcel : Reply → Type 0
HasParcel (reply.Message method parcel) = Unit {0}
HasParcel (reply.Got parcel) = Unit {0}
HasParcel other = ⊥

-- the same; without memory, of which only a reply with objects has need, the process is as before, and the reply comes
-- back
abbrev pub AnswersReply : Result Process Wrong → Result (Unit {0}) AnswerFault → Reply → Process → Process → Type 0
AnswersReply left (Ok _) given old new = left ≡ Ok new
AnswersReply left (Err (fault.Wrong why)) given old new = left ≡ Err why
AnswersReply left (Err (fault.OutOfMemory back)) given old new = (new ≡ old) × (back ≡ given) × HasParcel given
