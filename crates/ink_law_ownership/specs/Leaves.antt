-- What steps and replies leave of a process: whose it is, how many steps and objects it counts, and how its objects are named.
use Rattle.std.specs.Prelude.{◌≡◌, ℕ, ◌+◌, ◌<◌, ◌≤◌, ◌⊎◌, IsSome}
use Rattle.std.specs.FinMap.{empty, get}
use Rattle.ink_base.specs.declared.ident.ObjectId.{ObjectId}
use Rattle.ink_base.specs.Actions.{Action}
use Rattle.ink_base.specs.Actions as action
use Rattle.ink_base.specs.Objects.{Objects, fields_in}
use Rattle.ink_base.specs.Tree.{InTree}
use Rattle.ink_code.specs.Machine.{Stepped, Went, Wants, Panics, Spent}
use Rattle.ink_code.specs.Owned.{times_there, AreOwnedOnce}
use Rattle.ink_code.specs.Process.{Process}
use Rattle.ink_code.specs.Replies.{Reply, Taken, Got}
use Rattle.ink_code.specs.Trees.{Parcel}

-- the objects that an action carries
abbrev pub carried : Action Parcel → Objects
carried (action.Spawn kind parcel) = parcel.objects
carried (action.Send to method parcel) = parcel.objects
carried (action.SetFuture future parcel) = parcel.objects
carried other = empty

-- the objects that go out of a process with a step
abbrev pub going_out : Stepped → Objects
going_out (Wants action) = carried action
going_out other = empty

-- a process of this number made the object of that name after it had made `old` objects, and before it had made more than
-- `new`
pub record IsNew (id : ObjectId) (number old new : ℕ) : Type 0 where
  pub process : id.process ≡ number
  pub later : old < id.serial
  pub made : id.serial ≤ new

-- a process has gone on, and objects went out of it: each name stands no more often than before, or it is new and stands
-- once
pub record KeepsNames (p q : Process) (out : Objects) : Type 0 where
  pub made : p.made ≤ q.made
  pub names : (id : ObjectId) → (times_there id q.objects + times_there id out ≤ times_there id p.objects) ⊎ (IsNew id p.number p.made q.made × (times_there id q.objects + times_there id out ≤ 1))

-- how many steps were made
abbrev pub steps_in : Stepped → ℕ
steps_in Went = 1
steps_in other = 0

-- the objects of a parcel are the tree of its values, in which each is owned once
pub record IsTree (parcel : Parcel) : Type 0 where
  pub owned : AreOwnedOnce parcel.values parcel.objects
  pub tree : (id : ObjectId) → IsSome (get parcel.objects id) → InTree (fields_in parcel.objects) parcel.values id

-- a parcel that goes out is a tree, and the process stays as it was where none goes out. That the steps are at their limit
-- is told before a step, and by none
abbrev pub Gives : Stepped → Process → Process → Type 0
Gives Went p q = Unit {0}
Gives (Wants (action.Spawn kind parcel)) p q = IsTree parcel
Gives (Wants (action.Send to method parcel)) p q = IsTree parcel
Gives (Wants (action.SetFuture future parcel)) p q = IsTree parcel
Gives (Wants action.Take) p q = q ≡ p
Gives (Wants (action.Print text)) p q = q ≡ p
Gives (Wants action.NewFuture) p q = q ≡ p
Gives (Wants (action.BreakFuture future)) p q = q ≡ p
Gives (Wants (action.GetFuture future)) p q = q ≡ p
Gives (Wants (action.Panic text)) p q = q ≡ p
Gives (Panics text) p q = q ≡ p
Gives (Spent steps) p q = ⊥

-- the objects that a reply brings
abbrev pub brought : Reply → Objects
brought (Taken method parcel) = parcel.objects
brought (Got parcel) = parcel.objects
brought other = empty

-- what a reply leaves
pub record ReplyLeaves (reply : Reply) (p q : Process) : Type 0 where
  pub number : q.number ≡ p.number
  pub kind : q.kind ≡ p.kind
  pub ran : q.ran ≡ 0
  pub made : q.made ≡ p.made
  pub names : (id : ObjectId) → times_there id q.objects ≤ times_there id p.objects + times_there id (brought reply)

-- what a step leaves
pub record StepLeaves (p : Process) (stepped : Stepped) (q : Process) : Type 0 where
  pub number : q.number ≡ p.number
  pub kind : q.kind ≡ p.kind
  pub ran : q.ran ≡ p.ran + steps_in stepped
  pub names : KeepsNames p q (going_out stepped)
  pub gives : Gives stepped p q
