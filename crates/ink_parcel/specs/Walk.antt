-- The walk by which the code machine parts objects, as far as a cut has come.
use Rattle.std.specs.Prelude.{◌≡◌, Result, Ok, Err, List, [], ◌∷◌, ◌++◌}
use Rattle.std.specs.FinMap.{insert, len, from_entries}
use Rattle.ink_base.specs.declared.value.Value.{Value}
use Rattle.ink_base.specs.Objects.{Objects}
use Rattle.ink_code.specs.declared.wrong.Wrong.{Wrong}
use Rattle.ink_code.specs.declared.wrong.Wrong.TheVariants as wrong
use Rattle.ink_code.specs.Trees.{Parted, parted_by, parted_of}
use Rattle.ink_heap.specs.Pairs.{Pairs}
use Rattle.ink_heap.specs.View.{HeapView}
use Rattle.ink_parcel.specs.declared.fault.CutFault.{CutFault}
use Rattle.ink_parcel.specs.declared.fault.CutFault.TheVariants as cut
use Rattle.ink_parcel.specs.declared.fault.MoveFault.{MoveFault}
use Rattle.ink_parcel.specs.declared.fault.MoveFault.TheVariants as move

-- what the walk comes to that still has to look at these values, with these objects left and those taken
abbrev pub walk : List Value → Objects → Objects → Result Parted Wrong
walk values left taken = parted_by (len left) values (record { left = left; taken = taken })

-- the values in the fields of some objects, one object after another
abbrev pub fields_of : Pairs → List Value
fields_of [] = []
fields_of ((id, object) ∷ pairs) = object.fields ++ fields_of pairs

-- objects with those of some pairs, put in one after another
abbrev pub with_pairs : Objects → Pairs → Objects
with_pairs objects [] = objects
with_pairs objects ((id, object) ∷ pairs) = with_pairs (insert objects id object) pairs

-- a walk over these values took what was moved, and goes on behind them, with the fields of what was moved as the last
pub record GoesOn (values : List Value) (before after : HeapView) (had has : Pairs) : Type 0 where
  pub more : Pairs
  pub grown : has ≡ had ++ more
  pub goes : (rest : List Value) (taken : Objects) → walk (values ++ rest) before.objects taken ≡ walk (rest ++ fields_of more) after.objects (with_pairs taken more)

-- a walk over these values is wrong at one of them
abbrev pub IsWrong : List Value → HeapView → Type 0
IsWrong values before =
    (rest : List Value) (taken : Objects) → walk (values ++ rest) before.objects taken ≡ Err wrong.Object

-- why no walk over these values went on: it is wrong, or there was no memory
abbrev pub Fails : MoveFault → List Value → HeapView → Type 0
Fails move.Absent values before = IsWrong values before
Fails move.OutOfMemory values before = Unit {0}

-- the walk over these values went on or failed, as the result says
abbrev pub Walks : Result (Unit {0}) MoveFault → List Value → HeapView → HeapView → Pairs → Pairs → Type 0
Walks (Ok _) values before after had has = GoesOn values before after had has
Walks (Err why) values before after had has = Fails why values before

-- why there are no two parts of some objects: the walk is wrong, or there was no memory
abbrev pub IsUnparted : MoveFault → List Value → Objects → Type 0
IsUnparted move.Absent values objects = parted_of values objects ≡ Err wrong.Object
IsUnparted move.OutOfMemory values objects = Unit {0}

-- what was moved and what is left are the two parts, or there are none, as the result says
abbrev pub IsParted : Result (Unit {0}) MoveFault → List Value → Objects → Objects → Pairs → Type 0
IsParted (Ok _) values objects left moved =
    parted_of values objects ≡ Ok (record { left = left; taken = from_entries moved })
IsParted (Err why) values objects left moved = IsUnparted why values objects

-- the same fault with the values that come back
abbrev pub with_values : MoveFault → List Value → CutFault
with_values move.OutOfMemory values = cut.OutOfMemory values
with_values move.Absent values = cut.Absent values

-- the values that come back
abbrev pub values_in : CutFault → List Value
values_in (cut.OutOfMemory values) = values
values_in (cut.Absent values) = values

-- what holds where an object was absent
abbrev pub OnAbsent : CutFault → Type 0 → Type 0
OnAbsent (cut.Absent values) claim = claim
OnAbsent (cut.OutOfMemory values) claim = Unit {0}
