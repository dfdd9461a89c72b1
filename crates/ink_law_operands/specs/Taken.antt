-- Which values the table lets a row take.
use Rattle.std.specs.Prelude.{if◌then◌else◌, Bool, true, false, Option, None, Some, Result, Ok, Err, List, [], ◌∷◌}
use Rattle.ink_base.specs.declared.ident.ObjectId.{ObjectId}
use Rattle.ink_base.specs.declared.row.Kind.{Kind}
use Rattle.ink_base.specs.declared.row.Kind.TheVariants as kind
use Rattle.ink_base.specs.declared.row.Mode.{Mode}
use Rattle.ink_base.specs.declared.row.Mode.TheVariants as mode
use Rattle.ink_base.specs.declared.row.Slot.{Slot}
use Rattle.ink_base.specs.declared.row.Slot.TheVariants as slot
use Rattle.ink_base.specs.declared.value.Value.{Value}
use Rattle.ink_base.specs.declared.value.Value.TheVariants as v
use Rattle.ink_code.specs.declared.wrong.Wrong.{Wrong}
use Rattle.ink_code.specs.declared.wrong.Wrong.TheVariants as wrong
use Rattle.ink_code.specs.Machine.{after}
use Rattle.ink_code.specs.Moves.{text_of, truth_of}
use Rattle.ink_code.specs.Rows.{int_of}

-- in which way something is wrong, if it is
abbrev pub wrong_in : {A : Type 0} → Result A Wrong → Option Wrong
wrong_in (Ok a) = None
wrong_in (Err why) = Some why

-- a value of a slot: an Int, a Bool or a text has to be one, and of an item nothing is asked
abbrev pub of_slot : Slot → Value → Result Value Wrong
of_slot slot.Int value = after (int_of value) (λ number. Ok value)
of_slot slot.Bool value = after (truth_of value) (λ truth. Ok value)
of_slot slot.Str value = after (text_of value) (λ text. Ok value)
of_slot slot.Item value = Ok value
of_slot other value = Err wrong.Kind

-- the values of these slots, the first first
abbrev pub of_slots : List Slot → List Value → Result (List Value) Wrong
of_slots [] values = Ok []
of_slots (slot ∷ slots) [] = Err wrong.Absent
of_slots (slot ∷ slots) (value ∷ values) = after (of_slot slot value) (λ one. of_slots slots values)

-- whether there is one value for each slot
abbrev pub is_one_each : List Slot → List Value → Bool
is_one_each [] [] = true
is_one_each (slot ∷ slots) (value ∷ values) = is_one_each slots values
is_one_each slots values = false

-- the values that go into these slots: one for each, or it is wrong
abbrev pub taken : List Slot → List Value → Result (List Value) Wrong
taken slots values = if is_one_each slots values then of_slots slots values else Err wrong.Absent

-- the slot of a receiver that is a value
abbrev pub slot_of : Kind → Slot
slot_of kind.Int = slot.Int
slot_of kind.Bool = slot.Bool
slot_of kind.Str = slot.Str
slot_of other = slot.Item

-- the values of a row on an object: a row that takes the object has its owner in front, and a static one nothing
abbrev pub on_object : Mode → ObjectId → List Value → List Value
on_object mode.Static id operands = operands
on_object mode.Move id operands = v.Own id ∷ operands
on_object other id operands = v.Bor id ∷ operands
