-- The types of built-in methods, over the parameter 0: what the type of the receiver is given.
use Rattle.std.specs.Prelude.{ℕ, Bool, List, [], ◌∷◌, Option, Some, None, option_map}
use Rattle.ink_base.specs.declared.ident.BorrowKind.{BorrowKind}
use Rattle.ink_base.specs.declared.ident.BorrowKind.TheVariants as borrow
use Rattle.ink_base.specs.declared.row.Kind.{Kind}
use Rattle.ink_base.specs.declared.row.Kind.TheVariants as kind
use Rattle.ink_base.specs.declared.row.Slot.{Slot}
use Rattle.ink_base.specs.declared.row.Slot.TheVariants as slot
use Rattle.ink_types.specs.declared.kind.TheConstants.{INT, BOOL, STRING, NIL, OPTION, ARRAY, TUPLE2, STDOUT, FUTURE, PROMISE}
use Rattle.ink_types.specs.TypeTerms.{TypeTerm, Parameter, Of, Ref, Mut, NoTerms, AndTerm}

-- a type without arguments, and one of a single argument
abbrev pub bare : ℕ → TypeTerm
bare kind = Of kind NoTerms

abbrev pub given : ℕ → TypeTerm → TypeTerm
given kind argument = Of kind (AndTerm argument NoTerms)

-- what the type of the receiver is given
abbrev pub item : TypeTerm
item = Parameter 0

abbrev pub option : ℕ
option = OPTION

abbrev pub borrow_of_item : BorrowKind → TypeTerm
borrow_of_item borrow.Ref = Ref item
borrow_of_item borrow.Mut = Mut item

-- the tuple of a future of an item and its promise
abbrev pub pair : TypeTerm
pair = Of TUPLE2 (AndTerm (given FUTURE item) (AndTerm (given PROMISE item) NoTerms))

-- what goes into a method, or comes out of it
abbrev pub slot_type : Slot → TypeTerm
slot_type slot.Int = bare INT
slot_type slot.Bool = bare BOOL
slot_type slot.Str = bare STRING
slot_type slot.Nil = bare NIL
slot_type slot.Stdout = bare STDOUT
slot_type slot.Item = item
slot_type slot.Pair = pair
slot_type slot.OptInt = given OPTION (bare INT)
slot_type slot.OptStr = given OPTION (bare STRING)
slot_type slot.OptItem = given OPTION item
slot_type slot.OptRef = given OPTION (borrow_of_item borrow.Ref)
slot_type slot.OptMut = given OPTION (borrow_of_item borrow.Mut)

-- the type of the receiver
abbrev pub receiver_type : Kind → TypeTerm
receiver_type kind.Int = bare INT
receiver_type kind.Bool = bare BOOL
receiver_type kind.Str = bare STRING
receiver_type kind.Array = given ARRAY item
receiver_type kind.Option = given OPTION item
receiver_type kind.Future = given FUTURE item
receiver_type kind.Promise = given PROMISE item
receiver_type kind.Stdout = bare STDOUT
