-- Pieces of a code: what stands at a place, what it gives, and what is held behind it. Nothing here knows a form.
use Rattle.std.specs.Prelude.{◌+◌, ◌++◌, ◌∷◌, ◌||◌, ℕ, zero, Bool, true, false, List, [], Option, length, take, drop, if◌then◌else◌}
use Rattle.ink_code.specs.declared.instr.Instr.{Instr}
use Rattle.ink_code.specs.declared.instr.Instr.TheVariants as i
use Rattle.ink_findings.specs.declared.typed.Target.{Target}
use Rattle.ink_forms.specs.declared.word.Identifier.{Identifier}
use Rattle.ink_forms.specs.declared.word.Literal.{Literal}
use Rattle.ink_forms.specs.declared.word.Literal.TheVariants as literal
use Rattle.ink_emit.specs.declared.given.Given.{Given}
use Rattle.ink_emit.specs.declared.given.Given.TheVariants as given
use Rattle.ink_emit.specs.declared.held.Held.{Held}
use Rattle.ink_emit.specs.declared.held.Holding.{Holding}
use Rattle.ink_emit.specs.Bodies as body
use Rattle.ink_plan.specs.declared.plan.How.{How}
use Rattle.ink_plan.specs.declared.plan.How.TheVariants as how
use Rattle.ink_plan.specs.declared.plan.Planned.{Planned}

-- What is known of a method: of its nodes by their numbers what the phases found.
pub record Site : Type 0 where
  -- how many registers the variables have, and the register of each, by the node that declares it
  pub variables : ℕ
  pub register : ℕ → ℕ
  -- the variable that a name stands for, in an expression or in a pattern
  pub variable : ℕ → ℕ
  -- whether a node's type is a value type, a borrow, or that of nil
  pub is_value : ℕ → Bool
  pub is_borrow : ℕ → Bool
  pub is_nil : ℕ → Bool
  -- what a node calls, and whether the call takes its receiver away or is a message
  pub call : ℕ → Option Target
  pub takes : ℕ → Bool
  pub is_message : ℕ → Bool
  -- the place of the field that a node reads
  pub place : ℕ → ℕ
  -- what a node makes: the type, the tag of its constructor, the argument of each field as it is declared, and whether it
  -- is a process
  pub kind : ℕ → ℕ
  pub tag : ℕ → ℕ
  pub order : ℕ → List ℕ
  pub is_process : ℕ → Bool
  -- of a pattern: how many fields its object has, the place of a field by its name, whether a field is written with a value
  -- type, and the constant of its tag, where its type has two constructors
  pub field_count : ℕ → ℕ
  pub field_place : ℕ → Identifier → ℕ
  pub is_value_field : ℕ → ℕ → Bool
  pub tested_tag : ℕ → Option ℕ
  -- the constants of literals
  pub constant : Literal → ℕ
  -- what ends at an exit, and how the old value of a variable ends at a write
  pub ends : ℕ → List Planned
  pub old : ℕ → ℕ → Option How
  -- whether `self` is a borrow, which ends with the method
  pub is_lent : Bool

-- a place in the code, and the registers that are held there, the newest last
pub record Point : Type 0 where
  pub place : ℕ
  pub held : List Held

-- What stands at a place: what it gives, its instructions, what is held behind it, and whether it has jumps behind the loop
-- that is round it, and jumps to what is tried next where a test fails.
pub record Made : Type 0 where
  pub given : Given
  pub code : List Instr
  pub held : List Held
  pub breaks : Bool
  pub fails : Bool

-- a piece of code, by the point where it stands
abbrev pub Piece : Type 0
Piece = Point → Made

-- the point behind what stands at a point
abbrev pub point_behind : Point → Made → Point
point_behind u x = record { place = u.place + length x.code; held = x.held }

-- instructions, behind which this is given and held
abbrev pub made : Given → List Instr → List Held → Made
made g xs held = record { given = g; code = xs; held = held; breaks = false; fails = false }

-- one behind the other
abbrev pub joined : Made → Made → Made
joined x y = record { given = y.given; code = x.code ++ y.code; held = y.held; breaks = x.breaks || y.breaks; fails = x.fails || y.fails }

abbrev pub continued : Point → Made → (Bool → Given → Piece) → Made
continued u x rest = joined x (rest x.fails x.given (point_behind u x))

-- one piece, and then what comes of whether it may fail and of what it gives
abbrev pub next_by_failure : Piece → (Bool → Given → Piece) → Piece
next_by_failure a rest u = continued u (a u) rest

-- one piece, and then what comes of what it gives
abbrev pub next : Piece → (Given → Piece) → Piece
next a rest = next_by_failure a (λ failed g. rest g)

-- one piece and then another
abbrev pub behind : Piece → Piece → Piece
behind a b = next a (λ g. b)

-- A piece that is told the place behind it. How long it is doesn't depend on that.
abbrev pub told_its_end : (ℕ → Piece) → Piece
told_its_end a u = a (point_behind u (a zero u)).place u

-- the same of a piece and one that is told the place between them
abbrev pub told_the_place_between : (ℕ → Piece) → Piece → Piece
told_the_place_between a b = behind (told_its_end a) b

-- a piece that is told the place where it stands
abbrev pub at_its_place : (ℕ → Piece) → Piece
at_its_place a u = a u.place u

-- nothing: no code, and this given
abbrev pub giving : Given → Piece
giving g u = made g [] u.held

abbrev pub nothing : Piece
nothing = giving given.Nil

-- instructions, which give nil
abbrev pub does : List Instr → Piece
does xs u = made given.Nil xs u.held

-- instructions behind which nothing goes on
abbrev pub leaves : List Instr → Piece
leaves xs u = made given.Ends xs u.held

-- the first register above all that are held
abbrev pub free : Site → Point → ℕ
free m u = body.free m.variables u.held

abbrev pub with_free : Site → (ℕ → Piece) → Piece
with_free m a u = a (free m u) u

-- instructions that put a value into the free register
abbrev pub puts_all : Site → (ℕ → List Instr) → Piece
puts_all m xs = with_free m (λ r u. made (given.At r) (xs r) u.held)

abbrev pub puts : Site → (ℕ → Instr) → Piece
puts m x = puts_all m (λ r. x r ∷ [])

-- a register is held from here on
abbrev pub holds : Holding → ℕ → Piece
holds why r u = made (given.At r) [] (u.held ++ record { register = r; holding = why } ∷ [])

-- how many registers are held where a piece stands
abbrev pub from_mark : (ℕ → Piece) → Piece
from_mark a u = a (length u.held) u

-- no more is held than the first so many
abbrev pub releases : ℕ → Piece
releases n u = made given.Nil [] (take n u.held)

-- a piece behind which no more is held than before it
abbrev pub released : Piece → Piece
released a = from_mark (λ n. next a (λ g. behind (releases n) (giving g)))

-- The operands behind the first so many that are held go into what follows, by their registers. Temporaries stay.
abbrev pub takes_operands : ℕ → (List ℕ → Piece) → Piece
takes_operands n rest u =
    rest (body.operands (drop n u.held)) (record { place = u.place; held = take n u.held ++ body.temporaries (drop n u.held) })

-- what is held behind the first so many is dropped, the newest first, and stays held for paths that don't come by here
abbrev pub drops_held : ℕ → Piece
drops_held n u = does (body.drops (drop n u.held)) u

abbrev pub ends_held : ℕ → Piece
ends_held n = behind (drops_held n) (releases n)

-- How it goes on behind what was given: nil is put into the free register first, and behind what ends there is nothing.
abbrev pub onward : Site → (ℕ → Piece) → Given → Piece
onward m rest given.Ends = giving given.Ends
onward m rest (given.At r) = rest r
onward m rest given.Nil = with_free m (λ r. behind (does (i.Const r (m.constant literal.Nil) ∷ [])) (rest r))

-- a value in a register, and then the rest
abbrev pub then_with : Site → Piece → (ℕ → Piece) → Piece
then_with m a rest = next a (onward m rest)

-- a value that is held, and then the rest
abbrev pub then_held : Site → Holding → Piece → Piece → Piece
then_held m why a rest = then_with m a (λ r. behind (holds why r) rest)

-- at the end of a statement what it holds goes, while its value stays in its register
abbrev pub ended : ℕ → Given → Piece
ended n given.Ends = giving given.Ends
ended n given.Nil = behind (ends_held n) nothing
ended n (given.At r) = behind (ends_held n) (giving (given.At r))

abbrev pub stated : Piece → Piece
stated a = from_mark (λ n. next a (ended n))

-- behind what ends there is nothing
abbrev pub unless_ended : Given → Piece → Piece
unless_ended given.Ends a = giving given.Ends
unless_ended given.Nil a = a
unless_ended (given.At r) a = a

abbrev pub goes_on : Given → Bool
goes_on given.Ends = false
goes_on given.Nil = true
goes_on (given.At r) = true

-- one of two, by a test
abbrev pub choose : Bool → Piece → Piece → Piece
choose true a b = a
choose false a b = b

-- the drop of a register, which may be empty where that isn't known
abbrev pub drop_by : How → ℕ → Instr
drop_by how.Sure from = i.Drop from
drop_by how.Maybe from = i.DropMaybe from

-- a value of a value type needs no drop
abbrev pub drop_unless_value : Bool → ℕ → List Instr
drop_unless_value true from = []
drop_unless_value false from = i.Drop from ∷ []

-- what an exit drops, in order
abbrev pub drop_of : Site → Planned → List Instr
drop_of m x = if m.is_value x.variable then [] else (drop_by x.how (m.register x.variable) ∷ [])

abbrev pub drops_of : Site → List Planned → List Instr
drops_of m [] = []
drops_of m (x ∷ xs) = drop_of m x ++ drops_of m xs

-- the variables that an exit leaves go
abbrev pub leaves_variables : Site → ℕ → Piece
leaves_variables m exit = does (drops_of m (m.ends exit))
