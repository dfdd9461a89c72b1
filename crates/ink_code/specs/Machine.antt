-- What one step makes of a process, and the few forms in which each step is written.
use Rattle.std.specs.Prelude.{ℕ, ◌+◌, nat_lt, if◌then◌else◌, Bool, true, false, Option, None, Some, Result, Ok, Err, List, [], ◌∷◌}
use Rattle.ink_base.specs.declared.limits.Limit.{Limit}
use Rattle.ink_base.specs.declared.value.Value.{Value}
use Rattle.ink_base.specs.Actions.{Action}
use Rattle.ink_base.specs.Limits.{limit_of, panic_text}
use Rattle.ink_code.specs.declared.code.Code.{Code}
use Rattle.ink_code.specs.declared.frame.Frame.{Frame}
use Rattle.ink_code.specs.declared.instr.Instr.{Instr}
use Rattle.ink_code.specs.declared.wrong.Wrong.{Wrong}
use Rattle.ink_code.specs.declared.wrong.Wrong.TheVariants as wrong
use Rattle.ink_code.specs.Fetch.{fetch}
use Rattle.ink_base.specs.Objects.{Objects}
use Rattle.ink_code.specs.Process.{Process, held, register, with_register, at_place}
use Rattle.ink_code.specs.Trees.{Parcel}

-- what a step came to
pub data Stepped : Type 0 where
  -- it was made, and the next one can follow
  Went : Stepped
  -- the process wants this action, with the values that go out
  Wants : (action : Action Parcel) → Stepped
  -- the process ends the run with a text
  Panics : (text : List ℕ) → Stepped
  -- so many steps were made since the last action, and no more are allowed
  Spent : (steps : ℕ) → Stepped

-- what a step came to and the process after it, or in which way the instruction is wrong
abbrev pub Outcome : Type 0
Outcome = Result (Stepped × Process) Wrong

-- what is needed, or the instruction is wrong in that way
unfoldable pub given : {A B : Type 0} → Wrong → Option A → (A → Result B Wrong) → Result B Wrong
given why None further = Err why
given why (Some a) further = further a

-- the test has to hold, or the instruction is wrong in that way
unfoldable pub needs : {B : Type 0} → Bool → Wrong → Result B Wrong → Result B Wrong
needs true why further = further
needs false why further = Err why

-- this where the test holds, and what is further else
unfoldable pub when : {B : Type 0} → Bool → Result B Wrong → Result B Wrong → Result B Wrong
when true this further = this
when false this further = further

-- what was found goes on, and what is wrong stays so
unfoldable pub after : {A B : Type 0} → Result A Wrong → (A → Result B Wrong) → Result B Wrong
after (Err why) further = Err why
after (Ok a) further = further a

-- a panic, at which the process stays as it is
abbrev pub panics : List ℕ → Process → Outcome
panics text p = Ok (Panics text, p)

-- a panic where there is a text for one
unfoldable pub unless_text : Option (List ℕ) → Process → Outcome → Outcome
unless_text None p further = further
unless_text (Some text) p further = panics text p

-- the panic text of a limit, where so many are more than its number
abbrev pub passed : Limit → ℕ → List ℕ → Option (List ℕ)
passed limit count limits = if nat_lt (limit_of limit limits) count then panic_text limit else None

-- a wanted action, at which the process is left so
abbrev pub wants : Action Parcel → Process → Outcome
wants action p = Ok (Wants action, p)

-- the step was made, and the innermost frame goes on at a place
abbrev pub went : ℕ → Process → Outcome
went next p = Ok (Went, record p { frames = at_place next p.frames; ran = p.ran + 1 })

-- the step was made, and no place moves
abbrev pub stays : Process → Outcome
stays p = Ok (Went, record p { ran = p.ran + 1 })

-- the step was made, and the innermost frame goes on at a place where no drop waits; else the last drop moves it
unfoldable pub settles : ℕ → List Value → Process → Outcome
settles next [] p = went next p
settles next (value ∷ others) p = stays p

-- the register has to be there
abbrev pub has : ℕ → Process → Outcome → Outcome
has number p further = given wrong.Absent (register p.frames number) (λ had. further)

-- the value in a register
abbrev pub reads : ℕ → Process → (Value → Outcome) → Outcome
reads number p further = after (held (register p.frames number)) further

-- a process with a register set
abbrev pub put : ℕ → Value → Process → Process
put number value p = record p { frames = with_register number value p.frames }

-- a process with other objects
abbrev pub with_objects : Objects → Process → Process
with_objects objects p = record p { objects = objects }

-- the instruction in work of the innermost frame
abbrev pub current : Code → List Frame → Option Instr
current code [] = None
current code (frame ∷ outer) = fetch code frame.method frame.place

-- the place behind it
abbrev pub next_place : List Frame → ℕ
next_place [] = 0
next_place (frame ∷ outer) = frame.place + 1
