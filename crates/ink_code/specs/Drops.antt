-- Drops: those that instructions ask for, and those that wait.
use Rattle.std.specs.Prelude.{ℕ, List, ◌∷◌, ◌++◌}
use Rattle.std.specs.FinMap.{remove}
use Rattle.ink_base.specs.declared.value.Value.{Value}
use Rattle.ink_base.specs.declared.value.Value.TheVariants as v
use Rattle.ink_base.specs.Actions as action
use Rattle.ink_code.specs.declared.code.Code.{Code}
use Rattle.ink_code.specs.declared.wrong.Wrong.TheVariants as wrong
use Rattle.ink_code.specs.Machine.{Outcome, given, after, went, stays, settles, wants, reads, put, current, next_place}
use Rattle.ink_code.specs.Makes.{gives_up}
use Rattle.ink_base.specs.Objects.{Objects}
use Rattle.ink_code.specs.Objects.{object_at, after_borrow}
use Rattle.ink_code.specs.Process.{Process, register}

-- the value of a register waits to be dropped; the frame goes on when that is done
abbrev pub waits : ℕ → Value → Process → Outcome
waits from value p = let emptied = put from v.Empty p in stays (record emptied { pending = value ∷ p.pending })

-- a value is dropped
unfoldable pub drop_step : ℕ → Process → Outcome
drop_step from p = reads from p (λ value. waits from value p)

abbrev pub drop_if : ℕ → ℕ → Value → Process → Outcome
drop_if next from v.Empty p = went next p
drop_if next from value p = waits from value p

-- a value is dropped where there is one
unfoldable pub drop_maybe_step : ℕ → ℕ → Process → Outcome
drop_maybe_step next from p = given wrong.Absent (register p.frames from) (λ value. drop_if next from value p)

-- the drop in work is done, with these objects, and these drops are left: the last one lets the frame go on
abbrev pub dropped : Code → Objects → List Value → Process → Outcome
dropped code objects left p =
    given wrong.Absent (current code p.frames) (λ instr. settles (next_place p.frames) left (record p { objects = objects; pending = left }))

-- the drop that is next: of an owner its object goes, and the object's fields are dropped next; a borrow ends; of a
-- promise its future is to be broken; any other value goes
unfoldable pub drop_next : Code → Value → List Value → Process → Outcome
drop_next code (v.Own id) left p =
    after (object_at p.objects id) (λ found. gives_up code found p (dropped code (remove p.objects id) (found.fields ++ left) p))
drop_next code (v.Bor id) left p = after (after_borrow id p.objects) (λ objects. dropped code objects left p)
drop_next code (v.Promise future) left p = wants (action.BreakFuture future) p
drop_next code (v.Int number) left p = dropped code p.objects left p
drop_next code (v.Bool truth) left p = dropped code p.objects left p
drop_next code v.Nil left p = dropped code p.objects left p
drop_next code (v.Txt text) left p = dropped code p.objects left p
drop_next code (v.Proc process) left p = dropped code p.objects left p
drop_next code (v.Future future) left p = dropped code p.objects left p
drop_next code v.Empty left p = dropped code p.objects left p
