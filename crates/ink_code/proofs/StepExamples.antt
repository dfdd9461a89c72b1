-- What small runs of the code machine come to.
use Rattle.std.proofs.Common.{◌≡◌, ℕ, suc, ◌+◌, pos, true, Some, Ok, Err, [], ◌∷◌, refl, replicate, lit<}
use Rattle.std.specs.Prelude.{codes, slice_get}
use Rattle.std.specs.FinMap.{get, remove, len, empty}
use Rattle.std.specs.Ordering.{is_eq}
use Rattle.ink_base.specs.declared.ident.ObjectId.{ObjectId}
use Rattle.ink_base.specs.declared.value.Value.TheVariants as v
use Rattle.ink_base.specs.Actions as action
use Rattle.ink_base.specs.Ident.{id_cmp}
use Rattle.ink_base.specs.Limits.{default_numbers}
use Rattle.ink_base.specs.Panics.{drop_text}
use Rattle.ink_code.specs.declared.code.Code.{Code}
use Rattle.ink_code.specs.declared.instr.Instr.{Instr}
use Rattle.ink_code.specs.declared.instr.Instr.TheVariants as i
use Rattle.ink_code.specs.declared.method.Method.{Method}
use Rattle.ink_code.specs.declared.wrong.Wrong.TheVariants as wrong
use Rattle.ink_code.specs.Calls.{invoke_step, return_step}
use Rattle.ink_code.specs.Drops.{drop_step, drop_next}
use Rattle.ink_code.specs.Machine.{Went, Wants, Panics, Spent, given, when, unless_text, after, settles, current}
use Rattle.ink_code.specs.Moves.{const_step, move_step, jump_step}
use Rattle.ink_base.specs.Objects.{Objects}
use Rattle.ink_code.specs.Objects.{object_at}
use Rattle.ink_code.specs.Process.{Process, register, with_register, at_place, taken_out}
use Rattle.ink_code.specs.Slice.{slice_of}
use Rattle.ink_code.specs.Trees.{is_under, meets}
use Rattle.ink_code.specs.Step.{code_step, free_step, top_step, instr_step}

-- a code with one method
abbrev code_of : Method → Code
code_of method =
    record {
      methods = method ∷ [];
      constants = v.Int (pos 7) ∷ v.Bool true ∷ [];
      kinds = codes "Main" ∷ [];
      impls = [];
      main_kind = 0;
      main = 0;
    }

-- a process in the first instruction of the first method, with two empty registers
abbrev first : Process
first =
    record {
      number = 1;
      kind = 0;
      made = 1;
      frames = (record { method = 0; place = 0; registers = v.Empty ∷ v.Empty ∷ [] }) ∷ [];
      objects = empty;
      pending = [];
      ran = 0;
    }

-- a constant that is moved and returned
abbrev returning : Method
returning =
    record { name = codes "Main.main"; registers = 2; body = i.Const 0 0 ∷ i.Move 1 0 ∷ i.Return 1 ∷ []; lines = []; counted = lit< tt }

moved_on : slice_of 2 (code_of returning) default_numbers first ≡ Ok (Went, record first { frames = (record { method = 0; place = 2; registers = v.Empty ∷ v.Int (pos 7) ∷ [] }) ∷ []; ran = 2 })
unfolding slice_of code_step free_step top_step instr_step const_step move_step register with_register at_place given when after
moved_on = refl

returned : slice_of 9 (code_of returning) default_numbers first ≡ Ok (Wants action.Take, record first { frames = []; ran = 3 })
unfolding slice_of code_step free_step top_step instr_step const_step move_step return_step register with_register at_place given when after
returned = refl

-- a value that was moved away is no operand
abbrev moving_twice : Method
moving_twice =
    record { name = codes "Main.main"; registers = 2; body = i.Const 0 0 ∷ i.Move 1 0 ∷ i.Move 1 0 ∷ []; lines = []; counted = lit< tt }

moved_away : slice_of 3 (code_of moving_twice) default_numbers first ≡ Err wrong.Empty
unfolding slice_of code_step free_step top_step instr_step const_step move_step register with_register at_place given when after
moved_away = refl

-- a jump to itself, with five steps at most
abbrev jumping : Method
jumping = record { name = codes "Main.main"; registers = 2; body = i.Jump 0 ∷ []; lines = []; counted = lit< tt }

spent : slice_of 9 (code_of jumping) (replicate 14 5) first ≡ Ok (Spent 5, record first { ran = 5 })
unfolding slice_of code_step free_step top_step instr_step jump_step at_place given when
spent = refl

-- past the end of a body there is no instruction
abbrev ending : Method
ending = record { name = codes "Main.main"; registers = 2; body = i.Jump 1 ∷ []; lines = []; counted = lit< tt }

past_the_end : slice_of 9 (code_of ending) default_numbers first ≡ Err wrong.Absent
unfolding slice_of code_step free_step top_step instr_step jump_step at_place given when
past_the_end = refl

-- the place stays at a drop until the value is dropped
abbrev dropping : Method
dropping = record { name = codes "Main.main"; registers = 2; body = i.Const 0 0 ∷ i.Drop 0 ∷ []; lines = []; counted = lit< tt }

drop_waits : slice_of 2 (code_of dropping) default_numbers first ≡ Ok (Went, record first { frames = (record { method = 0; place = 1; registers = v.Empty ∷ v.Empty ∷ [] }) ∷ []; pending = v.Int (pos 7) ∷ []; ran = 2 })
unfolding slice_of code_step free_step top_step instr_step const_step drop_step register with_register at_place given when after
drop_waits = refl

drop_done : slice_of 3 (code_of dropping) default_numbers first ≡ Ok (Went, record first { frames = (record { method = 0; place = 2; registers = v.Empty ∷ v.Empty ∷ [] }) ∷ []; ran = 3 })
unfolding slice_of code_step free_step top_step instr_step const_step drop_step drop_next register with_register at_place given when after settles
drop_done = refl

-- a method that calls itself, with two frames at most
abbrev calling : Method
calling = record { name = codes "Main.main"; registers = 2; body = i.Invoke 0 0 [] ∷ []; lines = []; counted = lit< tt }

frames_at_their_limit : slice_of 9 (code_of calling) (replicate 14 2) first ≡ Ok (Panics (codes "limit reached: frames"), record first { frames = (record { method = 0; place = 0; registers = v.Empty ∷ v.Empty ∷ [] }) ∷ (record { method = 0; place = 0; registers = v.Empty ∷ v.Empty ∷ [] }) ∷ []; ran = 1 })
unfolding slice_of code_step free_step top_step instr_step invoke_step register with_register at_place taken_out given when unless_text after
frames_at_their_limit = refl

-- an object that owns another: it goes at once, and what it owned is dropped next
nested_drop : (p : Process) (outer inner : ObjectId) (instr : Instr) (code : Code) → current code p.frames ≡ Some instr → get p.objects outer ≡ Some (record { kind = 3; tag = 0; fields = v.Own inner ∷ []; count = 0 }) → drop_next code (v.Own outer) [] p ≡ Ok (Went, record p { objects = remove p.objects outer; pending = v.Own inner ∷ []; ran = p.ran + 1 })
unfolding drop_next object_at after when given settles
nested_drop p outer inner instr code stands found = rw (found, stands) refl

-- a borrow that is counted makes the drop a panic
borrow_blocks : (p : Process) (id : ObjectId) (code : Code) → slice_get code.kinds 3 ≡ Some (codes "Cat") → get p.objects id ≡ Some (record { kind = 3; tag = 0; fields = []; count = 2 }) → drop_next code (v.Own id) [] p ≡ Ok (Panics (drop_text (codes "Cat") 2), p)
unfolding drop_next object_at after when given settles
borrow_blocks p id code named found = rw (found, named) refl

-- a store of a value under an object that is in the value's own tree is a panic
cycle_found : (objects : Objects) (id : ObjectId) → is_eq (id_cmp id id) ≡ true → (n : ℕ) → len objects ≡ suc n → is_under id (v.Own id) objects ≡ true
unfolding is_under meets
cycle_found objects id same n count = rw (count, same) refl
