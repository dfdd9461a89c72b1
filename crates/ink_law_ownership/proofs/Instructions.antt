-- What each instruction leaves of a process.
use Rattle.std.proofs.Common.{◌≡◌, ℕ, Option, Some, None, List, [], ◌∷◌, refl, arith, ap}
use Rattle.std.proofs.lemmas.Result.{IfOk-at_ok}
use Rattle.ink_base.specs.declared.object.Object.{Object}
use Rattle.ink_base.specs.declared.value.Value.{Value}
use Rattle.ink_base.specs.declared.value.Value.TheVariants as v
use Rattle.ink_base.specs.Actions.{Action}
use Rattle.ink_base.specs.Actions as action
use Rattle.ink_base.specs.Objects.{Objects, with_field}
use Rattle.ink_code.specs.declared.code.Code.{Code}
use Rattle.ink_code.specs.declared.frame.Frame.{Frame}
use Rattle.ink_code.specs.declared.wrong.Wrong.TheVariants as wrong
use Rattle.ink_code.specs.Calls.{invoke_step, invoke_bound_step, return_step, returns_to, ends}
use Rattle.ink_code.specs.Drops.{drop_step, drop_maybe_step, drop_if, drop_next, dropped, waits}
use Rattle.ink_code.specs.Kinds.{array_kind}
use Rattle.ink_code.specs.Machine.{Wants, Outcome, unless_text, went, wants, put, next_place}
use Rattle.ink_code.specs.Makes.{make_step, make_array_step, makes, load_step, load_borrow_step, store_step, tag_step, take_apart_step, gives_up}
use Rattle.ink_code.specs.Moves.{const_step, move_step, copy_step, copies, borrow_step, exchange_step, my_proc_step, jump_step, jump_if_step, panic_step}
use Rattle.ink_code.specs.Objects.{lent}
use Rattle.ink_code.specs.Owned.{times_there}
use Rattle.ink_code.specs.Prims.{prim_step, tells}
use Rattle.ink_code.specs.Process.{Process}
use Rattle.ink_code.specs.Rows.{Computed, Gives, Raises}
use Rattle.ink_law_ownership.proofs.Counts.{NoMore-copy, NoMore-borrow, NoMore-changed, NoMore-remove}
use Rattle.ink_law_ownership.proofs.Kept.{Same, Kept, StepOf, same_itself, same_with, kept_same, kept_made, went_right, stays_right, settles_right, panics_right, idle}
use Rattle.ink_law_ownership.proofs.Right.{Right, right, wrong, given_right, after_right, when_right}
use Rattle.ink_law_ownership.proofs.Rows.{row_right}

-- a process of which only registers, places and drops that wait are others
abbrev NoChange : Process → Process → Type 0
NoChange p q = Same p q

unless_right : (text : Option (List ℕ)) (p : Process) {further : Outcome} → Right (StepOf p) further → Right (StepOf p) (unless_text text p further)
unfolding unless_text
unless_right None p h = h
unless_right (Some text) p h = panics_right text p

went_same : (next : ℕ) (p q : Process) → Same p q → Right (StepOf p) (went next q)
went_same next p q s = went_right next p q (kept_same p q s)

-- with other frames and drops alone
frames_same : (p q : Process) → q.number ≡ p.number → q.kind ≡ p.kind → q.ran ≡ p.ran → q.made ≡ p.made → q.objects ≡ p.objects → Same p q
frames_same p q number kind ran made objects = record {
  number = number;
  kind = kind;
  ran = ran;
  made = made;
  objects = λ id. let same = ap (times_there id) objects in omega arith;
}

-- moves

pub const_right : (code : Code) (next to constant : ℕ) (p : Process) → Right (StepOf p) (const_step code next to constant p)
unfolding const_step
const_right code next to constant p = given_right _ (λ had h. given_right _ (λ value is. after_right (λ plain k.
    went_same next p _ (frames_same p _ refl refl refl refl refl))))

pub move_right : (next to from : ℕ) (p : Process) → Right (StepOf p) (move_step next to from p)
unfolding move_step
move_right next to from p = given_right _ (λ had h. after_right (λ value is. went_same next p _ (frames_same p _ refl refl refl refl refl)))

copies_right : (next to : ℕ) (value : Value) (p : Process) → Right (StepOf p) (copies next to value p)
copies_right next to value p = after_right (λ objects is.
    went_same next p _ (same_with p p _ (same_itself p) refl refl refl refl (NoMore-copy value p.objects objects is)))

pub copy_right : (next to from : ℕ) (p : Process) → Right (StepOf p) (copy_step next to from p)
unfolding copy_step
copy_right next to from p = given_right _ (λ had h. after_right (λ value is. copies_right next to value p))

pub borrow_right : (next to from : ℕ) (p : Process) → Right (StepOf p) (borrow_step next to from p)
unfolding borrow_step
borrow_right next to from p = given_right _ (λ had h. after_right (λ value is. copies_right next to (lent value) p))

pub exchange_right : (next one other : ℕ) (p : Process) → Right (StepOf p) (exchange_step next one other p)
unfolding exchange_step
exchange_right next one other p = given_right _ (λ had h. given_right _ (λ has k. went_same next p _ (frames_same p _ refl refl refl refl refl)))

pub my_proc_right : (next to : ℕ) (p : Process) → Right (StepOf p) (my_proc_step next to p)
unfolding my_proc_step
my_proc_right next to p = given_right _ (λ had h. went_same next p _ (frames_same p _ refl refl refl refl refl))

pub jump_right : (place : ℕ) (p : Process) → Right (StepOf p) (jump_step place p)
unfolding jump_step
jump_right place p = went_same place p p (same_itself p)

pub jump_if_right : (next on place : ℕ) (p : Process) → Right (StepOf p) (jump_if_step next on place p)
unfolding jump_if_step
jump_if_right next on place p = after_right (λ value is. after_right (λ truth k. went_same _ p p (same_itself p)))

pub panic_right : (text : ℕ) (p : Process) → Right (StepOf p) (panic_step text p)
unfolding panic_step
panic_right text p = after_right (λ value is. after_right (λ told k. panics_right told p))

-- objects

makes_right : (next to kind tag : ℕ) (p : Process) (parts : List Value × List Frame) → Right (StepOf p) (makes next to kind tag p parts)
makes_right next to kind tag p parts =
    let q : Process = record p { frames = parts.1 } in
    let k = kept_made p q kind tag parts.0 (frames_same p q refl refl refl refl refl) in
    went_right next p _ (record { number = k.number; kind = k.kind; ran = k.ran; names = record { made = k.names.made; names = k.names.names } })

pub make_right : (limits : List ℕ) (next to kind tag : ℕ) (fields : List ℕ) (p : Process) → Right (StepOf p) (make_step limits next to kind tag fields p)
unfolding make_step
make_right limits next to kind tag fields p = given_right _ (λ had h. unless_right _ p (after_right (λ parts is. makes_right next to kind tag p parts)))

pub make_array_right : (limits : List ℕ) (next to : ℕ) (items : List ℕ) (p : Process) → Right (StepOf p) (make_array_step limits next to items p)
unfolding make_array_step
make_array_right limits next to items p = given_right _ (λ had h. unless_right _ p (unless_right _ p (after_right (λ parts is. makes_right next to array_kind 0 p parts))))

pub load_right : (next to object field : ℕ) (p : Process) → Right (StepOf p) (load_step next to object field p)
unfolding load_step
load_right next to object field p = given_right _ (λ had h. after_right (λ named is. after_right (λ id k. after_right (λ value l. copies_right next to value p))))

pub load_borrow_right : (next to object field : ℕ) (p : Process) → Right (StepOf p) (load_borrow_step next to object field p)
unfolding load_borrow_step
load_borrow_right next to object field p = given_right _ (λ had h. after_right (λ named is. after_right (λ id k. after_right (λ value l. copies_right next to (lent value) p))))

pub store_right : (next to object field from : ℕ) (p : Process) → Right (StepOf p) (store_step next to object field from p)
unfolding store_step
store_right next to object field from p = given_right _ (λ had h. after_right (λ named is. after_right (λ id k. after_right (λ value l. after_right (λ old m.
    when_right _ (panics_right _ p) (went_same next p _ (same_with p p _ (same_itself p) refl refl refl refl (NoMore-changed p.objects id (with_field field value)))))))))

pub tag_right : (next to object : ℕ) (p : Process) → Right (StepOf p) (tag_step next to object p)
unfolding tag_step
tag_right next to object p = given_right _ (λ had h. after_right (λ named is. after_right (λ id k. after_right (λ found l.
    went_same next p _ (frames_same p _ refl refl refl refl refl)))))

gives_up_right : (code : Code) (found : Object) (p : Process) {further : Outcome} → Right (StepOf p) further → Right (StepOf p) (gives_up code found p further)
gives_up_right code found p h = when_right _ (given_right _ (λ name is. panics_right _ p)) h

pub take_apart_right : (code : Code) (next : ℕ) (to : List ℕ) (object : ℕ) (p : Process) → Right (StepOf p) (take_apart_step code next to object p)
unfolding take_apart_step
take_apart_right code next to object p = after_right (λ value is. after_right (λ id k. after_right (λ found l. gives_up_right code found p
    (after_right (λ frames m. went_same next p _ (same_with p p _ (same_itself p) refl refl refl refl (NoMore-remove p.objects id)))))))

-- drops

waits_right : (from : ℕ) (value : Value) (p : Process) → Right (StepOf p) (waits from value p)
waits_right from value p = stays_right p _ (kept_same p _ (frames_same p _ refl refl refl refl refl))

pub drop_right : (from : ℕ) (p : Process) → Right (StepOf p) (drop_step from p)
unfolding drop_step
drop_right from p = after_right (λ value is. waits_right from value p)

drop_if_right : (next from : ℕ) (value : Value) (p : Process) → Right (StepOf p) (drop_if next from value p)
drop_if_right next from v.Empty p = went_same next p p (same_itself p)
drop_if_right next from (v.Int number) p = waits_right from _ p
drop_if_right next from (v.Bool truth) p = waits_right from _ p
drop_if_right next from v.Nil p = waits_right from _ p
drop_if_right next from (v.Txt text) p = waits_right from _ p
drop_if_right next from (v.Own id) p = waits_right from _ p
drop_if_right next from (v.Bor id) p = waits_right from _ p
drop_if_right next from (v.Proc process) p = waits_right from _ p
drop_if_right next from (v.Future future) p = waits_right from _ p
drop_if_right next from (v.Promise future) p = waits_right from _ p

pub drop_maybe_right : (next from : ℕ) (p : Process) → Right (StepOf p) (drop_maybe_step next from p)
unfolding drop_maybe_step
drop_maybe_right next from p = given_right _ (λ value is. drop_if_right next from value p)

dropped_right : (code : Code) (objects : Objects) (left : List Value) (p : Process) → Same p (record p { objects = objects; pending = left }) → Right (StepOf p) (dropped code objects left p)
dropped_right code objects left p s = given_right _ (λ instr is. settles_right (next_place p.frames) left p _ (kept_same p _ s))

-- an action with which nothing goes out
break_right : (future : ℕ) (p : Process) → Right (StepOf p) (wants (action.BreakFuture future) p)
break_right future p = right (StepOf p) (Wants (action.BreakFuture future), p) (record { number = refl; kind = refl; ran = omega arith; names = idle p; gives = refl })

pub drop_next_right : (code : Code) (value : Value) (left : List Value) (p : Process) → Right (StepOf p) (drop_next code value left p)
unfolding drop_next
drop_next_right code (v.Own id) left p = after_right (λ found is. gives_up_right code found p
    (dropped_right code _ _ p (same_with p p _ (same_itself p) refl refl refl refl (NoMore-remove p.objects id))))
drop_next_right code (v.Bor id) left p = after_right (λ objects is.
    dropped_right code objects left p (same_with p p _ (same_itself p) refl refl refl refl (NoMore-borrow id p.objects objects is)))
drop_next_right code (v.Promise future) left p = break_right future p
drop_next_right code (v.Int number) left p = dropped_right code _ left p (frames_same p _ refl refl refl refl refl)
drop_next_right code (v.Bool truth) left p = dropped_right code _ left p (frames_same p _ refl refl refl refl refl)
drop_next_right code v.Nil left p = dropped_right code _ left p (frames_same p _ refl refl refl refl refl)
drop_next_right code (v.Txt text) left p = dropped_right code _ left p (frames_same p _ refl refl refl refl refl)
drop_next_right code (v.Proc process) left p = dropped_right code _ left p (frames_same p _ refl refl refl refl refl)
drop_next_right code (v.Future future) left p = dropped_right code _ left p (frames_same p _ refl refl refl refl refl)
drop_next_right code v.Empty left p = dropped_right code _ left p (frames_same p _ refl refl refl refl refl)

-- calls

pub invoke_right : (code : Code) (limits : List ℕ) (to method : ℕ) (arguments : List ℕ) (p : Process) → Right (StepOf p) (invoke_step code limits to method arguments p)
unfolding invoke_step
invoke_right code limits to method arguments p = given_right _ (λ had h. given_right _ (λ called is. unless_right _ p (after_right (λ parts k.
    stays_right p _ (kept_same p _ (frames_same p _ refl refl refl refl refl))))))

pub invoke_bound_right : (code : Code) (limits : List ℕ) (to slot : ℕ) (arguments : List ℕ) (p : Process) → Right (StepOf p) (invoke_bound_step code limits to slot arguments p)
unfolding invoke_bound_step
invoke_bound_right code limits to slot arguments p = given_right _ (λ first h. after_right (λ value is. after_right (λ id k. after_right (λ found l. given_right _ (λ method m.
    invoke_right code limits to method arguments p)))))

returns_right : (code : Code) (value : Value) (outer : List Frame) (p : Process) → Right (StepOf p) (returns_to code value outer p)
returns_right code value [] p = stays_right p _ (kept_same p _ (frames_same p _ refl refl refl refl refl))
returns_right code value (frame ∷ outer) p = given_right _ (λ to is. stays_right p _ (kept_same p _ (frames_same p _ refl refl refl refl refl)))

ends_right : (code : Code) (from : ℕ) (frames : List Frame) (p : Process) → Right (StepOf p) (ends code from frames p)
ends_right code from [] p = wrong (StepOf p) wrong.Absent
ends_right code from (frame ∷ outer) p = after_right (λ value is. returns_right code value outer p)

pub return_right : (code : Code) (from : ℕ) (p : Process) → Right (StepOf p) (return_step code from p)
unfolding return_step
return_right code from p = ends_right code from p.frames p

-- a row

told_right : (next to : ℕ) (p : Process) (computed : Computed) (q : Process) → Kept p q → Right (StepOf p) (tells next to p (computed, q))
told_right next to p (Gives value) q k =
    settles_right next q.pending p (put to value q) (record { number = k.number; kind = k.kind; ran = k.ran; names = record { made = k.names.made; names = k.names.names } })
told_right next to p (Raises text) q k = panics_right text p

pub prim_right : (code : Code) (limits : List ℕ) (next row to : ℕ) (operands : List ℕ) (p : Process) → Right (StepOf p) (prim_step code limits next row to operands p)
unfolding prim_step
prim_right code limits next row to operands p = given_right _ (λ had h. after_right (λ parts is. after_right (λ told k.
    let kept = IfOk-at_ok (λ (t : Computed × Process). Kept (record p { frames = parts.1 }) t.1) k ((row_right code limits row parts.0 (record p { frames = parts.1 })).holds) in
    told_right next to p told.0 told.1 (record { number = kept.number; kind = kept.kind; ran = kept.ran; names = record { made = kept.names.made; names = kept.names.names } }))))
