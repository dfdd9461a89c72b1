-- The code of each form, over the pieces that its parts are.
use Rattle.std.specs.Prelude.{◌+◌, ◌++◌, ◌∷◌, ◌&&◌, ◌||◌, ◌==◌, not, ℕ, zero, suc, Bool, true, false, List, [], Option, None, Some, filter, map, if◌then◌else◌}
use Rattle.ink_code.specs.declared.instr.Instr.{Instr}
use Rattle.ink_code.specs.declared.instr.Instr.TheVariants as i
use Rattle.ink_findings.specs.declared.typed.Target.{Target}
use Rattle.ink_findings.specs.declared.typed.Target.TheVariants as target
use Rattle.ink_emit.specs.declared.given.Given.{Given}
use Rattle.ink_emit.specs.declared.given.Given.TheVariants as given
use Rattle.ink_emit.specs.declared.held.Holding.TheVariants as holding
use Rattle.ink_exits.specs.Scopes.{number_of_pat}
use Rattle.ink_forms.specs.declared.word.Literal.{Literal}
use Rattle.ink_forms.specs.declared.word.Literal.TheVariants as literal
use Rattle.ink_forms.specs.declared.expr.Binding.{Binding}
use Rattle.ink_forms.specs.declared.expr.Binding.TheVariants as binding
use Rattle.ink_forms.specs.Trees.{Pat, Term, Var, SelfValue, Field}
use Rattle.ink_plan.specs.declared.plan.How.{How}
use Rattle.ink_layout.specs.Pieces.{Site, Made, Piece, at_its_place, behind, choose, does, drop_by, drop_unless_value, drops_held, ends_held, from_mark, giving, goes_on, holds, leaves, leaves_variables, next, next_by_failure, nothing, onward, puts, released, stated, takes_operands, then_held, then_with, told_its_end, unless_ended, with_free}
use Rattle.ink_layout.specs.PatternCode.{bind, binds, is_tested, tests, views}
use Rattle.ink_layout.specs.Terms.{number_of, is_self}

-- A guard in force: the pattern of its arm, and the register of what is matched.
pub record Guarded : Type 0 where
  pub pattern : Pat
  pub register : ℕ

-- A loop: the place where it starts, how many registers are held there, and the place behind it.
pub record Turn : Type 0 where
  pub start : ℕ
  pub mark : ℕ
  pub end : ℕ

-- where a form stands: the guards in force, and the innermost loop
pub record Around : Type 0 where
  pub guards : List Guarded
  pub turn : Option Turn

abbrev pub guarded : Pat → ℕ → Around → Around
guarded p r a = record { guards = a.guards ++ record { pattern = p; register = r } ∷ []; turn = a.turn }

abbrev pub looped : Turn → Around → Around
looped t a = record { guards = a.guards; turn = Some t }

-- The code of a part as a value, and that of its root where it stands in a path.
pub record Worked : Type 0 where
  pub value : Piece
  pub root : Piece

abbrev pub as_value : Piece → Worked
as_value a = record { value = a; root = a }

-- literals, variables and `self`

-- nil stands in no register yet
abbrev pub literal_form : Site → Literal → Piece
literal_form m literal.Nil = nothing
literal_form m x = puts m (λ to. i.Const to (m.constant x))

-- by its type as it is seen a value is copied, a borrow is borrowed, and an owner is moved
abbrev pub taken : Site → ℕ → ℕ → ℕ → Instr
taken m n to from = if m.is_value n then i.Copy to from else (if m.is_borrow n then i.Borrow to from else i.Move to from)

-- a variable that the pattern of a guard's arm binds is read out of what is matched
abbrev pub viewed : Site → List Guarded → ℕ → (Piece → Piece) → Piece → Piece
viewed m [] variable seen other = other
viewed m (g ∷ gs) variable seen other =
    choose (binds m variable g.pattern) (seen (views m variable g.pattern g.register)) (viewed m gs variable seen other)

abbrev pub variable_form : Site → Around → ℕ → Piece
variable_form m a n = viewed m a.guards (m.variable n) (λ x. x) (puts m (λ to. taken m n to (m.register (m.variable n))))

-- in an async type it is the reference to this process
abbrev pub self_form : Site → ℕ → Piece
self_form m n = puts m (λ to. if m.is_value n then i.MyProc to else taken m n to 0)

-- paths

-- what came of a root before the arguments or the written value: it is read late, is held to the end of the statement, or
-- is an operand
pub data Root : Type 0 where
  Late : Root
  Kept : ℕ → Root
  Taken : ℕ → Root

-- where what a path names is found: in a register that stays, in the free one, or in that of an operand
pub data Base : Type 0 where
  Stays : ℕ → Base
  Fresh : ℕ → Base
  Operand : ℕ → Base

abbrev pub register_of : Base → ℕ
register_of (Stays r) = r
register_of (Fresh r) = r
register_of (Operand r) = r

abbrev pub found_root : Root → Base
found_root Late = Stays 0
found_root (Kept r) = Stays r
found_root (Taken r) = Operand r

abbrev pub is_some : {X : Type 0} → Option X → Bool
is_some None = false
is_some (Some x) = true

abbrev pub is_call : Site → ℕ → Bool
is_call m n = is_some (m.call n)

-- whether a path's root is a variable or `self`, which is read late
abbrev pub is_late : Site → Term → Bool
is_late m (Var s x) = true
is_late m (SelfValue s) = true
is_late m (Field s x t) = not (is_call m s.number) && is_late m t
is_late m t = false

-- whether a path is its own root
abbrev pub is_whole : Site → Term → Bool
is_whole m (Field s x t) = is_call m s.number
is_whole m t = true

-- the number of a path's root
abbrev pub root_number : Site → Term → ℕ
root_number m (Field s x t) = if is_call m s.number then s.number else root_number m t
root_number m t = number_of t

-- A root that isn't late is worked first and held: as an operand where the call takes it away or it is of a value type, and
-- to the end of the statement elsewhere.
abbrev pub root_form : Site → ℕ → Term → Worked → (Root → Piece) → Piece
root_form m n t part rest =
    choose (is_late m t) (rest Late)
    (then_with m part.root
    (λ r.
    choose (is_whole m t && m.takes n || m.is_value (root_number m t))
    (behind (holds holding.Operand r) (rest (Taken r)))
    (behind (holds holding.Temporary r) (rest (Kept r)))))

-- a value of a field is read as it is, and of anything else a borrow
abbrev pub field_read : Site → ℕ → Base → Piece
field_read m n object = puts m (λ to. if m.is_value n then i.Load to (register_of object) (m.place n) else i.LoadBorrow to (register_of object) (m.place n))

-- what was read of a path: a value in the free register, or a borrow that is held to the end of the statement
abbrev pub kept : Site → ℕ → (Base → Piece) → ℕ → Piece
kept m n rest r = choose (m.is_value n) (rest (Fresh r)) (behind (holds holding.Temporary r) (rest (Stays r)))

-- what a path names is found behind its root, and then the rest
abbrev pub found : Site → Around → Term → Root → (Base → Piece) → Piece
found m a (Var s x) root rest =
    viewed m a.guards (m.variable s.number) (λ view. then_with m view (kept m s.number rest)) (rest (Stays (m.register (m.variable s.number))))
found m a (SelfValue s) root rest = rest (Stays 0)
found m a (Field s x t) root rest =
    choose (is_call m s.number) (rest (found_root root)) (found m a t root (λ object. then_with m (field_read m s.number object) (kept m s.number rest)))
found m a t root rest = rest (found_root root)

-- calls

abbrev pub first_of : List ℕ → ℕ
first_of [] = 0
first_of (x ∷ xs) = x

abbrev pub without : ℕ → List ℕ → List ℕ
without r xs = filter (λ x. not (x == r)) xs

-- values that are held as operands, in order, and then the rest
abbrev pub operands_form : Site → List Piece → Piece → Piece
operands_form m [] rest = rest
operands_form m (x ∷ xs) rest = then_held m holding.Operand x (operands_form m xs rest)

-- how a receiver in a register that stays comes to be an operand: it is moved where the method takes it away, copied where
-- it is a value, and else borrowed
abbrev pub receiver_read : Site → ℕ → Term → ℕ → ℕ → Instr
receiver_read m n t to from =
    if m.takes n then i.Move to from else (if m.is_value (number_of t) && not (is_self t) then i.Copy to from else i.Borrow to from)

abbrev pub receiver_form : Site → ℕ → Term → (ℕ → Piece) → Base → Piece
receiver_form m n t rest (Operand r) = rest r
receiver_form m n t rest (Fresh r) = behind (holds holding.Operand r) (rest r)
receiver_form m n t rest (Stays from) =
    with_free m (λ to. behind (does (receiver_read m n t to from ∷ [])) (behind (holds holding.Operand to) (rest to)))

-- the receiver and the other operands of a call, which are those behind the first so many that are held
abbrev pub with_operands : Site → Around → ℕ → Term → ℕ → Root → (ℕ → List ℕ → Piece) → Piece
with_operands m a n t mark root rest =
    found m a t root (receiver_form m n t (λ r. takes_operands mark (λ all. rest r (without r all))))

-- a message; `self` is the reference to this process
abbrev pub message_form : Site → Around → ℕ → Term → ℕ → Root → ℕ → Piece
message_form m a n t mark root method =
    choose (is_self t)
    (with_free m
    (λ to.
    behind (does (i.MyProc to ∷ []))
    (behind (holds holding.Operand to) (takes_operands mark (λ all. does (i.Send to method (without to all) ∷ []))))))
    (with_operands m a n t mark root (λ r others. does (i.Send r method others ∷ [])))

-- the rows that are actions, by their numbers in the table of built-in methods
abbrev pub future_get : ℕ
future_get = 43

abbrev pub promise_set : ℕ
promise_set = 44

abbrev pub future_new : ℕ
future_new = 45

abbrev pub stdout_print : ℕ
stdout_print = 46

-- a built-in method; of the receiver of `print` nothing is asked but to find it
abbrev pub row_form : Site → Around → ℕ → Term → ℕ → Root → ℕ → Piece
row_form m a n t mark root row =
    choose (row == stdout_print) (found m a t root (λ object. takes_operands mark (λ all. does (i.Print (first_of all) ∷ []))))
    (with_operands m a n t mark root
    (λ r others.
    choose (row == future_get) (puts m (λ to. i.FutureGet to r))
    (choose (row == promise_set) (does (i.PromiseSet r (first_of others) ∷ []))
    (puts m (λ to. i.Prim row to (r ∷ others))))))

abbrev pub target_form : Site → Around → ℕ → Term → ℕ → Root → Option Target → Piece
target_form m a n t mark root None = nothing
target_form m a n t mark root (Some (target.Method method)) =
    choose (m.is_message n) (message_form m a n t mark root method)
    (with_operands m a n t mark root (λ r others. puts m (λ to. i.Invoke to method (r ∷ others))))
target_form m a n t mark root (Some (target.Bound slot)) = with_operands m a n t mark root (λ r others. puts m (λ to. i.InvokeBound to slot (r ∷ others)))
target_form m a n t mark root (Some (target.Row row)) = row_form m a n t mark root row

-- a call on a receiver: its root, the arguments, the receiver, and the call
abbrev pub call_form : Site → Around → ℕ → Term → Worked → List Piece → Piece
call_form m a n t part arguments =
    from_mark (λ mark. root_form m n t part (λ root. operands_form m arguments (target_form m a n t mark root (m.call n))))

-- a field, or a call without arguments
abbrev pub field_form : Site → Around → ℕ → Term → Worked → Piece
field_form m a n t part =
    choose (is_call m n) (call_form m a n t part []) (root_form m n t part (λ root. found m a t root (field_read m n)))

-- a borrow of what a path names; that of a value is the value
abbrev pub borrow_form : Site → Around → ℕ → Term → Worked → Piece
borrow_form m a n t part =
    choose (m.is_value n) part.value
    (root_form m n t part (λ root. found m a t root (λ object. puts m (λ to. i.Borrow to (register_of object)))))

-- a form over operands that are held and taken away
abbrev pub listed_form : Site → List Piece → (List ℕ → Piece) → Piece
listed_form m parts rest = from_mark (λ mark. operands_form m parts (takes_operands mark rest))

-- the kind of a pair
abbrev pub tuple2 : ℕ
tuple2 = 8

-- a new future and its promise, as a tuple
abbrev pub future_form : Site → Piece
future_form m =
    from_mark
    (λ mark.
    with_free m
    (λ future.
    behind (holds holding.Operand future)
    (with_free m
    (λ promise.
    behind (holds holding.Operand promise)
    (behind (does (i.FutureNew future promise ∷ [])) (takes_operands mark (λ fields. puts m (λ to. i.Make to tuple2 0 fields))))))))

-- a call of a method of the module, or of a static method
abbrev pub function_form : Site → Option Target → List ℕ → Piece
function_form m (Some (target.Method method)) all = puts m (λ to. i.Invoke to method all)
function_form m (Some (target.Row row)) all = choose (row == future_new) (future_form m) (puts m (λ to. i.Prim row to all))
function_form m other all = nothing

abbrev pub panic_form : List ℕ → Piece
panic_form all = leaves (i.Panic (first_of all) ∷ [])

abbrev pub array_form : Site → List ℕ → Piece
array_form m all = puts m (λ to. i.MakeArray to all)

abbrev pub item : List ℕ → ℕ → ℕ
item [] k = 0
item (x ∷ xs) zero = x
item (x ∷ xs) (suc k) = item xs k

-- a new object, or a new process, with the fields as they are declared
abbrev pub new_form : Site → ℕ → List ℕ → Piece
new_form m n all =
    puts m
    (λ to.
    if m.is_process n
    then i.Spawn to (m.kind n) (map (item all) (m.order n))
    else i.Make to (m.kind n) (m.tag n) (map (item all) (m.order n)))

-- variables that are declared or written, and fields that are written

abbrev pub declared : Site → ℕ → Binding → ℕ → ℕ → Piece
declared m n binding.Wildcard value from = does (drop_unless_value (m.is_value value) from)
declared m n (binding.Fixed x) value from = does (i.Move (m.register n) from ∷ [])
declared m n (binding.Mutable x) value from = does (i.Move (m.register n) from ∷ [])

-- a declaration is a statement
abbrev pub let_form : Site → ℕ → Binding → Term → Piece → Piece
let_form m n b t value = from_mark (λ mark. then_with m value (λ from. behind (declared m n b (number_of t) from) (ends_held mark)))

abbrev pub write_by : Option How → ℕ → ℕ → List Instr
write_by None to from = i.Move to from ∷ []
write_by (Some how) to from = i.Exchange to from ∷ drop_by how from ∷ []

-- whether a write gives the old value, or drops it
pub data Write : Type 0 where
  Drops : Write
  Gives : Write

-- a write to a variable, by what the plan says of its old value
abbrev pub variable_write : Site → Write → ℕ → ℕ → ℕ → Piece
variable_write m Drops n variable from =
    choose (m.is_value variable) (does (i.Move (m.register variable) from ∷ [])) (does (write_by (m.old n variable) (m.register variable) from))
variable_write m Gives n variable from = behind (does (i.Exchange (m.register variable) from ∷ [])) (giving (given.At from))

abbrev pub field_write : Site → Write → ℕ → ℕ → Piece
field_write m Drops place old = does (drop_unless_value (m.is_value place) old)
field_write m Gives place old = giving (given.At old)

-- a write to a field: the root of the base, the value, the object as a path, and the exchange with the old value
abbrev pub store_form : Site → Around → Write → ℕ → ℕ → Term → Term → Worked → Piece → Piece
store_form m a w n place t base part value =
    from_mark
    (λ mark.
    root_form m n t part
    (λ root.
    then_held m holding.Operand value
    (found m a base root
    (λ object.
    takes_operands mark
    (λ all.
    with_free m
    (λ to. behind (does (i.Store to (register_of object) (m.place place) (first_of all) ∷ [])) (field_write m w place to)))))))

abbrev pub write_form : Site → Around → Write → ℕ → Term → Worked → Piece → Piece
write_form m a w n (Var s x) part value = then_with m value (variable_write m w n (m.variable s.number))
write_form m a w n (Field s x t) part value = store_form m a w n s.number (Field s x t) t part value
write_form m a w n other part value = nothing

-- blocks, choices and loops

-- statements, of which the last gives the value
abbrev pub sequence_form : Given → List Piece → Piece
sequence_form g [] = giving g
sequence_form g (x ∷ xs) = next x (λ h. unless_ended h (sequence_form h xs))

-- at the end of a block what it declares goes
abbrev pub block_form : Site → ℕ → List Piece → Piece
block_form m n xs = next (sequence_form given.Nil xs) (λ g. unless_ended g (behind (leaves_variables m n) (giving g)))

abbrev pub moves_to : ℕ → ℕ → List Instr
moves_to to from = if from == to then [] else (i.Move to from ∷ [])

-- behind an arm's value its variables go, and the value is moved to the register of the whole; nil needs none
abbrev pub side_ends : Site → ℕ → ℕ → ℕ → Given → Piece
side_ends m n pattern to g =
    unless_ended g
    (behind (leaves_variables m pattern) (choose (m.is_nil n) nothing (onward m (λ from. does (moves_to to from)) g)))

abbrev pub side_form : Site → ℕ → ℕ → ℕ → Piece → Piece
side_form m n pattern to value = released (next (stated value) (side_ends m n pattern to))

-- what a choice gives, by whether control goes on behind one of its sides
abbrev pub chosen : Site → ℕ → ℕ → Bool → Given
chosen m n to false = given.Ends
chosen m n to true = if m.is_nil n then given.Nil else given.At to

-- behind what doesn't end, a jump
abbrev pub jumps_on : ℕ → Given → Piece
jumps_on place g = unless_ended g (does (i.Jump place ∷ []))

-- An arm: its pattern, its guard by the register of what is matched, and its value.
pub record ArmPiece : Type 0 where
  pub pattern : Pat
  pub guard : Option (ℕ → Piece)
  pub value : Piece

-- a choice by a condition: a jump where it is true, and before its target the other side
abbrev pub sides_form : Site → ℕ → ℕ → ℕ → Piece → Piece → Piece
sides_form m n to on on_true on_false =
    told_its_end
    (λ end.
    next (told_its_end (λ true_side. behind (does (i.JumpIf on true_side ∷ [])) (next on_false (jumps_on end))))
    (λ g. next on_true (λ h. giving (chosen m n to (goes_on g || goes_on h)))))

abbrev pub condition_form : Site → ℕ → Piece → List ArmPiece → Piece
condition_form m n scrutinee (x ∷ y ∷ others) =
    then_with m (stated scrutinee)
    (λ on.
    with_free m
    (λ to. sides_form m n to on (side_form m n (number_of_pat x.pattern) to x.value) (side_form m n (number_of_pat y.pattern) to y.value)))
condition_form m n scrutinee others = scrutinee

-- where a register holds false, what is tried next stands at a place
abbrev pub fails_to : ℕ → ℕ → Piece
fails_to on otherwise =
    at_its_place (λ here u. record { given = given.Nil; code = i.JumpIf on (here + 2) ∷ i.Jump otherwise ∷ []; held = u.held; breaks = false; fails = true })

-- the same piece, whose failures lead nowhere behind it
abbrev pub without_failures : Made → Made
without_failures x = record { given = x.given; code = x.code; held = x.held; breaks = x.breaks; fails = false }

abbrev pub answers_failures : Piece → Piece
answers_failures a u = without_failures (a u)

-- the pattern of an arm is tested, unless it fits all values or nothing is left to try
abbrev pub test_form : Site → ℕ → Bool → Pat → ℕ → Piece
test_form m r always p otherwise =
    choose (always || not (is_tested m p)) nothing (with_free m (λ on. behind (tests m p r) (fails_to on otherwise)))

-- a guard is a statement
abbrev pub guard_form : Site → ℕ → ℕ → Option (ℕ → Piece) → Piece
guard_form m r otherwise None = nothing
guard_form m r otherwise (Some guard) = then_with m (stated (guard r)) (λ on. fails_to on otherwise)

-- What is matched stays held while the pattern is tested and the guard is worked. Then the pattern takes it apart.
abbrev pub arm_chosen : Site → ℕ → Bool → ArmPiece → ℕ → Piece
arm_chosen m r last x otherwise =
    released
    (behind (holds holding.Operand r)
    (next (behind (test_form m r (last && not (is_some x.guard)) x.pattern otherwise) (guard_form m r otherwise x.guard))
    (λ g. unless_ended g (bind m x.pattern false r))))

-- behind an arm it goes on behind all of them, at which the last one stands if it can't fail
abbrev pub arm_joins : Bool → ℕ → Given → Piece
arm_joins true end g = giving g
arm_joins false end g = jumps_on end g

abbrev pub arm_form : Site → ℕ → ℕ → ℕ → ℕ → Bool → ArmPiece → ℕ → Piece
arm_form m n to r end last x otherwise =
    next_by_failure (arm_chosen m r last x otherwise)
    (λ failed g. unless_ended g (next (side_form m n (number_of_pat x.pattern) to x.value) (arm_joins (last && not failed) end)))

-- Where no arm is left, nothing is done if some arm went on and the last one can't fail. What isn't met jumps to itself.
abbrev pub no_arm_left : Bool → Piece
no_arm_left true = nothing
no_arm_left false = at_its_place (λ here. does (i.Jump here ∷ []))

abbrev pub arms_end : Site → ℕ → ℕ → Bool → Bool → Piece
arms_end m n to went_on failed = behind (no_arm_left (went_on && not failed)) (giving (chosen m n to went_on))

abbrev pub is_none : {X : Type 0} → List X → Bool
is_none [] = true
is_none (x ∷ xs) = false

-- arms, each where the one before it fails; behind one that can't fail no other is tried
abbrev pub arms_form : Site → ℕ → ℕ → ℕ → ℕ → Bool → Bool → List ArmPiece → Piece
arms_form m n to r end went_on failed [] = arms_end m n to went_on failed
arms_form m n to r end went_on failed (x ∷ xs) =
    next_by_failure (told_its_end (arm_form m n to r end (is_none xs) x))
    (λ fails g. choose fails (arms_form m n to r end (went_on || goes_on g) true xs) (arms_end m n to (went_on || goes_on g) false))

-- a choice by patterns; what is matched by its value is a statement
abbrev pub match_form : Site → ℕ → Term → Piece → List ArmPiece → Piece
match_form m n t scrutinee arms =
    then_with m (choose (m.is_value (number_of t)) (stated scrutinee) scrutinee)
    (λ r. with_free m (λ to. answers_failures (told_its_end (λ end. arms_form m n to r end false false arms))))

-- the next turn of a loop
abbrev pub turn_form : Turn → (Turn → Piece) → Piece
turn_form turn body = released (next (body turn) (jumps_on turn.start))

-- a loop ends where a break is reached
abbrev pub without_breaks : Made → Made
without_breaks x = record { given = if x.breaks then given.Nil else given.Ends; code = x.code; held = x.held; breaks = false; fails = x.fails }

abbrev pub answers_breaks : Piece → Piece
answers_breaks a u = without_breaks (a u)

abbrev pub loop_form : (Turn → Piece) → Piece
loop_form body =
    answers_breaks
    (told_its_end (λ end. from_mark (λ mark. at_its_place (λ start. turn_form (record { start = start; mark = mark; end = end }) body))))

-- exits

abbrev pub breaks_to : ℕ → Piece
breaks_to place u = record { given = given.Ends; code = i.Jump place ∷ []; held = u.held; breaks = true; fails = false }

-- what the loop holds goes, and then the variables that are left
abbrev pub leaves_turn : Site → ℕ → Turn → Piece → Piece
leaves_turn m n turn jump = behind (drops_held turn.mark) (behind (leaves_variables m n) jump)

abbrev pub break_form : Site → ℕ → Option Turn → Piece
break_form m n None = giving given.Ends
break_form m n (Some turn) = leaves_turn m n turn (breaks_to turn.end)

abbrev pub next_form : Site → ℕ → Option Turn → Piece
next_form m n None = giving given.Ends
next_form m n (Some turn) = leaves_turn m n turn (leaves (i.Jump turn.start ∷ []))

-- the variables go, then the borrow that `self` is
abbrev pub leaves_method : Site → ℕ → ℕ → Piece
leaves_method m n from = behind (leaves_variables m n) (behind (does (drop_unless_value (not m.is_lent) 0)) (leaves (i.Return from ∷ [])))

-- all that is held goes before the variables
abbrev pub return_form : Site → ℕ → Piece → Piece
return_form m n value = then_with m value (λ from. behind (drops_held 0) (leaves_method m n from))

abbrev pub given_up : Bool → Given → Piece
given_up value given.Ends = giving given.Ends
given_up value given.Nil = nothing
given_up value (given.At from) = does (drop_unless_value value from)

-- a value that is given up
abbrev pub drop_form : Site → Term → Piece → Piece
drop_form m t value = next value (given_up (m.is_value (number_of t)))

-- the end of a body: the parameters go, and the borrow that `self` is
abbrev pub body_form : Site → ℕ → Piece → Piece
body_form m n body = then_with m body (leaves_method m n)
