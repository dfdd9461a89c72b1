-- The code of an expression, form by form, and that of a method.
use Rattle.std.specs.Prelude.{◌∷◌, ℕ, List, [], Option, None, Some}
use Rattle.ink_code.specs.declared.instr.Instr.{Instr}
use Rattle.ink_forms.specs.declared.expr.Choice.{Choice}
use Rattle.ink_forms.specs.declared.expr.Choice.TheVariants as choice
use Rattle.ink_forms.specs.Trees.{Term, Terms, Arguments, Guard, Arms, MethodTree, Lit, Var, SelfValue, Field, Borrow, Set, Swap, Let, Block, New, Arr, Call, Fn, Static, Match, Loop, Break, Next, Return, Recover, Panic, Drop, Statement, NoTerm, AndTerm, NoArgument, AndArgument, Always, When, NoArm, AndArm}
use Rattle.ink_layout.specs.Pieces.{Site, Piece, choose, stated}
use Rattle.ink_layout.specs.FormCode.{Around, ArmPiece, Drops, Gives, Worked, array_form, as_value, block_form, body_form, borrow_form, break_form, call_form, condition_form, drop_form, field_form, function_form, guarded, is_call, let_form, listed_form, literal_form, loop_form, looped, match_form, new_form, next_form, panic_form, return_form, self_form, variable_form, write_form}

-- what stands where a choice was written
abbrev pub choice_form : Site → Choice → ℕ → Term → Piece → List ArmPiece → Piece
choice_form m choice.Match n t scrutinee arms = match_form m n t scrutinee arms
choice_form m choice.Try n t scrutinee arms = match_form m n t scrutinee arms
choice_form m other n t scrutinee arms = condition_form m n scrutinee arms

-- the root of a field is that of its base
abbrev pub as_field : Site → ℕ → Piece → Worked → Worked
as_field m n value base = record { value = value; root = choose (is_call m n) value base.root }

-- The code of an expression by where it stands.
abbrev mutual
  pub worked : Site → Term → Around → Worked
  worked m (Lit s x) a = as_value (literal_form m x)
  worked m (Var s x) a = as_value (variable_form m a s.number)
  worked m (SelfValue s) a = as_value (self_form m s.number)
  worked m (Field s x t) a = as_field m s.number (field_form m a s.number t (worked m t a)) (worked m t a)
  worked m (Borrow s x t) a = as_value (borrow_form m a s.number t (worked m t a))
  worked m (Set s p t) a = as_value (write_form m a Drops s.number p (worked m p a) (worked m t a).value)
  worked m (Swap s p t) a = as_value (write_form m a Gives s.number p (worked m p a) (worked m t a).value)
  worked m (Let s x y t) a = as_value (let_form m s.number x t (worked m t a).value)
  worked m (Block s x ts) a = as_value (block_form m s.number (values m ts a))
  worked m (New s x ts) a = as_value (listed_form m (arguments m ts a) (new_form m s.number))
  worked m (Arr s ts) a = as_value (listed_form m (values m ts a) (array_form m))
  worked m (Call s x t ts) a = as_value (call_form m a s.number t (worked m t a) (values m ts a))
  worked m (Fn s x ts) a = as_value (listed_form m (values m ts a) (function_form m (m.call s.number)))
  worked m (Static s x y ts) a = as_value (listed_form m (values m ts a) (function_form m (m.call s.number)))
  worked m (Match s x t xs) a = as_value (choice_form m x s.number t (worked m t a).value (arms m xs a))
  worked m (Loop s t) a = as_value (loop_form (λ turn. (worked m t (looped turn a)).value))
  worked m (Break s) a = as_value (break_form m s.number a.turn)
  worked m (Next s) a = as_value (next_form m s.number a.turn)
  worked m (Return s t) a = as_value (return_form m s.number (worked m t a).value)
  worked m (Recover s t) a = as_value (stated (worked m t a).value)
  worked m (Panic s ts) a = as_value (listed_form m (values m ts a) panic_form)
  worked m (Drop s t) a = as_value (drop_form m t (worked m t a).value)
  worked m (Statement s t) a = as_value (stated (worked m t a).value)

  pub values : Site → Terms → Around → List Piece
  values m NoTerm a = []
  values m (AndTerm t ts) a = (worked m t a).value ∷ values m ts a

  pub arguments : Site → Arguments → Around → List Piece
  arguments m NoArgument a = []
  arguments m (AndArgument x t ts) a = (worked m t a).value ∷ arguments m ts a

  -- in a guard what the pattern binds is read out of what is matched
  pub arms : Site → Arms → Around → List ArmPiece
  arms m NoArm a = []
  arms m (AndArm p g t xs) a =
      record { pattern = p; guard = guard m g (λ r. guarded p r a); value = (worked m t a).value } ∷ arms m xs a

  pub guard : Site → Guard → (ℕ → Around) → Option (ℕ → Piece)
  guard m Always around = None
  guard m (When t) around = Some (λ r. (worked m t (around r)).value)

-- outside all guards and loops
abbrev pub nowhere : Around
nowhere = record { guards = []; turn = None }

-- the code of a method from its first instruction on
abbrev pub code_of_method : Site → MethodTree → List Instr
code_of_method m t = (body_form m t.spot.number (worked m t.body nowhere).value (record { place = 0; held = [] })).code
