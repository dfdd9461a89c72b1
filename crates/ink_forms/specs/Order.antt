-- The steps of a node's work, in the words of Work: an instance of them, at lists of steps.
use Rattle.std.specs.Prelude.{ℕ, Bool, true, false, List, [], ◌∷◌, ◌++◌, Option, Some, None}
use Rattle.ink_forms.specs.declared.expr.Arm.{Arm}
use Rattle.ink_forms.specs.declared.expr.Argument.{Argument}
use Rattle.ink_forms.specs.declared.order.Part.{Part}
use Rattle.ink_forms.specs.declared.order.Part.TheVariants as part
use Rattle.ink_forms.specs.declared.order.Step.{Step}
use Rattle.ink_forms.specs.Trees.{Spot, Term, Terms, Arguments, Guard, Arms, Lit, Var, SelfValue, Field, Borrow, Set, Swap, Let, Block, New, Arr, Call, Fn, Static, Match, Loop, Break, Next, Return, Recover, Panic, Drop, Statement, NoTerm, AndTerm, NoArgument, AndArgument, Always, When, NoArm, AndArm}
use Rattle.ink_forms.specs.Work.{Worked, read, done, behind, around}

abbrev pub spot_of : Term → Spot
spot_of (Lit s x) = s
spot_of (Var s x) = s
spot_of (SelfValue s) = s
spot_of (Field s x a) = s
spot_of (Borrow s x a) = s
spot_of (Set s a b) = s
spot_of (Swap s a b) = s
spot_of (Let s x t a) = s
spot_of (Block s k es) = s
spot_of (New s x es) = s
spot_of (Arr s es) = s
spot_of (Call s x a es) = s
spot_of (Fn s x es) = s
spot_of (Static s x y es) = s
spot_of (Match s x a es) = s
spot_of (Loop s a) = s
spot_of (Break s) = s
spot_of (Next s) = s
spot_of (Return s a) = s
spot_of (Recover s a) = s
spot_of (Panic s es) = s
spot_of (Drop s a) = s
spot_of (Statement s a) = s

-- the number of an expression
abbrev pub number_of : Term → ℕ
number_of t = (spot_of t).number

abbrev pub join : List Step → List Step → List Step
join xs ys = xs ++ ys

-- a path, in two steps, and any other child in one
abbrev pub path : Term → Worked (List Step)
path t = record { early = record { node = number_of t; part = part.Early } ∷ []; late = record { node = number_of t; part = part.Late } ∷ [] }

abbrev pub one : Term → List Step
one t = record { node = number_of t; part = part.Whole } ∷ []

abbrev pub all : Terms → List Step
all NoTerm = []
all (AndTerm a es) = one a ++ all es

abbrev pub all_arguments : Arguments → List Step
all_arguments NoArgument = []
all_arguments (AndArgument x a es) = one a ++ all_arguments es

abbrev pub guarded : Guard → List Step
guarded Always = []
guarded (When a) = one a

-- the guards and values of arms, in the order in which they are tried
abbrev pub all_arms : Arms → List Step
all_arms NoArm = []
all_arms (AndArm p g a es) = guarded g ++ (one a ++ all_arms es)

-- the same of numbers, arguments and arms as they are read
abbrev pub step : ℕ → Step
step n = record { node = n; part = part.Whole }

abbrev pub steps : List ℕ → List Step
steps [] = []
steps (n ∷ ns) = step n ∷ steps ns

abbrev pub argument_steps : List Argument → List Step
argument_steps [] = []
argument_steps (x ∷ xs) = step x.value ∷ argument_steps xs

abbrev pub guard_steps : Option ℕ → List Step
guard_steps None = []
guard_steps (Some n) = step n ∷ []

abbrev pub arm_steps : List Arm → List Step
arm_steps [] = []
arm_steps (x ∷ xs) = guard_steps x.guard ++ (step x.value ∷ arm_steps xs)

abbrev pub match_steps : ℕ → List Arm → List Step
match_steps n xs = step n ∷ arm_steps xs

abbrev pub step_of : ℕ → Part → List Step
step_of n p = record { node = n; part = p } ∷ []

abbrev pub around_steps : ℕ → List ℕ → List Step
around_steps n ns = step_of n part.Early ++ (steps ns ++ step_of n part.Late)

abbrev pub field_steps : Bool → ℕ → List Step
field_steps true n = step_of n part.Early ++ step_of n part.Late
field_steps false n = step_of n part.Early

-- The steps of an expression. A field that is a call has an end: it is worked early, behind its whole base.
abbrev pub order : Bool → Term → Worked (List Step)
order c (Lit s x) = done [] []
order c (Var s x) = read [] []
order c (SelfValue s) = read [] []
order true (Field s x a) = done [] (around join (path a) [])
order false (Field s x a) = behind join (path a) []
order c (Borrow s x a) = done [] (one a)
order c (Set s a b) = done [] (around join (path a) (one b))
order c (Swap s a b) = done [] (around join (path a) (one b))
order c (Let s x t a) = done [] (one a)
order c (Block s k es) = done [] (all es)
order c (New s x es) = done [] (all_arguments es)
order c (Arr s es) = done [] (all es)
order c (Call s x a es) = done [] (around join (path a) (all es))
order c (Fn s x es) = done [] (all es)
order c (Static s x y es) = done [] (all es)
order c (Match s x a es) = done [] (one a ++ all_arms es)
order c (Loop s a) = done [] (one a)
order c (Break s) = done [] []
order c (Next s) = done [] []
order c (Return s a) = done [] (one a)
order c (Recover s a) = done [] (one a)
order c (Panic s es) = done [] (all es)
order c (Drop s a) = done [] (one a)
order c (Statement s a) = done [] (one a)

-- one without a path, without arms and without arguments that may have a name
abbrev pub IsPlain : Term → Type 0
IsPlain (Field s x a) = ⊥
IsPlain (Set s a b) = ⊥
IsPlain (Swap s a b) = ⊥
IsPlain (Call s x a es) = ⊥
IsPlain (New s x es) = ⊥
IsPlain (Match s x a es) = ⊥
IsPlain t = Unit {0}
