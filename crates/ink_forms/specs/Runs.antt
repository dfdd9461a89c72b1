-- All numbers of a tree, and runs of numbers.
use Rattle.std.specs.Prelude.{◌≡◌, ℕ, suc, List, [], ◌∷◌, ◌++◌, Option, Some, None}
use Rattle.ink_forms.specs.Trees.{Spot, Written, WrittenList, Named, Prefixed, Tuple, NoWritten, AndWritten, Pat, Pats, FieldPats, Wildcard, LitPat, Name, Constructor, Either, Fields, NoPat, AndPat, NoField, AndField, Term, Terms, Arguments, Guard, Arms, Lit, Var, SelfValue, Field, Borrow, Set, Swap, Let, Block, New, Arr, Call, Fn, Static, Match, Loop, Break, Next, Return, Recover, Panic, Drop, Statement, NoTerm, AndTerm, NoArgument, AndArgument, Always, When, NoArm, AndArm, ParameterTree, MethodTree}

abbrev pub closed : Spot → List ℕ → List ℕ
closed s ns = ns ++ s.number ∷ []

abbrev mutual
  pub numbers_of_written : Written → List ℕ
  numbers_of_written (Named s x ts) = closed s (numbers_of_written_list ts)
  numbers_of_written (Prefixed s x t) = closed s (numbers_of_written t)
  numbers_of_written (Tuple s ts) = closed s (numbers_of_written_list ts)

  pub numbers_of_written_list : WrittenList → List ℕ
  numbers_of_written_list NoWritten = []
  numbers_of_written_list (AndWritten t ts) = numbers_of_written t ++ numbers_of_written_list ts

abbrev mutual
  pub numbers_of_pat : Pat → List ℕ
  numbers_of_pat (Wildcard s) = closed s []
  numbers_of_pat (LitPat s x) = closed s []
  numbers_of_pat (Name s m x) = closed s []
  numbers_of_pat (Constructor s x ps) = closed s (numbers_of_pats ps)
  numbers_of_pat (Either s ps) = closed s (numbers_of_pats ps)
  numbers_of_pat (Fields s fs) = closed s (numbers_of_field_pats fs)

  pub numbers_of_pats : Pats → List ℕ
  numbers_of_pats NoPat = []
  numbers_of_pats (AndPat p ps) = numbers_of_pat p ++ numbers_of_pats ps

  pub numbers_of_field_pats : FieldPats → List ℕ
  numbers_of_field_pats NoField = []
  numbers_of_field_pats (AndField x p fs) = numbers_of_pat p ++ numbers_of_field_pats fs

abbrev pub numbers_of_option : Option Written → List ℕ
numbers_of_option None = []
numbers_of_option (Some t) = numbers_of_written t

abbrev mutual
  pub numbers_of : Term → List ℕ
  numbers_of (Lit s x) = closed s []
  numbers_of (Var s x) = closed s []
  numbers_of (SelfValue s) = closed s []
  numbers_of (Field s x a) = closed s (numbers_of a)
  numbers_of (Borrow s x a) = closed s (numbers_of a)
  numbers_of (Set s a b) = closed s (numbers_of a ++ numbers_of b)
  numbers_of (Swap s a b) = closed s (numbers_of a ++ numbers_of b)
  numbers_of (Let s x t a) = closed s (numbers_of_option t ++ numbers_of a)
  numbers_of (Block s k es) = closed s (numbers_of_all es)
  numbers_of (New s x es) = closed s (numbers_of_arguments es)
  numbers_of (Arr s es) = closed s (numbers_of_all es)
  numbers_of (Call s x a es) = closed s (numbers_of a ++ numbers_of_all es)
  numbers_of (Fn s x es) = closed s (numbers_of_all es)
  numbers_of (Static s x y es) = closed s (numbers_of_all es)
  numbers_of (Match s x a es) = closed s (numbers_of a ++ numbers_of_arms es)
  numbers_of (Loop s a) = closed s (numbers_of a)
  numbers_of (Break s) = closed s []
  numbers_of (Next s) = closed s []
  numbers_of (Return s a) = closed s (numbers_of a)
  numbers_of (Recover s a) = closed s (numbers_of a)
  numbers_of (Panic s es) = closed s (numbers_of_all es)
  numbers_of (Drop s a) = closed s (numbers_of a)
  numbers_of (Statement s a) = closed s (numbers_of a)

  pub numbers_of_all : Terms → List ℕ
  numbers_of_all NoTerm = []
  numbers_of_all (AndTerm a es) = numbers_of a ++ numbers_of_all es

  pub numbers_of_arguments : Arguments → List ℕ
  numbers_of_arguments NoArgument = []
  numbers_of_arguments (AndArgument x a es) = numbers_of a ++ numbers_of_arguments es

  pub numbers_of_guard : Guard → List ℕ
  numbers_of_guard Always = []
  numbers_of_guard (When a) = numbers_of a

  pub numbers_of_arms : Arms → List ℕ
  numbers_of_arms NoArm = []
  numbers_of_arms (AndArm p g a es) = numbers_of_pat p ++ (numbers_of_guard g ++ (numbers_of a ++ numbers_of_arms es))

abbrev pub numbers_of_parameter : ParameterTree → List ℕ
numbers_of_parameter x = closed x.spot (numbers_of_written x.annotation)

abbrev pub numbers_of_parameters : List ParameterTree → List ℕ
numbers_of_parameters [] = []
numbers_of_parameters (x ∷ xs) = numbers_of_parameter x ++ numbers_of_parameters xs

abbrev pub numbers_of_method : MethodTree → List ℕ
numbers_of_method x = closed x.spot (numbers_of_parameters x.parameters ++ numbers_of x.body)

-- a, a + 1 and so on, before b
abbrev pub IsRun : ℕ → List ℕ → ℕ → Type 0
IsRun a [] b = a ≡ b
IsRun a (x ∷ xs) b = (x ≡ a) × IsRun (suc a) xs b
