-- What each exit leaves: an entry for each node, with variables in the order in which they are declared.
use Rattle.std.specs.Prelude.{ℕ, List, [], length, drop, slice_set, slice_index_or}
use Rattle.ink_forms.specs.declared.list.Children.{Children}
use Rattle.ink_forms.specs.Trees.{ByName, ByOperator, Term, Terms, Arguments, Guard, Arms, Lit, Var, SelfValue, Field, Borrow, Set, Swap, Let, Block, New, Arr, Call, Fn, Static, Match, Loop, Break, Next, Return, Recover, Panic, Drop, Statement, NoTerm, AndTerm, NoArgument, AndArgument, Always, When, NoArm, AndArm, OneArm, MethodTree}
use Rattle.ink_exits.specs.Scopes.{declare, declare_all, bind, number_of_pat, scope_of}

-- a part of the variables that all exits leave: none
abbrev pub no_part : Children
no_part = record { start = 0; end = 0 }

-- this exit leaves these
abbrev pub put : ℕ → List ℕ → List (List ℕ) → List (List ℕ)
put n xs v = slice_set v n xs

-- The exits of an expression with these variables in scope, of which the first b stood before the loop. A jump leaves
-- those behind them, and a return leaves all.
abbrev mutual
  pub exits : ℕ → List ℕ → Term → List (List ℕ) → List (List ℕ)
  exits b xs (Lit s x) v = v
  exits b xs (Var s x) v = v
  exits b xs (SelfValue s) v = v
  exits b xs (Field s x a) v = exits b xs a v
  exits b xs (Borrow s x a) v = exits b xs a v
  exits b xs (Set s p a) v = exits b xs a (exits b xs p v)
  exits b xs (Swap s p a) v = exits b xs a (exits b xs p v)
  exits b xs (Let s x t a) v = exits b xs a v
  exits b xs (Block s k es) v = put s.number (drop (length xs) (declare_all es xs)) (exits_in b xs es v)
  exits b xs (New s x es) v = exits_of_arguments b xs es v
  exits b xs (Arr s es) v = exits_of_all b xs es v
  exits b xs (Call s x a es) v = exits_of_all b xs es (exits b xs a v)
  exits b xs (Fn s x es) v = exits_of_all b xs es v
  exits b xs (Static s x y es) v = exits_of_all b xs es v
  exits b xs (Match s x a es) v = exits_of_arms b xs es (exits b xs a v)
  exits b xs (Loop s a) v = exits (length xs) xs a v
  exits b xs (Break s) v = put s.number (drop b xs) v
  exits b xs (Next s) v = put s.number (drop b xs) v
  exits b xs (Return s a) v = put s.number xs (exits b xs a v)
  exits b xs (Recover s a) v = exits b xs a v
  exits b xs (Panic s es) v = exits_of_all b xs es v
  exits b xs (Drop s a) v = exits b xs a v
  exits b xs (Statement s a) v = exits b xs a v

  -- of statements, each with what those before it declare
  pub exits_in : ℕ → List ℕ → Terms → List (List ℕ) → List (List ℕ)
  exits_in b xs NoTerm v = v
  exits_in b xs (AndTerm a es) v = exits_in b (declare a xs) es (exits b xs a v)

  pub exits_of_all : ℕ → List ℕ → Terms → List (List ℕ) → List (List ℕ)
  exits_of_all b xs NoTerm v = v
  exits_of_all b xs (AndTerm a es) v = exits_of_all b xs es (exits b xs a v)

  pub exits_of_arguments : ℕ → List ℕ → Arguments → List (List ℕ) → List (List ℕ)
  exits_of_arguments b xs NoArgument v = v
  exits_of_arguments b xs (AndArgument x a es) v = exits_of_arguments b xs es (exits b xs a v)

  pub exits_of_guard : ℕ → List ℕ → Guard → List (List ℕ) → List (List ℕ)
  exits_of_guard b xs Always v = v
  exits_of_guard b xs (When a) v = exits b xs a v

  -- of arms, each of which ends at its pattern; in a guard nothing of it is bound yet
  pub exits_of_arms : ℕ → List ℕ → Arms → List (List ℕ) → List (List ℕ)
  exits_of_arms b xs NoArm v = v
  exits_of_arms b xs (AndArm p g a es) v =
      exits_of_arms b xs es (put (number_of_pat p) (drop (length xs) (bind p xs)) (exits b (bind p xs) a (exits_of_guard b xs g v)))

abbrev pub exits_of_arm : ℕ → List ℕ → OneArm → List (List ℕ) → List (List ℕ)
exits_of_arm b xs x v =
    put (number_of_pat x.pattern) (drop (length xs) (bind x.pattern xs)) (exits b (bind x.pattern xs) x.value (exits_of_guard b xs x.guard v))

abbrev pub exits_of_block : ℕ → List ℕ → ℕ → Terms → List (List ℕ) → List (List ℕ)
exits_of_block b xs n es v = put n (drop (length xs) (declare_all es xs)) (exits_in b xs es v)

-- of a method, whose body ends at the method
abbrev pub exits_of_method : MethodTree → List (List ℕ) → List (List ℕ)
exits_of_method x v = put x.spot.number (scope_of x) (exits 0 (scope_of x) x.body v)

-- what an exit leaves, and nothing of what is none
abbrev pub left : List (List ℕ) → ℕ → List ℕ
left v n = slice_index_or v n []

-- an expression that ends or leaves no scope, and holds none beside its children's
abbrev pub HasNoExit : Term → Type 0
HasNoExit (Loop s a) = ⊥
HasNoExit (Break s) = ⊥
HasNoExit (Next s) = ⊥
HasNoExit (Return s a) = ⊥
HasNoExit (Block s k es) = ⊥
HasNoExit (Match s x a es) = ⊥
HasNoExit t = Unit {0}

-- one without a list
abbrev pub HasNoList : Term → Type 0
HasNoList (New s x es) = ⊥
HasNoList (Arr s es) = ⊥
HasNoList (Call s (ByName x) a es) = ⊥
HasNoList (Call s (ByOperator x) a es) = Unit {0}
HasNoList (Fn s x es) = ⊥
HasNoList (Static s x y es) = ⊥
HasNoList (Panic s es) = ⊥
HasNoList t = Unit {0}
