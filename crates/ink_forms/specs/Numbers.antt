-- The numbers of the nodes of a tree: from the first number on, each node after its children, in their order.
use Rattle.std.specs.Prelude.{ℕ, suc, List, [], ◌∷◌, Option, Some, None}
use Rattle.ink_forms.specs.Trees.{Spot, Written, WrittenList, Named, Prefixed, Tuple, NoWritten, AndWritten, Pat, Pats, FieldPats, Wildcard, LitPat, Name, Constructor, Either, Fields, NoPat, AndPat, NoField, AndField, Term, Terms, Arguments, Guard, Arms, Lit, Var, SelfValue, Field, Borrow, Set, Swap, Let, Block, New, Arr, Call, Fn, Static, Match, Loop, Break, Next, Return, Recover, Panic, Drop, Statement, NoTerm, AndTerm, NoArgument, AndArgument, Always, When, NoArm, AndArm, ParameterTree, MethodTree}

abbrev pub put : ℕ → Spot → Spot
put n s = record { number = n; start = s.start; place = s.place }

-- a tree whose first node has this number, and the number after its last
unfoldable mutual
  pub number_written : Written → ℕ → Written × ℕ
  number_written (Named s x ts) n = let q = number_written_list ts n in (Named (put q.1 s) x q.0, suc q.1)
  number_written (Prefixed s x t) n = let r = number_written t n in (Prefixed (put r.1 s) x r.0, suc r.1)
  number_written (Tuple s ts) n = let q = number_written_list ts n in (Tuple (put q.1 s) q.0, suc q.1)

  pub number_written_list : WrittenList → ℕ → WrittenList × ℕ
  number_written_list NoWritten n = (NoWritten, n)
  number_written_list (AndWritten t ts) n = let r = number_written t n in let q = number_written_list ts r.1 in (AndWritten r.0 q.0, q.1)

unfoldable mutual
  pub number_pat : Pat → ℕ → Pat × ℕ
  number_pat (Wildcard s) n = (Wildcard (put n s), suc n)
  number_pat (LitPat s x) n = (LitPat (put n s) x, suc n)
  number_pat (Name s m x) n = (Name (put n s) m x, suc n)
  number_pat (Constructor s x ps) n = let q = number_pats ps n in (Constructor (put q.1 s) x q.0, suc q.1)
  number_pat (Either s ps) n = let q = number_pats ps n in (Either (put q.1 s) q.0, suc q.1)
  number_pat (Fields s fs) n = let q = number_field_pats fs n in (Fields (put q.1 s) q.0, suc q.1)

  pub number_pats : Pats → ℕ → Pats × ℕ
  number_pats NoPat n = (NoPat, n)
  number_pats (AndPat p ps) n = let r = number_pat p n in let q = number_pats ps r.1 in (AndPat r.0 q.0, q.1)

  pub number_field_pats : FieldPats → ℕ → FieldPats × ℕ
  number_field_pats NoField n = (NoField, n)
  number_field_pats (AndField x p fs) n = let r = number_pat p n in let q = number_field_pats fs r.1 in (AndField x r.0 q.0, q.1)

abbrev pub number_option : Option Written → ℕ → Option Written × ℕ
number_option None n = (None, n)
number_option (Some t) n = let r = number_written t n in (Some r.0, r.1)

unfoldable mutual
  pub number : Term → ℕ → Term × ℕ
  number (Lit s x) n = (Lit (put n s) x, suc n)
  number (Var s x) n = (Var (put n s) x, suc n)
  number (SelfValue s) n = (SelfValue (put n s), suc n)
  number (Field s x a) n = let r = number a n in (Field (put r.1 s) x r.0, suc r.1)
  number (Borrow s x a) n = let r = number a n in (Borrow (put r.1 s) x r.0, suc r.1)
  number (Set s a b) n = let r = number a n in let q = number b r.1 in (Set (put q.1 s) r.0 q.0, suc q.1)
  number (Swap s a b) n = let r = number a n in let q = number b r.1 in (Swap (put q.1 s) r.0 q.0, suc q.1)
  number (Let s x t a) n = let r = number_option t n in let q = number a r.1 in (Let (put q.1 s) x r.0 q.0, suc q.1)
  number (Block s k es) n = let q = number_all es n in (Block (put q.1 s) k q.0, suc q.1)
  number (New s x es) n = let q = number_arguments es n in (New (put q.1 s) x q.0, suc q.1)
  number (Arr s es) n = let q = number_all es n in (Arr (put q.1 s) q.0, suc q.1)
  number (Call s x a es) n = let r = number a n in let q = number_all es r.1 in (Call (put q.1 s) x r.0 q.0, suc q.1)
  number (Fn s x es) n = let q = number_all es n in (Fn (put q.1 s) x q.0, suc q.1)
  number (Static s x y es) n = let q = number_all es n in (Static (put q.1 s) x y q.0, suc q.1)
  number (Match s x a es) n = let r = number a n in let q = number_arms es r.1 in (Match (put q.1 s) x r.0 q.0, suc q.1)
  number (Loop s a) n = let r = number a n in (Loop (put r.1 s) r.0, suc r.1)
  number (Break s) n = (Break (put n s), suc n)
  number (Next s) n = (Next (put n s), suc n)
  number (Return s a) n = let r = number a n in (Return (put r.1 s) r.0, suc r.1)
  number (Recover s a) n = let r = number a n in (Recover (put r.1 s) r.0, suc r.1)
  number (Panic s es) n = let q = number_all es n in (Panic (put q.1 s) q.0, suc q.1)
  number (Drop s a) n = let r = number a n in (Drop (put r.1 s) r.0, suc r.1)
  number (Statement s a) n = let r = number a n in (Statement (put r.1 s) r.0, suc r.1)

  pub number_all : Terms → ℕ → Terms × ℕ
  number_all NoTerm n = (NoTerm, n)
  number_all (AndTerm a es) n = let r = number a n in let q = number_all es r.1 in (AndTerm r.0 q.0, q.1)

  pub number_arguments : Arguments → ℕ → Arguments × ℕ
  number_arguments NoArgument n = (NoArgument, n)
  number_arguments (AndArgument x a es) n = let r = number a n in let q = number_arguments es r.1 in (AndArgument x r.0 q.0, q.1)

  pub number_guard : Guard → ℕ → Guard × ℕ
  number_guard Always n = (Always, n)
  number_guard (When a) n = let r = number a n in (When r.0, r.1)

  pub number_arms : Arms → ℕ → Arms × ℕ
  number_arms NoArm n = (NoArm, n)
  number_arms (AndArm p g a es) n =
      let i = number_pat p n in
      let j = number_guard g i.1 in
      let r = number a j.1 in
      let q = number_arms es r.1 in
      (AndArm i.0 j.0 r.0 q.0, q.1)

-- parameters, and a method after its parameters and its body
abbrev pub number_parameter : ParameterTree → ℕ → ParameterTree × ℕ
number_parameter x n = let r = number_written x.annotation n in (record { spot = put r.1 x.spot; name = x.name; annotation = r.0 }, suc r.1)

abbrev pub number_parameters : List ParameterTree → ℕ → List ParameterTree × ℕ
number_parameters [] n = ([], n)
number_parameters (x ∷ xs) n = let r = number_parameter x n in let q = number_parameters xs r.1 in (r.0 ∷ q.0, q.1)

abbrev pub number_method : MethodTree → ℕ → MethodTree × ℕ
number_method x n =
    let q = number_parameters x.parameters n in
    let r = number x.body q.1 in
    (record { spot = put r.1 x.spot; mode = x.mode; is_async = x.is_async; parameters = q.0; body = r.0 }, suc r.1)
