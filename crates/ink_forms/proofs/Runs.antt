-- The numbers of a numbered tree are one run: no two nodes have the same, and none is left out.
use Rattle.std.proofs.Common.{ℕ, suc, List, [], ◌∷◌, ◌++◌, Option, Some, None, refl, sym, subst}
use Rattle.ink_forms.specs.Trees.{Written, WrittenList, Named, Prefixed, Tuple, NoWritten, AndWritten, Pat, Pats, FieldPats, Wildcard, LitPat, Name, Constructor, Either, Fields, NoPat, AndPat, NoField, AndField, Term, Terms, Arguments, Guard, Arms, Lit, Var, SelfValue, Field, Borrow, Set, Swap, Let, Block, New, Arr, Call, Fn, Static, Match, Loop, Break, Next, Return, Recover, Panic, Drop, Statement, NoTerm, AndTerm, NoArgument, AndArgument, Always, When, NoArm, AndArm, ParameterTree, MethodTree}
use Rattle.ink_forms.specs.Numbers.{number, number_all, number_arguments, number_guard, number_arms, number_pat, number_pats, number_field_pats, number_written, number_written_list, number_option, number_parameter, number_parameters, number_method}
use Rattle.ink_forms.specs.Runs.{IsRun, numbers_of, numbers_of_all, numbers_of_arguments, numbers_of_guard, numbers_of_arms, numbers_of_pat, numbers_of_pats, numbers_of_field_pats, numbers_of_written, numbers_of_written_list, numbers_of_option, numbers_of_parameter, numbers_of_parameters, numbers_of_method}

pub then_run : (xs ys : List ℕ) (a b c : ℕ) → IsRun a xs b → IsRun b ys c → IsRun a (xs ++ ys) c
then_run [] ys a b c h k = subst (λ n. IsRun n ys c) (sym h) k
then_run (x ∷ xs) ys a b c h k = (h.0, then_run xs ys (suc a) b c h.1 k)

pub closed_run : (xs : List ℕ) (a b : ℕ) → IsRun a xs b → IsRun a (xs ++ b ∷ []) (suc b)
closed_run xs a b h = then_run xs (b ∷ []) a b (suc b) h (refl, refl)

mutual
  unfolding number_written

  pub run_written : (t : Written) (n : ℕ) → let r = number_written t n in IsRun n (numbers_of_written r.0) r.1
  run_written (Named s x ts) n = let r = number_written_list ts n in closed_run (numbers_of_written_list r.0) n r.1 (run_written_list ts n)
  run_written (Prefixed s x t) n = let r = number_written t n in closed_run (numbers_of_written r.0) n r.1 (run_written t n)
  run_written (Tuple s ts) n = let r = number_written_list ts n in closed_run (numbers_of_written_list r.0) n r.1 (run_written_list ts n)

  pub run_written_list : (ts : WrittenList) (n : ℕ) → let r = number_written_list ts n in IsRun n (numbers_of_written_list r.0) r.1
  run_written_list NoWritten n = refl
  run_written_list (AndWritten t ts) n = let r = number_written t n in let q = number_written_list ts r.1 in then_run (numbers_of_written r.0) (numbers_of_written_list q.0) n r.1 q.1 (run_written t n) (run_written_list ts r.1)

mutual
  unfolding number_pat

  pub run_pat : (p : Pat) (n : ℕ) → let r = number_pat p n in IsRun n (numbers_of_pat r.0) r.1
  run_pat (Wildcard s) n = (refl, refl)
  run_pat (LitPat s x) n = (refl, refl)
  run_pat (Name s m x) n = (refl, refl)
  run_pat (Constructor s x ps) n = let r = number_pats ps n in closed_run (numbers_of_pats r.0) n r.1 (run_pats ps n)
  run_pat (Either s ps) n = let r = number_pats ps n in closed_run (numbers_of_pats r.0) n r.1 (run_pats ps n)
  run_pat (Fields s fs) n = let r = number_field_pats fs n in closed_run (numbers_of_field_pats r.0) n r.1 (run_field_pats fs n)

  run_pats : (ps : Pats) (n : ℕ) → let r = number_pats ps n in IsRun n (numbers_of_pats r.0) r.1
  run_pats NoPat n = refl
  run_pats (AndPat p ps) n = let r = number_pat p n in let q = number_pats ps r.1 in then_run (numbers_of_pat r.0) (numbers_of_pats q.0) n r.1 q.1 (run_pat p n) (run_pats ps r.1)

  run_field_pats : (fs : FieldPats) (n : ℕ) → let r = number_field_pats fs n in IsRun n (numbers_of_field_pats r.0) r.1
  run_field_pats NoField n = refl
  run_field_pats (AndField x p fs) n = let r = number_pat p n in let q = number_field_pats fs r.1 in then_run (numbers_of_pat r.0) (numbers_of_field_pats q.0) n r.1 q.1 (run_pat p n) (run_field_pats fs r.1)

pub run_option : (t : Option Written) (n : ℕ) → let r = number_option t n in IsRun n (numbers_of_option r.0) r.1
run_option None n = refl
run_option (Some t) n = run_written t n

mutual
  unfolding number

  pub run : (t : Term) (n : ℕ) → let r = number t n in IsRun n (numbers_of r.0) r.1
  run (Lit s x) n = (refl, refl)
  run (Var s x) n = (refl, refl)
  run (SelfValue s) n = (refl, refl)
  run (Field s x a) n = let r = number a n in closed_run (numbers_of r.0) n r.1 (run a n)
  run (Borrow s x a) n = let r = number a n in closed_run (numbers_of r.0) n r.1 (run a n)
  run (Set s a b) n =
      let r = number a n in let q = number b r.1 in
      closed_run (numbers_of r.0 ++ numbers_of q.0) n q.1 (then_run (numbers_of r.0) (numbers_of q.0) n r.1 q.1 (run a n) (run b r.1))
  run (Swap s a b) n =
      let r = number a n in let q = number b r.1 in
      closed_run (numbers_of r.0 ++ numbers_of q.0) n q.1 (then_run (numbers_of r.0) (numbers_of q.0) n r.1 q.1 (run a n) (run b r.1))
  run (Let s x t a) n =
      let r = number_option t n in let q = number a r.1 in
      closed_run (numbers_of_option r.0 ++ numbers_of q.0) n q.1 (then_run (numbers_of_option r.0) (numbers_of q.0) n r.1 q.1 (run_option t n) (run a r.1))
  run (Block s k es) n = let q = number_all es n in closed_run (numbers_of_all q.0) n q.1 (run_all es n)
  run (New s x es) n = let q = number_arguments es n in closed_run (numbers_of_arguments q.0) n q.1 (run_arguments es n)
  run (Arr s es) n = let q = number_all es n in closed_run (numbers_of_all q.0) n q.1 (run_all es n)
  run (Call s x a es) n =
      let r = number a n in let q = number_all es r.1 in
      closed_run (numbers_of r.0 ++ numbers_of_all q.0) n q.1 (then_run (numbers_of r.0) (numbers_of_all q.0) n r.1 q.1 (run a n) (run_all es r.1))
  run (Fn s x es) n = let q = number_all es n in closed_run (numbers_of_all q.0) n q.1 (run_all es n)
  run (Static s x y es) n = let q = number_all es n in closed_run (numbers_of_all q.0) n q.1 (run_all es n)
  run (Match s x a es) n =
      let r = number a n in let q = number_arms es r.1 in
      closed_run (numbers_of r.0 ++ numbers_of_arms q.0) n q.1 (then_run (numbers_of r.0) (numbers_of_arms q.0) n r.1 q.1 (run a n) (run_arms es r.1))
  run (Loop s a) n = let r = number a n in closed_run (numbers_of r.0) n r.1 (run a n)
  run (Break s) n = (refl, refl)
  run (Next s) n = (refl, refl)
  run (Return s a) n = let r = number a n in closed_run (numbers_of r.0) n r.1 (run a n)
  run (Recover s a) n = let r = number a n in closed_run (numbers_of r.0) n r.1 (run a n)
  run (Panic s es) n = let q = number_all es n in closed_run (numbers_of_all q.0) n q.1 (run_all es n)
  run (Drop s a) n = let r = number a n in closed_run (numbers_of r.0) n r.1 (run a n)
  run (Statement s a) n = let r = number a n in closed_run (numbers_of r.0) n r.1 (run a n)

  run_all : (es : Terms) (n : ℕ) → let r = number_all es n in IsRun n (numbers_of_all r.0) r.1
  run_all NoTerm n = refl
  run_all (AndTerm a es) n = let r = number a n in let q = number_all es r.1 in then_run (numbers_of r.0) (numbers_of_all q.0) n r.1 q.1 (run a n) (run_all es r.1)

  run_arguments : (es : Arguments) (n : ℕ) → let r = number_arguments es n in IsRun n (numbers_of_arguments r.0) r.1
  run_arguments NoArgument n = refl
  run_arguments (AndArgument x a es) n = let r = number a n in let q = number_arguments es r.1 in then_run (numbers_of r.0) (numbers_of_arguments q.0) n r.1 q.1 (run a n) (run_arguments es r.1)

  run_guard : (g : Guard) (n : ℕ) → let r = number_guard g n in IsRun n (numbers_of_guard r.0) r.1
  run_guard Always n = refl
  run_guard (When a) n = run a n

  run_arms : (es : Arms) (n : ℕ) → let r = number_arms es n in IsRun n (numbers_of_arms r.0) r.1
  run_arms NoArm n = refl
  run_arms (AndArm p g a es) n =
      let i = number_pat p n in
      let j = number_guard g i.1 in
      let r = number a j.1 in
      let q = number_arms es r.1 in
      then_run (numbers_of_pat i.0) (numbers_of_guard j.0 ++ (numbers_of r.0 ++ numbers_of_arms q.0)) n i.1 q.1 (run_pat p n)
      (then_run (numbers_of_guard j.0) (numbers_of r.0 ++ numbers_of_arms q.0) i.1 j.1 q.1 (run_guard g i.1) (then_run (numbers_of r.0) (numbers_of_arms q.0) j.1 r.1 q.1 (run a j.1) (run_arms es r.1)))

run_parameter : (x : ParameterTree) (n : ℕ) → let r = number_parameter x n in IsRun n (numbers_of_parameter r.0) r.1
run_parameter x n = let r = number_written x.annotation n in closed_run (numbers_of_written r.0) n r.1 (run_written x.annotation n)

pub run_parameters : (xs : List ParameterTree) (n : ℕ) → let r = number_parameters xs n in IsRun n (numbers_of_parameters r.0) r.1
run_parameters [] n = refl
run_parameters (x ∷ xs) n =
    let r = number_parameter x n in let q = number_parameters xs r.1 in
    then_run (numbers_of_parameter r.0) (numbers_of_parameters q.0) n r.1 q.1 (run_parameter x n) (run_parameters xs r.1)

pub run_method : (x : MethodTree) (n : ℕ) → let r = number_method x n in IsRun n (numbers_of_method r.0) r.1
run_method x n =
    let q = number_parameters x.parameters n in let r = number x.body q.1 in
    closed_run (numbers_of_parameters q.0 ++ numbers_of r.0) n r.1 (then_run (numbers_of_parameters q.0) (numbers_of r.0) n q.1 r.1 (run_parameters x.parameters n) (run x.body q.1))
