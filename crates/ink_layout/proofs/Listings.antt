-- What the definitions come to for methods of tests/lowered/, instruction by instruction. The trees are those of the methods,
-- with the numbers of nodes in an order of their own; names and bytes are left out. tests/layout sees that the program
-- lists each method so.
use Rattle.std.proofs.Common.{◌≡◌, ◌+◌, ◌∷◌, ◌==◌, ℕ, true, false, [], None, Some, refl}
use Rattle.std.specs.Prelude.{◌&&◌, if◌then◌else◌}
use Rattle.ink_base.specs.declared.ident.BorrowKind.TheVariants as borrow
use Rattle.ink_code.specs.declared.instr.Instr.TheVariants as i
use Rattle.ink_findings.specs.declared.typed.Target.TheVariants as target
use Rattle.ink_forms.specs.declared.expr.Binding.TheVariants as binding
use Rattle.ink_forms.specs.declared.expr.Choice.TheVariants as choice
use Rattle.ink_forms.specs.declared.expr.Selector.TheVariants as selector
use Rattle.ink_forms.specs.declared.method.Mode.TheVariants as mode
use Rattle.ink_forms.specs.declared.word.Literal.{Literal}
use Rattle.ink_forms.specs.declared.word.Literal.TheVariants as literal
use Rattle.ink_forms.specs.declared.word.Made.TheVariants as made
use Rattle.ink_forms.specs.Trees.{Spot, MethodTree, Wildcard, LitPat, Name, Constructor, Either, Fields, NoPat, AndPat, NoField, AndField, ByName, Plain, Lit, Var, SelfValue, Field, Borrow, Set, Swap, Let, Block, New, Arr, Call, Fn, Static, Match, Loop, Break, Next, Return, Recover, Panic, Drop, Statement, NoTerm, AndTerm, NoArgument, AndArgument, Always, When, NoArm, AndArm}
use Rattle.ink_plan.specs.declared.plan.How.TheVariants as how
use Rattle.ink_layout.specs.Pieces.{Site}
use Rattle.ink_layout.specs.MethodCode.{code_of_method}

-- the node of a number
abbrev at : ℕ → Spot
at n = record { number = n; start = 0; place = 0 }

-- the constants of a module with so many integers: nil, false, true, the integers, and the texts
abbrev constants : ℕ → Literal → ℕ
constants integers literal.Nil = 0
constants integers (literal.Bool false) = 1
constants integers (literal.Bool true) = 2
constants integers (literal.Int k) = 3 + k
constants integers (literal.Text k) = 3 + integers + k

-- Fields, built-in methods, and a choice by a condition: `longer` of tests/lowered/paths.inko
abbrev reads_and_a_choice_site : Site
reads_and_a_choice_site =
    record {
      variables = 2;
      register = λ n. if n == 1 then 0 else (if n == 2 then 1 else (0));
      variable = λ n. if n == 3 then 1 else (if n == 6 then 2 else (if n == 10 then 1 else (if n == 15 then 2 else (0))));
      is_value = λ n. if n == 4 then true else (if n == 5 then true else (if n == 7 then true else (if n == 8 then true else (if n == 9 then true else (if n == 11 then true else (if n == 12 then true else (if n == 16 then true else (if n == 17 then true else (if n == 20 then true else (if n == 21 then true else (if n == 22 then true else (false))))))))))));
      is_borrow = λ n. if n == 1 then true else (if n == 2 then true else (if n == 3 then true else (if n == 6 then true else (if n == 10 then true else (if n == 15 then true else (false))))));
      is_nil = λ n. false;
      call = λ n. if n == 5 then (Some (target.Row 24)) else (if n == 8 then (Some (target.Row 24)) else (if n == 9 then (Some (target.Row 9)) else (if n == 12 then (Some (target.Row 24)) else (if n == 17 then (Some (target.Row 24)) else (None)))));
      takes = λ n. false;
      is_message = λ n. false;
      place = λ n. 0;
      kind = λ n. 0;
      tag = λ n. 0;
      order = λ n. [];
      is_process = λ n. false;
      field_count = λ n. 0;
      field_place = λ n x. 0;
      is_value_field = λ n k. false;
      tested_tag = λ n. None;
      constant = constants 1;
      ends = λ n. if n == 25 then (record { variable = 2; how = how.Sure } ∷ record { variable = 1; how = how.Sure } ∷ []) else ([]);
      old = λ n v. None;
      is_lent = false;
    }

abbrev reads_and_a_choice_tree : MethodTree
reads_and_a_choice_tree = record { spot = at 25; mode = mode.Static; is_async = false; parameters = []; body = (Block (at 24) 0 (AndTerm (Statement (at 23) (Match (at 22) choice.If (Call (at 9) (ByName 0) (Field (at 5) (selector.Field 0) (Field (at 4) (selector.Field 0) (Var (at 3) 0))) (AndTerm (Field (at 8) (selector.Field 0) (Field (at 7) (selector.Field 0) (Var (at 6) 0))) NoTerm)) (AndArm (LitPat (at 20) (literal.Bool true)) Always (Block (at 14) 0 (AndTerm (Statement (at 13) (Field (at 12) (selector.Field 0) (Field (at 11) (selector.Field 0) (Var (at 10) 0)))) NoTerm)) (AndArm (Wildcard (at 21)) Always (Block (at 19) 0 (AndTerm (Statement (at 18) (Field (at 17) (selector.Field 0) (Field (at 16) (selector.Field 0) (Var (at 15) 0)))) NoTerm)) NoArm)))) NoTerm)) }

pub reads_and_a_choice : code_of_method reads_and_a_choice_site reads_and_a_choice_tree ≡ i.Load 2 0 0 ∷ i.Prim 24 2 (2 ∷ []) ∷ i.Load 3 1 0 ∷ i.Prim 24 3 (3 ∷ []) ∷ i.Prim 9 2 (2 ∷ 3 ∷ []) ∷ i.JumpIf 2 9 ∷ i.Load 2 1 0 ∷ i.Prim 24 2 (2 ∷ []) ∷ i.Jump 11 ∷ i.Load 2 0 0 ∷ i.Prim 24 2 (2 ∷ []) ∷ i.Drop 1 ∷ i.Drop 0 ∷ i.Return 2 ∷ []
reads_and_a_choice = refl

-- A declaration, new objects, borrows, and a temporary that ends with its statement: `Main.main` of tests/lowered/paths.inko
abbrev borrows_site : Site
borrows_site =
    record {
      variables = 2;
      register = λ n. if n == 1 then 1 else (0);
      variable = λ n. if n == 4 then 1 else (0);
      is_value = λ n. if n == 2 then true else (if n == 6 then true else (if n == 9 then true else (if n == 10 then true else (false))));
      is_borrow = λ n. if n == 5 then true else (if n == 8 then true else (false));
      is_nil = λ n. if n == 1 then false else (if n == 10 then true else (false));
      call = λ n. if n == 9 then (Some (target.Method 0)) else (None);
      takes = λ n. false;
      is_message = λ n. false;
      place = λ n. 0;
      kind = λ n. if n == 3 then 13 else (if n == 7 then 13 else (0));
      tag = λ n. if n == 3 then 0 else (if n == 7 then 0 else (0));
      order = λ n. if n == 3 then (0 ∷ []) else (if n == 7 then (0 ∷ []) else ([]));
      is_process = λ n. false;
      field_count = λ n. 0;
      field_place = λ n x. 0;
      is_value_field = λ n k. false;
      tested_tag = λ n. None;
      constant = constants 1;
      ends = λ n. if n == 12 then (record { variable = 1; how = how.Sure } ∷ []) else ([]);
      old = λ n v. None;
      is_lent = true;
    }

abbrev borrows_tree : MethodTree
borrows_tree = record { spot = at 13; mode = mode.Static; is_async = false; parameters = []; body = (Block (at 12) 0 (AndTerm (Let (at 1) (binding.Fixed 0) None (New (at 3) (Plain (made.Named 0)) (AndArgument None (Lit (at 2) (literal.Text 0)) NoArgument))) (AndTerm (Statement (at 11) (Drop (at 10) (Fn (at 9) 0 (AndTerm (Borrow (at 5) borrow.Ref (Var (at 4) 0)) (AndTerm (Borrow (at 8) borrow.Ref (New (at 7) (Plain (made.Named 0)) (AndArgument None (Lit (at 6) (literal.Text 1)) NoArgument))) NoTerm))))) NoTerm))) }

pub borrows : code_of_method borrows_site borrows_tree ≡ i.Const 2 4 ∷ i.Make 2 13 0 (2 ∷ []) ∷ i.Move 1 2 ∷ i.Borrow 2 1 ∷ i.Const 3 5 ∷ i.Make 3 13 0 (3 ∷ []) ∷ i.Borrow 4 3 ∷ i.Invoke 4 0 (2 ∷ 4 ∷ []) ∷ i.Drop 3 ∷ i.Drop 1 ∷ i.Const 2 0 ∷ i.Drop 0 ∷ i.Return 2 ∷ []
borrows = refl

-- A value is copied, and a parameter ends with the method: `both` of tests/lowered/jumps.inko
abbrev a_copy_site : Site
a_copy_site =
    record {
      variables = 2;
      register = λ n. if n == 1 then 0 else (if n == 2 then 1 else (0));
      variable = λ n. if n == 3 then 2 else (0);
      is_value = λ n. if n == 2 then true else (if n == 3 then true else (false));
      is_borrow = λ n. false;
      is_nil = λ n. false;
      call = λ n. None;
      takes = λ n. false;
      is_message = λ n. false;
      place = λ n. 0;
      kind = λ n. 0;
      tag = λ n. 0;
      order = λ n. [];
      is_process = λ n. false;
      field_count = λ n. 0;
      field_place = λ n x. 0;
      is_value_field = λ n k. false;
      tested_tag = λ n. None;
      constant = constants 5;
      ends = λ n. if n == 6 then (record { variable = 2; how = how.Sure } ∷ record { variable = 1; how = how.Sure } ∷ []) else ([]);
      old = λ n v. None;
      is_lent = false;
    }

abbrev a_copy_tree : MethodTree
a_copy_tree = record { spot = at 6; mode = mode.Static; is_async = false; parameters = []; body = (Block (at 5) 0 (AndTerm (Statement (at 4) (Var (at 3) 0)) NoTerm)) }

pub a_copy : code_of_method a_copy_site a_copy_tree ≡ i.Copy 2 1 ∷ i.Drop 0 ∷ i.Return 2 ∷ []
a_copy = refl

-- A return amid operands: `early` of tests/lowered/jumps.inko
abbrev a_return_site : Site
a_return_site =
    record {
      variables = 2;
      register = λ n. if n == 1 then 0 else (if n == 2 then 1 else (0));
      variable = λ n. if n == 7 then 1 else (if n == 16 then 2 else (0));
      is_value = λ n. if n == 1 then true else (if n == 3 then true else (if n == 5 then true else (if n == 7 then true else (if n == 10 then true else (if n == 13 then true else (if n == 14 then true else (if n == 15 then true else (if n == 17 then true else (false)))))))));
      is_borrow = λ n. false;
      is_nil = λ n. if n == 2 then false else (false);
      call = λ n. if n == 17 then (Some (target.Method 0)) else (None);
      takes = λ n. false;
      is_message = λ n. false;
      place = λ n. 0;
      kind = λ n. if n == 4 then 13 else (0);
      tag = λ n. if n == 4 then 0 else (0);
      order = λ n. if n == 4 then (0 ∷ []) else ([]);
      is_process = λ n. false;
      field_count = λ n. 0;
      field_place = λ n x. 0;
      is_value_field = λ n k. false;
      tested_tag = λ n. None;
      constant = constants 4;
      ends = λ n. if n == 20 then (record { variable = 1; how = how.Sure } ∷ []) else ([]);
      old = λ n v. None;
      is_lent = false;
    }

abbrev a_return_tree : MethodTree
a_return_tree = record { spot = at 20; mode = mode.Static; is_async = false; parameters = []; body = (Block (at 19) 0 (AndTerm (Let (at 2) (binding.Fixed 0) None (New (at 4) (Plain (made.Named 0)) (AndArgument None (Lit (at 3) (literal.Text 0)) NoArgument))) (AndTerm (Statement (at 18) (Fn (at 17) 0 (AndTerm (Var (at 16) 0) (AndTerm (Match (at 15) choice.If (Var (at 7) 0) (AndArm (LitPat (at 13) (literal.Bool true)) Always (Block (at 9) 0 (AndTerm (Statement (at 8) (Return (at 6) (Lit (at 5) (literal.Int 0)))) NoTerm)) (AndArm (Wildcard (at 14)) Always (Block (at 12) 0 (AndTerm (Statement (at 11) (Lit (at 10) (literal.Int 1))) NoTerm)) NoArm))) NoTerm)))) NoTerm))) }

pub a_return : code_of_method a_return_site a_return_tree ≡ i.Const 2 7 ∷ i.Make 2 13 0 (2 ∷ []) ∷ i.Move 1 2 ∷ i.Move 2 1 ∷ i.Copy 3 0 ∷ i.JumpIf 3 8 ∷ i.Const 3 4 ∷ i.Jump 11 ∷ i.Const 3 3 ∷ i.Drop 2 ∷ i.Return 3 ∷ i.Invoke 2 0 (2 ∷ 3 ∷ []) ∷ i.Return 2 ∷ []
a_return = refl

-- A loop, a break out of it, and its next turn: `loops` of tests/lowered/jumps.inko
abbrev a_loop_site : Site
a_loop_site =
    record {
      variables = 3;
      register = λ n. if n == 1 then 0 else (if n == 2 then 1 else (if n == 3 then 2 else (0)));
      variable = λ n. if n == 7 then 2 else (if n == 9 then 2 else (if n == 13 then 1 else (if n == 14 then 2 else (if n == 24 then 2 else (if n == 35 then 3 else (if n == 36 then 2 else (if n == 40 then 2 else (if n == 41 then 2 else (if n == 46 then 2 else (if n == 47 then 1 else (if n == 67 then 2 else (0))))))))))));
      is_value = λ n. if n == 1 then true else (if n == 2 then true else (if n == 4 then true else (if n == 5 then true else (if n == 7 then true else (if n == 8 then true else (if n == 9 then true else (if n == 10 then true else (if n == 11 then true else (if n == 13 then true else (if n == 14 then true else (if n == 15 then true else (if n == 19 then true else (if n == 20 then true else (if n == 21 then true else (if n == 22 then true else (if n == 24 then true else (if n == 25 then true else (if n == 26 then true else (if n == 30 then true else (if n == 31 then true else (if n == 32 then true else (if n == 33 then true else (if n == 36 then true else (if n == 37 then true else (if n == 38 then true else (if n == 40 then true else (if n == 41 then true else (if n == 42 then true else (if n == 43 then true else (if n == 44 then true else (if n == 46 then true else (if n == 47 then true else (if n == 48 then true else (if n == 52 then true else (if n == 53 then true else (if n == 54 then true else (if n == 55 then true else (if n == 58 then true else (if n == 59 then true else (if n == 62 then true else (if n == 63 then true else (if n == 64 then true else (if n == 65 then true else (if n == 67 then true else (false)))))))))))))))))))))))))))))))))))))))))))));
      is_borrow = λ n. false;
      is_nil = λ n. if n == 2 then false else (if n == 3 then false else (if n == 11 then true else (if n == 19 then true else (if n == 22 then true else (if n == 30 then true else (if n == 33 then true else (if n == 38 then true else (if n == 44 then true else (if n == 52 then true else (if n == 55 then true else (if n == 59 then true else (if n == 64 then true else (if n == 65 then true else (false))))))))))))));
      call = λ n. if n == 10 then (Some (target.Row 0)) else (if n == 15 then (Some (target.Row 5)) else (if n == 26 then (Some (target.Row 5)) else (if n == 37 then (Some (target.Method 0)) else (if n == 43 then (Some (target.Row 0)) else (if n == 48 then (Some (target.Row 5)) else (None))))));
      takes = λ n. false;
      is_message = λ n. false;
      place = λ n. 0;
      kind = λ n. if n == 6 then 13 else (0);
      tag = λ n. if n == 6 then 0 else (0);
      order = λ n. if n == 6 then (0 ∷ []) else ([]);
      is_process = λ n. false;
      field_count = λ n. 0;
      field_place = λ n x. 0;
      is_value_field = λ n k. false;
      tested_tag = λ n. None;
      constant = constants 4;
      ends = λ n. if n == 16 then (record { variable = 3; how = how.Sure } ∷ []) else (if n == 27 then (record { variable = 3; how = how.Sure } ∷ []) else (if n == 49 then (record { variable = 3; how = how.Sure } ∷ []) else (if n == 70 then (record { variable = 2; how = how.Sure } ∷ record { variable = 1; how = how.Sure } ∷ []) else ([]))));
      old = λ n v. None;
      is_lent = false;
    }

abbrev a_loop_tree : MethodTree
a_loop_tree = record { spot = at 70; mode = mode.Static; is_async = false; parameters = []; body = (Block (at 69) 0 (AndTerm (Let (at 2) (binding.Fixed 0) None (Lit (at 4) (literal.Int 0))) (AndTerm (Statement (at 66) (Loop (at 65) (Match (at 64) choice.While (Lit (at 58) (literal.Bool true)) (AndArm (LitPat (at 62) (literal.Bool true)) Always (Statement (at 60) (Drop (at 59) (Block (at 57) 0 (AndTerm (Let (at 3) (binding.Fixed 0) None (New (at 6) (Plain (made.Named 0)) (AndArgument None (Lit (at 5) (literal.Text 0)) NoArgument))) (AndTerm (Statement (at 45) (Set (at 44) (Var (at 40) 0) (Call (at 43) (ByName 0) (Var (at 41) 0) (AndTerm (Lit (at 42) (literal.Int 1)) NoTerm)))) (AndTerm (Statement (at 56) (Match (at 55) choice.If (Call (at 48) (ByName 0) (Var (at 46) 0) (AndTerm (Var (at 47) 0) NoTerm)) (AndArm (LitPat (at 53) (literal.Bool true)) Always (Block (at 51) 0 (AndTerm (Statement (at 50) (Break (at 49))) NoTerm)) (AndArm (Wildcard (at 54)) Always (Lit (at 52) literal.Nil) NoArm)))) (AndTerm (Statement (at 34) (Match (at 33) choice.If (Call (at 26) (ByName 0) (Var (at 24) 0) (AndTerm (Lit (at 25) (literal.Int 2)) NoTerm)) (AndArm (LitPat (at 31) (literal.Bool true)) Always (Block (at 29) 0 (AndTerm (Statement (at 28) (Next (at 27))) NoTerm)) (AndArm (Wildcard (at 32)) Always (Lit (at 30) literal.Nil) NoArm)))) (AndTerm (Statement (at 39) (Drop (at 38) (Fn (at 37) 0 (AndTerm (Var (at 35) 0) (AndTerm (Var (at 36) 0) NoTerm))))) NoTerm)))))))) (AndArm (Wildcard (at 63)) Always (Break (at 61)) NoArm))))) (AndTerm (Statement (at 68) (Var (at 67) 0)) NoTerm)))) }

pub a_loop : code_of_method a_loop_site a_loop_tree ≡ i.Const 3 3 ∷ i.Move 1 3 ∷ i.Const 3 2 ∷ i.JumpIf 3 5 ∷ i.Jump 30 ∷ i.Const 3 7 ∷ i.Make 3 13 0 (3 ∷ []) ∷ i.Move 2 3 ∷ i.Const 3 4 ∷ i.Copy 4 1 ∷ i.Prim 0 3 (4 ∷ 3 ∷ []) ∷ i.Move 1 3 ∷ i.Copy 3 0 ∷ i.Copy 4 1 ∷ i.Prim 5 3 (4 ∷ 3 ∷ []) ∷ i.JumpIf 3 17 ∷ i.Jump 19 ∷ i.Drop 2 ∷ i.Jump 30 ∷ i.Const 3 5 ∷ i.Copy 4 1 ∷ i.Prim 5 3 (4 ∷ 3 ∷ []) ∷ i.JumpIf 3 24 ∷ i.Jump 26 ∷ i.Drop 2 ∷ i.Jump 2 ∷ i.Move 3 2 ∷ i.Copy 4 1 ∷ i.Invoke 3 0 (3 ∷ 4 ∷ []) ∷ i.Jump 2 ∷ i.Copy 3 1 ∷ i.Return 3 ∷ []
a_loop = refl

-- A `try`, whose error is returned: `tried` of tests/lowered/jumps.inko
abbrev a_try_site : Site
a_try_site =
    record {
      variables = 3;
      register = λ n. if n == 1 then 0 else (if n == 2 then 1 else (if n == 3 then 2 else (0)));
      variable = λ n. if n == 2 then 2 else (if n == 3 then 3 else (if n == 6 then 2 else (if n == 7 then 3 else (if n == 8 then 1 else (0)))));
      is_value = λ n. if n == 2 then true else (if n == 3 then true else (if n == 6 then true else (if n == 7 then true else (if n == 11 then true else (if n == 12 then true else (if n == 13 then true else (false)))))));
      is_borrow = λ n. false;
      is_nil = λ n. false;
      call = λ n. if n == 13 then (Some (target.Row 0)) else (None);
      takes = λ n. false;
      is_message = λ n. false;
      place = λ n. 0;
      kind = λ n. if n == 9 then 6 else (if n == 14 then 6 else (0));
      tag = λ n. if n == 9 then 1 else (if n == 14 then 0 else (0));
      order = λ n. if n == 9 then (0 ∷ []) else (if n == 14 then (0 ∷ []) else ([]));
      is_process = λ n. false;
      field_count = λ n. if n == 4 then 1 else (if n == 5 then 1 else (0));
      field_place = λ n x. 0;
      is_value_field = λ n k. false;
      tested_tag = λ n. if n == 4 then (Some 8) else (if n == 5 then (Some 9) else (None));
      constant = constants 5;
      ends = λ n. [];
      old = λ n v. None;
      is_lent = false;
    }

abbrev a_try_tree : MethodTree
a_try_tree = record { spot = at 17; mode = mode.Static; is_async = false; parameters = []; body = (Block (at 16) 0 (AndTerm (Statement (at 15) (New (at 14) (Plain (made.Named 0)) (AndArgument None (Call (at 13) (ByName 0) (Match (at 11) choice.Try (Var (at 8) 0) (AndArm (Constructor (at 4) made.Tuple2 (AndPat (Name (at 2) false 0) NoPat)) Always (Var (at 6) 0) (AndArm (Constructor (at 5) made.Tuple2 (AndPat (Name (at 3) false 0) NoPat)) Always (Return (at 10) (New (at 9) (Plain (made.Named 0)) (AndArgument None (Var (at 7) 0) NoArgument))) NoArm))) (AndTerm (Lit (at 12) (literal.Int 1)) NoTerm)) NoArgument))) NoTerm)) }

pub a_try : code_of_method a_try_site a_try_tree ≡ i.Move 3 0 ∷ i.Tag 4 3 ∷ i.Const 5 8 ∷ i.Prim 5 4 (4 ∷ 5 ∷ []) ∷ i.JumpIf 4 6 ∷ i.Jump 10 ∷ i.TakeApart (4 ∷ []) 3 ∷ i.Move 1 4 ∷ i.Copy 3 1 ∷ i.Jump 15 ∷ i.TakeApart (4 ∷ []) 3 ∷ i.Move 2 4 ∷ i.Copy 3 2 ∷ i.Make 3 6 1 (3 ∷ []) ∷ i.Return 3 ∷ i.Const 4 4 ∷ i.Prim 0 3 (3 ∷ 4 ∷ []) ∷ i.Make 3 6 0 (3 ∷ []) ∷ i.Return 3 ∷ []
a_try = refl

-- A write to a field, and a swap of one: `rename` of tests/lowered/writes.inko
abbrev writes_to_fields_site : Site
writes_to_fields_site =
    record {
      variables = 2;
      register = λ n. if n == 1 then 0 else (if n == 2 then 1 else (0));
      variable = λ n. if n == 3 then 1 else (if n == 6 then 2 else (if n == 9 then 1 else (if n == 11 then 2 else (0))));
      is_value = λ n. if n == 2 then true else (if n == 5 then true else (if n == 6 then true else (if n == 7 then true else (if n == 11 then true else (false)))));
      is_borrow = λ n. if n == 1 then true else (if n == 3 then true else (if n == 4 then true else (if n == 9 then true else (false))));
      is_nil = λ n. if n == 7 then true else (false);
      call = λ n. None;
      takes = λ n. false;
      is_message = λ n. false;
      place = λ n. if n == 4 then 0 else (if n == 5 then 0 else (if n == 10 then 0 else (0)));
      kind = λ n. if n == 12 then 13 else (0);
      tag = λ n. if n == 12 then 0 else (0);
      order = λ n. if n == 12 then (0 ∷ []) else ([]);
      is_process = λ n. false;
      field_count = λ n. 0;
      field_place = λ n x. 0;
      is_value_field = λ n k. false;
      tested_tag = λ n. None;
      constant = constants 0;
      ends = λ n. if n == 16 then (record { variable = 2; how = how.Sure } ∷ record { variable = 1; how = how.Sure } ∷ []) else ([]);
      old = λ n v. None;
      is_lent = false;
    }

abbrev writes_to_fields_tree : MethodTree
writes_to_fields_tree = record { spot = at 16; mode = mode.Static; is_async = false; parameters = []; body = (Block (at 15) 0 (AndTerm (Statement (at 8) (Set (at 7) (Field (at 5) (selector.Field 0) (Field (at 4) (selector.Field 0) (Var (at 3) 0))) (Var (at 6) 0))) (AndTerm (Statement (at 14) (Swap (at 13) (Field (at 10) (selector.Field 0) (Var (at 9) 0)) (New (at 12) (Plain (made.Named 0)) (AndArgument None (Var (at 11) 0) NoArgument)))) NoTerm))) }

pub writes_to_fields : code_of_method writes_to_fields_site writes_to_fields_tree ≡ i.Copy 2 1 ∷ i.LoadBorrow 3 0 0 ∷ i.Store 4 3 0 2 ∷ i.Drop 3 ∷ i.Copy 2 1 ∷ i.Make 2 13 0 (2 ∷ []) ∷ i.Store 2 0 0 2 ∷ i.Drop 0 ∷ i.Return 2 ∷ []
writes_to_fields = refl

-- A write to a variable, and a drop of one that may be gone: `pick` of tests/lowered/writes.inko
abbrev a_write_to_a_variable_site : Site
a_write_to_a_variable_site =
    record {
      variables = 3;
      register = λ n. if n == 1 then 0 else (if n == 2 then 1 else (if n == 3 then 2 else (0)));
      variable = λ n. if n == 8 then 2 else (if n == 9 then 3 else (if n == 11 then 1 else (0)));
      is_value = λ n. if n == 1 then true else (if n == 4 then true else (if n == 6 then true else (if n == 10 then true else (if n == 11 then true else (if n == 14 then true else (if n == 15 then true else (if n == 16 then true else (if n == 17 then true else (false)))))))));
      is_borrow = λ n. false;
      is_nil = λ n. if n == 2 then false else (if n == 3 then false else (if n == 10 then true else (if n == 14 then true else (if n == 17 then true else (false)))));
      call = λ n. None;
      takes = λ n. false;
      is_message = λ n. false;
      place = λ n. 0;
      kind = λ n. if n == 5 then 13 else (if n == 7 then 13 else (0));
      tag = λ n. if n == 5 then 0 else (if n == 7 then 0 else (0));
      order = λ n. if n == 5 then (0 ∷ []) else (if n == 7 then (0 ∷ []) else ([]));
      is_process = λ n. false;
      field_count = λ n. 0;
      field_place = λ n x. 0;
      is_value_field = λ n k. false;
      tested_tag = λ n. None;
      constant = constants 1;
      ends = λ n. if n == 19 then (record { variable = 3; how = how.Maybe } ∷ record { variable = 2; how = how.Sure } ∷ []) else (if n == 20 then (record { variable = 1; how = how.Sure } ∷ []) else ([]));
      old = λ n v. if n == 10 && v == 2 then Some how.Sure else (None);
      is_lent = false;
    }

abbrev a_write_to_a_variable_tree : MethodTree
a_write_to_a_variable_tree = record { spot = at 20; mode = mode.Static; is_async = false; parameters = []; body = (Block (at 19) 0 (AndTerm (Let (at 2) (binding.Fixed 0) None (New (at 5) (Plain (made.Named 0)) (AndArgument None (Lit (at 4) (literal.Text 0)) NoArgument))) (AndTerm (Let (at 3) (binding.Fixed 0) None (New (at 7) (Plain (made.Named 0)) (AndArgument None (Lit (at 6) (literal.Text 1)) NoArgument))) (AndTerm (Statement (at 18) (Match (at 17) choice.If (Var (at 11) 0) (AndArm (LitPat (at 15) (literal.Bool true)) Always (Block (at 13) 0 (AndTerm (Statement (at 12) (Set (at 10) (Var (at 8) 0) (Var (at 9) 0))) NoTerm)) (AndArm (Wildcard (at 16)) Always (Lit (at 14) literal.Nil) NoArm)))) NoTerm)))) }

pub a_write_to_a_variable : code_of_method a_write_to_a_variable_site a_write_to_a_variable_tree ≡ i.Const 3 4 ∷ i.Make 3 13 0 (3 ∷ []) ∷ i.Move 1 3 ∷ i.Const 3 5 ∷ i.Make 3 13 0 (3 ∷ []) ∷ i.Move 2 3 ∷ i.Copy 3 0 ∷ i.JumpIf 3 9 ∷ i.Jump 12 ∷ i.Move 3 2 ∷ i.Exchange 1 3 ∷ i.Drop 3 ∷ i.DropMaybe 2 ∷ i.Drop 1 ∷ i.Const 3 0 ∷ i.Return 3 ∷ []
a_write_to_a_variable = refl

-- Arms below a borrow, a guard that reads what is matched, and alternatives: `area` of tests/lowered/choices.inko
abbrev arms_below_a_borrow_site : Site
arms_below_a_borrow_site =
    record {
      variables = 4;
      register = λ n. if n == 1 then 0 else (if n == 2 then 1 else (if n == 20 then 2 else (if n == 26 then 3 else (0))));
      variable = λ n. if n == 2 then 2 else (if n == 4 then 2 else (if n == 7 then 2 else (if n == 20 then 20 else (if n == 22 then 20 else (if n == 23 then 20 else (if n == 26 then 26 else (if n == 29 then 26 else (if n == 31 then 1 else (0)))))))));
      is_value = λ n. if n == 2 then true else (if n == 4 then true else (if n == 5 then true else (if n == 6 then true else (if n == 7 then true else (if n == 9 then true else (if n == 11 then true else (if n == 14 then true else (if n == 16 then true else (if n == 18 then true else (if n == 20 then true else (if n == 22 then true else (if n == 23 then true else (if n == 24 then true else (if n == 26 then true else (if n == 29 then true else (if n == 32 then true else (false)))))))))))))))));
      is_borrow = λ n. if n == 1 then true else (if n == 3 then true else (if n == 10 then true else (if n == 12 then true else (if n == 13 then true else (if n == 17 then true else (if n == 21 then true else (if n == 28 then true else (if n == 31 then true else (false)))))))));
      is_nil = λ n. false;
      call = λ n. if n == 6 then (Some (target.Row 9)) else (if n == 24 then (Some (target.Row 2)) else (None));
      takes = λ n. false;
      is_message = λ n. false;
      place = λ n. 0;
      kind = λ n. 0;
      tag = λ n. 0;
      order = λ n. [];
      is_process = λ n. false;
      field_count = λ n. if n == 3 then 1 else (if n == 10 then 1 else (if n == 12 then 1 else (if n == 17 then 1 else (if n == 21 then 1 else (if n == 28 then 2 else (0))))));
      field_place = λ n x. 0;
      is_value_field = λ n k. false;
      tested_tag = λ n. if n == 3 then (Some 7) else (if n == 10 then (Some 7) else (if n == 12 then (Some 8) else (if n == 17 then (Some 7) else (if n == 21 then (Some 8) else (if n == 28 then (Some 9) else (None))))));
      constant = constants 4;
      ends = λ n. if n == 35 then (record { variable = 1; how = how.Sure } ∷ []) else ([]);
      old = λ n v. None;
      is_lent = false;
    }

abbrev arms_below_a_borrow_tree : MethodTree
arms_below_a_borrow_tree = record { spot = at 35; mode = mode.Static; is_async = false; parameters = []; body = (Block (at 34) 0 (AndTerm (Statement (at 33) (Match (at 32) choice.Match (Var (at 31) 0) (AndArm (Constructor (at 3) made.Tuple2 (AndPat (Name (at 2) false 0) NoPat)) (When (Call (at 6) (ByName 0) (Var (at 4) 0) (AndTerm (Lit (at 5) (literal.Int 0)) NoTerm))) (Statement (at 8) (Var (at 7) 0)) (AndArm (Either (at 13) (AndPat (Constructor (at 10) made.Tuple2 (AndPat (LitPat (at 9) (literal.Int 0)) NoPat)) (AndPat (Constructor (at 12) made.Tuple2 (AndPat (LitPat (at 11) (literal.Int 0)) NoPat)) NoPat))) Always (Statement (at 15) (Lit (at 14) (literal.Int 1))) (AndArm (Constructor (at 17) made.Tuple2 (AndPat (Wildcard (at 16)) NoPat)) Always (Statement (at 19) (Lit (at 18) (literal.Int 2))) (AndArm (Constructor (at 21) made.Tuple2 (AndPat (Name (at 20) false 0) NoPat)) Always (Statement (at 25) (Call (at 24) (ByName 0) (Var (at 22) 0) (AndTerm (Var (at 23) 0) NoTerm))) (AndArm (Constructor (at 28) made.Tuple2 (AndPat (Wildcard (at 27)) (AndPat (Name (at 26) false 0) NoPat))) Always (Statement (at 30) (Var (at 29) 0)) NoArm))))))) NoTerm)) }

pub arms_below_a_borrow : code_of_method arms_below_a_borrow_site arms_below_a_borrow_tree ≡ i.Borrow 4 0 ∷ i.Tag 5 4 ∷ i.Const 6 7 ∷ i.Prim 5 5 (5 ∷ 6 ∷ []) ∷ i.JumpIf 5 6 ∷ i.Jump 15 ∷ i.Const 5 3 ∷ i.LoadBorrow 6 4 0 ∷ i.Prim 9 5 (6 ∷ 5 ∷ []) ∷ i.JumpIf 5 11 ∷ i.Jump 15 ∷ i.LoadBorrow 1 4 0 ∷ i.Drop 4 ∷ i.Copy 4 1 ∷ i.Jump 75 ∷ i.Tag 5 4 ∷ i.Const 6 7 ∷ i.Prim 5 5 (5 ∷ 6 ∷ []) ∷ i.JumpIf 5 20 ∷ i.Jump 24 ∷ i.LoadBorrow 6 4 0 ∷ i.Copy 5 6 ∷ i.Const 7 3 ∷ i.Prim 5 5 (5 ∷ 7 ∷ []) ∷ i.JumpIf 5 35 ∷ i.Tag 5 4 ∷ i.Const 6 8 ∷ i.Prim 5 5 (5 ∷ 6 ∷ []) ∷ i.JumpIf 5 30 ∷ i.Jump 34 ∷ i.LoadBorrow 6 4 0 ∷ i.Copy 5 6 ∷ i.Const 7 3 ∷ i.Prim 5 5 (5 ∷ 7 ∷ []) ∷ i.JumpIf 5 35 ∷ i.JumpIf 5 37 ∷ i.Jump 53 ∷ i.Tag 5 4 ∷ i.Const 6 7 ∷ i.Prim 5 5 (5 ∷ 6 ∷ []) ∷ i.JumpIf 5 42 ∷ i.Jump 46 ∷ i.LoadBorrow 6 4 0 ∷ i.Copy 5 6 ∷ i.Const 7 3 ∷ i.Prim 5 5 (5 ∷ 7 ∷ []) ∷ i.JumpIf 5 48 ∷ i.Jump 50 ∷ i.Drop 4 ∷ i.Jump 51 ∷ i.Drop 4 ∷ i.Const 4 4 ∷ i.Jump 75 ∷ i.Tag 5 4 ∷ i.Const 6 7 ∷ i.Prim 5 5 (5 ∷ 6 ∷ []) ∷ i.JumpIf 5 58 ∷ i.Jump 61 ∷ i.Drop 4 ∷ i.Const 4 5 ∷ i.Jump 75 ∷ i.Tag 5 4 ∷ i.Const 6 8 ∷ i.Prim 5 5 (5 ∷ 6 ∷ []) ∷ i.JumpIf 5 66 ∷ i.Jump 72 ∷ i.LoadBorrow 2 4 0 ∷ i.Drop 4 ∷ i.Copy 4 2 ∷ i.Copy 5 2 ∷ i.Prim 2 4 (5 ∷ 4 ∷ []) ∷ i.Jump 75 ∷ i.LoadBorrow 3 4 1 ∷ i.Drop 4 ∷ i.Copy 4 3 ∷ i.Drop 0 ∷ i.Return 4 ∷ []
arms_below_a_borrow = refl

-- An arm that takes apart what is matched, and a path in its guard: `opened` of tests/lowered/choices.inko
abbrev arms_that_take_apart_site : Site
arms_that_take_apart_site =
    record {
      variables = 2;
      register = λ n. if n == 1 then 0 else (if n == 2 then 1 else (0));
      variable = λ n. if n == 2 then 2 else (if n == 5 then 2 else (if n == 10 then 2 else (if n == 16 then 1 else (0))));
      is_value = λ n. if n == 3 then true else (if n == 6 then true else (if n == 7 then true else (if n == 8 then true else (if n == 9 then true else (if n == 13 then true else (false))))));
      is_borrow = λ n. if n == 5 then true else (false);
      is_nil = λ n. false;
      call = λ n. if n == 7 then (Some (target.Row 24)) else (if n == 9 then (Some (target.Row 9)) else (None));
      takes = λ n. false;
      is_message = λ n. false;
      place = λ n. if n == 6 then 0 else (0);
      kind = λ n. if n == 14 then 13 else (0);
      tag = λ n. if n == 14 then 0 else (0);
      order = λ n. if n == 14 then (0 ∷ []) else ([]);
      is_process = λ n. false;
      field_count = λ n. if n == 4 then 2 else (0);
      field_place = λ n x. 0;
      is_value_field = λ n k. false;
      tested_tag = λ n. if n == 4 then (Some 9) else (None);
      constant = constants 3;
      ends = λ n. [];
      old = λ n v. None;
      is_lent = false;
    }

abbrev arms_that_take_apart_tree : MethodTree
arms_that_take_apart_tree = record { spot = at 20; mode = mode.Static; is_async = false; parameters = []; body = (Block (at 19) 0 (AndTerm (Statement (at 18) (Match (at 17) choice.Match (Var (at 16) 0) (AndArm (Constructor (at 4) made.Tuple2 (AndPat (Name (at 2) false 0) (AndPat (Wildcard (at 3)) NoPat))) (When (Call (at 9) (ByName 0) (Field (at 7) (selector.Field 0) (Field (at 6) (selector.Field 0) (Var (at 5) 0))) (AndTerm (Lit (at 8) (literal.Int 1)) NoTerm))) (Statement (at 11) (Var (at 10) 0)) (AndArm (Wildcard (at 12)) Always (Statement (at 15) (New (at 14) (Plain (made.Named 0)) (AndArgument None (Lit (at 13) (literal.Text 0)) NoArgument))) NoArm)))) NoTerm)) }

pub arms_that_take_apart : code_of_method arms_that_take_apart_site arms_that_take_apart_tree ≡ i.Move 2 0 ∷ i.Tag 3 2 ∷ i.Const 4 9 ∷ i.Prim 5 3 (3 ∷ 4 ∷ []) ∷ i.JumpIf 3 6 ∷ i.Jump 18 ∷ i.LoadBorrow 3 2 0 ∷ i.Load 4 3 0 ∷ i.Prim 24 4 (4 ∷ []) ∷ i.Const 5 4 ∷ i.Prim 9 4 (4 ∷ 5 ∷ []) ∷ i.Drop 3 ∷ i.JumpIf 4 14 ∷ i.Jump 18 ∷ i.TakeApart (3 ∷ 4 ∷ []) 2 ∷ i.Move 1 3 ∷ i.Move 2 1 ∷ i.Jump 21 ∷ i.Drop 2 ∷ i.Const 2 6 ∷ i.Make 2 13 0 (2 ∷ []) ∷ i.Return 2 ∷ []
arms_that_take_apart = refl

-- The state of a process, a call on it, and a promise that is kept: `Adder.add` of tests/lowered/processes.inko
abbrev a_message_is_handled_site : Site
a_message_is_handled_site =
    record {
      variables = 3;
      register = λ n. if n == 1 then 1 else (if n == 2 then 2 else (0));
      variable = λ n. if n == 3 then 1 else (if n == 19 then 2 else (0));
      is_value = λ n. if n == 4 then true else (if n == 6 then true else (if n == 8 then true else (if n == 10 then true else (if n == 11 then true else (if n == 12 then true else (if n == 15 then true else (if n == 16 then true else (if n == 17 then true else (if n == 21 then true else (if n == 22 then true else (if n == 23 then true else (false))))))))))));
      is_borrow = λ n. if n == 5 then true else (if n == 7 then true else (if n == 9 then true else (if n == 14 then true else (if n == 20 then true else (false)))));
      is_nil = λ n. if n == 12 then true else (if n == 16 then true else (if n == 17 then true else (if n == 22 then true else (if n == 23 then true else (false)))));
      call = λ n. if n == 5 then (Some (target.Row 33)) else (if n == 6 then (Some (target.Row 40)) else (if n == 11 then (Some (target.Row 0)) else (if n == 16 then (Some (target.Method 1)) else (if n == 22 then (Some (target.Row 44)) else (None)))));
      takes = λ n. if n == 6 then true else (if n == 22 then true else (false));
      is_message = λ n. false;
      place = λ n. if n == 8 then 0 else (if n == 10 then 0 else (if n == 21 then 0 else (0)));
      kind = λ n. 0;
      tag = λ n. 0;
      order = λ n. [];
      is_process = λ n. false;
      field_count = λ n. 0;
      field_place = λ n x. 0;
      is_value_field = λ n k. false;
      tested_tag = λ n. None;
      constant = constants 3;
      ends = λ n. if n == 26 then (record { variable = 1; how = how.Sure } ∷ []) else ([]);
      old = λ n v. None;
      is_lent = true;
    }

abbrev a_message_is_handled_tree : MethodTree
a_message_is_handled_tree = record { spot = at 26; mode = mode.Static; is_async = false; parameters = []; body = (Block (at 25) 0 (AndTerm (Statement (at 13) (Set (at 12) (Field (at 8) (selector.Field 0) (SelfValue (at 7))) (Call (at 11) (ByName 0) (Field (at 10) (selector.Field 0) (SelfValue (at 9))) (AndTerm (Field (at 6) (selector.Field 0) (Call (at 5) (ByName 0) (Var (at 3) 0) (AndTerm (Lit (at 4) (literal.Int 0)) NoTerm))) NoTerm)))) (AndTerm (Statement (at 18) (Drop (at 17) (Call (at 16) (ByName 0) (SelfValue (at 14)) (AndTerm (SelfValue (at 15)) NoTerm)))) (AndTerm (Statement (at 24) (Drop (at 23) (Call (at 22) (ByName 0) (Var (at 19) 0) (AndTerm (Field (at 21) (selector.Field 0) (SelfValue (at 20))) NoTerm)))) NoTerm)))) }

pub a_message_is_handled : code_of_method a_message_is_handled_site a_message_is_handled_tree ≡ i.Const 3 3 ∷ i.Borrow 4 1 ∷ i.Prim 33 3 (4 ∷ 3 ∷ []) ∷ i.Prim 40 3 (3 ∷ []) ∷ i.Load 4 0 0 ∷ i.Prim 0 3 (4 ∷ 3 ∷ []) ∷ i.Store 3 0 0 3 ∷ i.MyProc 3 ∷ i.Borrow 4 0 ∷ i.Invoke 3 1 (4 ∷ 3 ∷ []) ∷ i.Load 3 0 0 ∷ i.Move 4 2 ∷ i.PromiseSet 4 3 ∷ i.Const 3 0 ∷ i.Drop 1 ∷ i.Drop 0 ∷ i.Return 3 ∷ []
a_message_is_handled = refl

-- A line that is written, and a temporary receiver: `Adder.note` of tests/lowered/processes.inko
abbrev a_line_is_written_site : Site
a_line_is_written_site =
    record {
      variables = 2;
      register = λ n. if n == 1 then 1 else (0);
      variable = λ n. 0;
      is_value = λ n. if n == 1 then true else (if n == 2 then true else (if n == 4 then true else (if n == 5 then true else (if n == 6 then true else (if n == 8 then true else (if n == 9 then true else (false)))))));
      is_borrow = λ n. if n == 3 then true else (false);
      is_nil = λ n. if n == 8 then true else (if n == 9 then true else (false));
      call = λ n. if n == 5 then (Some (target.Row 16)) else (if n == 6 then (Some (target.Row 21)) else (if n == 7 then (Some (target.Row 47)) else (if n == 8 then (Some (target.Row 46)) else (None))));
      takes = λ n. false;
      is_message = λ n. false;
      place = λ n. if n == 4 then 0 else (0);
      kind = λ n. 0;
      tag = λ n. 0;
      order = λ n. [];
      is_process = λ n. false;
      field_count = λ n. 0;
      field_place = λ n x. 0;
      is_value_field = λ n k. false;
      tested_tag = λ n. None;
      constant = constants 3;
      ends = λ n. [];
      old = λ n v. None;
      is_lent = true;
    }

abbrev a_line_is_written_tree : MethodTree
a_line_is_written_tree = record { spot = at 12; mode = mode.Static; is_async = false; parameters = []; body = (Block (at 11) 0 (AndTerm (Statement (at 10) (Drop (at 9) (Call (at 8) (ByName 0) (Static (at 7) 0 0 NoTerm) (AndTerm (Call (at 6) (ByName 0) (Lit (at 2) (literal.Text 0)) (AndTerm (Field (at 5) (selector.Field 0) (Field (at 4) (selector.Field 0) (SelfValue (at 3)))) NoTerm)) NoTerm)))) NoTerm)) }

pub a_line_is_written : code_of_method a_line_is_written_site a_line_is_written_tree ≡ i.Prim 47 2 ([]) ∷ i.Const 3 6 ∷ i.Load 4 0 0 ∷ i.Prim 16 4 (4 ∷ []) ∷ i.Prim 21 3 (3 ∷ 4 ∷ []) ∷ i.Print 3 ∷ i.Drop 2 ∷ i.Const 2 0 ∷ i.Drop 0 ∷ i.Return 2 ∷ []
a_line_is_written = refl

-- A new process, a message to it, and a future: `Main.main` of tests/lowered/processes.inko
abbrev a_message_site : Site
a_message_site =
    record {
      variables = 4;
      register = λ n. if n == 1 then 1 else (if n == 3 then 2 else (if n == 4 then 3 else (0)));
      variable = λ n. if n == 3 then 3 else (if n == 4 then 4 else (if n == 13 then 4 else (if n == 15 then 3 else (if n == 27 then 1 else (0)))));
      is_value = λ n. if n == 6 then true else (if n == 7 then true else (if n == 8 then true else (if n == 9 then true else (if n == 14 then true else (if n == 16 then true else (if n == 17 then true else (if n == 18 then true else (if n == 19 then true else (if n == 21 then true else (if n == 22 then true else (if n == 24 then true else (if n == 26 then true else (if n == 29 then true else (false))))))))))))));
      is_borrow = λ n. false;
      is_nil = λ n. if n == 1 then false else (if n == 14 then true else (if n == 21 then true else (if n == 22 then true else (if n == 24 then true else (if n == 26 then true else (if n == 29 then true else (false)))))));
      call = λ n. if n == 2 then (Some (target.Row 45)) else (if n == 14 then (Some (target.Method 0)) else (if n == 16 then (Some (target.Row 43)) else (if n == 17 then (Some (target.Row 16)) else (if n == 19 then (Some (target.Row 21)) else (if n == 20 then (Some (target.Row 47)) else (if n == 21 then (Some (target.Row 46)) else (None)))))));
      takes = λ n. if n == 16 then true else (false);
      is_message = λ n. if n == 14 then true else (false);
      place = λ n. 0;
      kind = λ n. if n == 7 then 13 else (0);
      tag = λ n. if n == 7 then 0 else (0);
      order = λ n. if n == 7 then (0 ∷ []) else ([]);
      is_process = λ n. if n == 7 then true else (false);
      field_count = λ n. if n == 5 then 2 else (0);
      field_place = λ n x. 0;
      is_value_field = λ n k. false;
      tested_tag = λ n. None;
      constant = constants 3;
      ends = λ n. [];
      old = λ n v. None;
      is_lent = true;
    }

abbrev a_message_tree : MethodTree
a_message_tree = record { spot = at 32; mode = mode.Static; is_async = false; parameters = []; body = (Block (at 31) 0 (AndTerm (Let (at 1) (binding.Fixed 0) None (Static (at 2) 0 0 NoTerm)) (AndTerm (Statement (at 30) (Match (at 29) choice.Match (Var (at 27) 0) (AndArm (Constructor (at 5) made.Tuple2 (AndPat (Name (at 3) false 0) (AndPat (Name (at 4) false 0) NoPat))) Always (Statement (at 28) (Block (at 26) 0 (AndTerm (Statement (at 23) (Drop (at 22) (Call (at 14) (ByName 0) (New (at 7) (Plain (made.Named 0)) (AndArgument None (Lit (at 6) (literal.Int 0)) NoArgument)) (AndTerm (Recover (at 12) (Statement (at 11) (Arr (at 10) (AndTerm (Lit (at 8) (literal.Int 1)) (AndTerm (Lit (at 9) (literal.Int 2)) NoTerm))))) (AndTerm (Var (at 13) 0) NoTerm))))) (AndTerm (Statement (at 25) (Drop (at 24) (Call (at 21) (ByName 0) (Static (at 20) 0 0 NoTerm) (AndTerm (Call (at 19) (ByName 0) (Lit (at 18) (literal.Text 0)) (AndTerm (Field (at 17) (selector.Field 0) (Field (at 16) (selector.Field 0) (Var (at 15) 0))) NoTerm)) NoTerm)))) NoTerm)))) NoArm))) NoTerm))) }

pub a_message : code_of_method a_message_site a_message_tree ≡ i.FutureNew 4 5 ∷ i.Make 4 8 0 (4 ∷ 5 ∷ []) ∷ i.Move 1 4 ∷ i.Move 4 1 ∷ i.TakeApart (5 ∷ 6 ∷ []) 4 ∷ i.Move 2 5 ∷ i.Move 3 6 ∷ i.Const 4 3 ∷ i.Spawn 4 13 (4 ∷ []) ∷ i.Const 5 4 ∷ i.Const 6 5 ∷ i.MakeArray 5 (5 ∷ 6 ∷ []) ∷ i.Move 6 3 ∷ i.Send 4 0 (5 ∷ 6 ∷ []) ∷ i.Prim 47 4 ([]) ∷ i.Const 5 6 ∷ i.Move 6 2 ∷ i.FutureGet 6 6 ∷ i.Prim 16 6 (6 ∷ []) ∷ i.Prim 21 5 (5 ∷ 6 ∷ []) ∷ i.Print 5 ∷ i.Drop 4 ∷ i.Const 4 0 ∷ i.Drop 0 ∷ i.Return 4 ∷ []
a_message = refl

-- `self` as a variable that ends with its method: `Cat.into` of tests/lowered/forms.inko
abbrev self_is_owned_site : Site
self_is_owned_site =
    record {
      variables = 1;
      register = λ n. if n == 0 then 0 else (0);
      variable = λ n. 0;
      is_value = λ n. if n == 2 then true else (false);
      is_borrow = λ n. false;
      is_nil = λ n. false;
      call = λ n. None;
      takes = λ n. false;
      is_message = λ n. false;
      place = λ n. if n == 2 then 0 else (0);
      kind = λ n. 0;
      tag = λ n. 0;
      order = λ n. [];
      is_process = λ n. false;
      field_count = λ n. 0;
      field_place = λ n x. 0;
      is_value_field = λ n k. false;
      tested_tag = λ n. None;
      constant = constants 5;
      ends = λ n. if n == 5 then (record { variable = 5; how = how.Sure } ∷ []) else ([]);
      old = λ n v. None;
      is_lent = false;
    }

abbrev self_is_owned_tree : MethodTree
self_is_owned_tree = record { spot = at 5; mode = mode.Static; is_async = false; parameters = []; body = (Block (at 4) 0 (AndTerm (Statement (at 3) (Field (at 2) (selector.Field 0) (SelfValue (at 1)))) NoTerm)) }

pub self_is_owned : code_of_method self_is_owned_site self_is_owned_tree ≡ i.Load 1 0 0 ∷ i.Drop 0 ∷ i.Return 1 ∷ []
self_is_owned = refl

-- A call of a type parameter's method: `named` of tests/lowered/forms.inko
abbrev a_bounded_call_site : Site
a_bounded_call_site =
    record {
      variables = 1;
      register = λ n. if n == 1 then 0 else (0);
      variable = λ n. if n == 2 then 1 else (0);
      is_value = λ n. if n == 3 then true else (false);
      is_borrow = λ n. if n == 1 then true else (if n == 2 then true else (false));
      is_nil = λ n. false;
      call = λ n. if n == 3 then (Some (target.Bound 0)) else (None);
      takes = λ n. false;
      is_message = λ n. false;
      place = λ n. 0;
      kind = λ n. 0;
      tag = λ n. 0;
      order = λ n. [];
      is_process = λ n. false;
      field_count = λ n. 0;
      field_place = λ n x. 0;
      is_value_field = λ n k. false;
      tested_tag = λ n. None;
      constant = constants 5;
      ends = λ n. if n == 6 then (record { variable = 1; how = how.Sure } ∷ []) else ([]);
      old = λ n v. None;
      is_lent = false;
    }

abbrev a_bounded_call_tree : MethodTree
a_bounded_call_tree = record { spot = at 6; mode = mode.Static; is_async = false; parameters = []; body = (Block (at 5) 0 (AndTerm (Statement (at 4) (Field (at 3) (selector.Field 0) (Var (at 2) 0))) NoTerm)) }

pub a_bounded_call : code_of_method a_bounded_call_site a_bounded_call_tree ≡ i.Borrow 1 0 ∷ i.InvokeBound 1 0 (1 ∷ []) ∷ i.Drop 0 ∷ i.Return 1 ∷ []
a_bounded_call = refl

-- Values that are given up, by `_` and as statements: `given_up` of tests/lowered/forms.inko
abbrev values_are_given_up_site : Site
values_are_given_up_site =
    record {
      variables = 1;
      register = λ n. if n == 1 then 0 else (0);
      variable = λ n. if n == 2 then 1 else (0);
      is_value = λ n. if n == 3 then true else (if n == 4 then true else (if n == 6 then true else (if n == 8 then true else (false))));
      is_borrow = λ n. false;
      is_nil = λ n. if n == 3 then true else (if n == 6 then true else (false));
      call = λ n. None;
      takes = λ n. false;
      is_message = λ n. false;
      place = λ n. 0;
      kind = λ n. if n == 5 then 13 else (0);
      tag = λ n. if n == 5 then 0 else (0);
      order = λ n. if n == 5 then (0 ∷ []) else ([]);
      is_process = λ n. false;
      field_count = λ n. 0;
      field_place = λ n x. 0;
      is_value_field = λ n k. false;
      tested_tag = λ n. None;
      constant = constants 5;
      ends = λ n. [];
      old = λ n v. None;
      is_lent = false;
    }

abbrev values_are_given_up_tree : MethodTree
values_are_given_up_tree = record { spot = at 11; mode = mode.Static; is_async = false; parameters = []; body = (Block (at 10) 0 (AndTerm (Let (at 3) binding.Wildcard None (Var (at 2) 0)) (AndTerm (Statement (at 7) (Drop (at 6) (New (at 5) (Plain (made.Named 0)) (AndArgument None (Lit (at 4) (literal.Text 0)) NoArgument)))) (AndTerm (Statement (at 9) (Lit (at 8) (literal.Int 0))) NoTerm)))) }

pub values_are_given_up : code_of_method values_are_given_up_site values_are_given_up_tree ≡ i.Move 1 0 ∷ i.Drop 1 ∷ i.Const 1 8 ∷ i.Make 1 13 0 (1 ∷ []) ∷ i.Drop 1 ∷ i.Const 1 3 ∷ i.Return 1 ∷ []
values_are_given_up = refl

-- A panic, behind which nothing stands: `stopped` of tests/lowered/forms.inko
abbrev a_panic_site : Site
a_panic_site =
    record {
      variables = 1;
      register = λ n. if n == 1 then 0 else (0);
      variable = λ n. if n == 2 then 1 else (0);
      is_value = λ n. if n == 1 then true else (if n == 2 then true else (false));
      is_borrow = λ n. false;
      is_nil = λ n. false;
      call = λ n. None;
      takes = λ n. false;
      is_message = λ n. false;
      place = λ n. 0;
      kind = λ n. 0;
      tag = λ n. 0;
      order = λ n. [];
      is_process = λ n. false;
      field_count = λ n. 0;
      field_place = λ n x. 0;
      is_value_field = λ n k. false;
      tested_tag = λ n. None;
      constant = constants 5;
      ends = λ n. if n == 5 then (record { variable = 1; how = how.Sure } ∷ []) else ([]);
      old = λ n v. None;
      is_lent = false;
    }

abbrev a_panic_tree : MethodTree
a_panic_tree = record { spot = at 6; mode = mode.Static; is_async = false; parameters = []; body = (Block (at 5) 0 (AndTerm (Statement (at 4) (Panic (at 3) (AndTerm (Var (at 2) 0) NoTerm))) NoTerm)) }

pub a_panic : code_of_method a_panic_site a_panic_tree ≡ i.Copy 1 0 ∷ i.Panic 1 ∷ []
a_panic = refl

-- A tuple: `paired` of tests/lowered/forms.inko
abbrev a_pair_site : Site
a_pair_site =
    record {
      variables = 1;
      register = λ n. if n == 1 then 0 else (0);
      variable = λ n. if n == 2 then 1 else (0);
      is_value = λ n. if n == 3 then true else (false);
      is_borrow = λ n. false;
      is_nil = λ n. false;
      call = λ n. None;
      takes = λ n. false;
      is_message = λ n. false;
      place = λ n. 0;
      kind = λ n. if n == 4 then 8 else (0);
      tag = λ n. if n == 4 then 0 else (0);
      order = λ n. if n == 4 then (0 ∷ 1 ∷ []) else ([]);
      is_process = λ n. false;
      field_count = λ n. 0;
      field_place = λ n x. 0;
      is_value_field = λ n k. false;
      tested_tag = λ n. None;
      constant = constants 5;
      ends = λ n. [];
      old = λ n v. None;
      is_lent = false;
    }

abbrev a_pair_tree : MethodTree
a_pair_tree = record { spot = at 7; mode = mode.Static; is_async = false; parameters = []; body = (Block (at 6) 0 (AndTerm (Statement (at 5) (New (at 4) (Plain (made.Named 0)) (AndArgument None (Var (at 2) 0) (AndArgument None (Lit (at 3) (literal.Int 1)) NoArgument)))) NoTerm)) }

pub a_pair : code_of_method a_pair_site a_pair_tree ≡ i.Move 1 0 ∷ i.Const 2 4 ∷ i.Make 1 8 0 (1 ∷ 2 ∷ []) ∷ i.Return 1 ∷ []
a_pair = refl

-- A swap of a variable: `swapped` of tests/lowered/forms.inko
abbrev a_swap_site : Site
a_swap_site =
    record {
      variables = 2;
      register = λ n. if n == 1 then 0 else (if n == 2 then 1 else (0));
      variable = λ n. if n == 5 then 2 else (if n == 6 then 1 else (0));
      is_value = λ n. if n == 3 then true else (false);
      is_borrow = λ n. false;
      is_nil = λ n. if n == 2 then false else (false);
      call = λ n. None;
      takes = λ n. false;
      is_message = λ n. false;
      place = λ n. 0;
      kind = λ n. if n == 4 then 13 else (0);
      tag = λ n. if n == 4 then 0 else (0);
      order = λ n. if n == 4 then (0 ∷ []) else ([]);
      is_process = λ n. false;
      field_count = λ n. 0;
      field_place = λ n x. 0;
      is_value_field = λ n k. false;
      tested_tag = λ n. None;
      constant = constants 5;
      ends = λ n. if n == 9 then (record { variable = 2; how = how.Sure } ∷ []) else ([]);
      old = λ n v. None;
      is_lent = false;
    }

abbrev a_swap_tree : MethodTree
a_swap_tree = record { spot = at 10; mode = mode.Static; is_async = false; parameters = []; body = (Block (at 9) 0 (AndTerm (Let (at 2) (binding.Fixed 0) None (New (at 4) (Plain (made.Named 0)) (AndArgument None (Lit (at 3) (literal.Text 0)) NoArgument))) (AndTerm (Statement (at 8) (Swap (at 7) (Var (at 5) 0) (Var (at 6) 0))) NoTerm))) }

pub a_swap : code_of_method a_swap_site a_swap_tree ≡ i.Const 2 8 ∷ i.Make 2 13 0 (2 ∷ []) ∷ i.Move 1 2 ∷ i.Move 2 0 ∷ i.Exchange 1 2 ∷ i.Drop 1 ∷ i.Return 2 ∷ []
a_swap = refl

-- A receiver that the method takes away: `taken` of tests/lowered/forms.inko
abbrev a_receiver_is_moved_site : Site
a_receiver_is_moved_site =
    record {
      variables = 1;
      register = λ n. if n == 1 then 0 else (0);
      variable = λ n. if n == 2 then 1 else (0);
      is_value = λ n. if n == 3 then true else (false);
      is_borrow = λ n. false;
      is_nil = λ n. false;
      call = λ n. if n == 3 then (Some (target.Method 0)) else (None);
      takes = λ n. if n == 3 then true else (false);
      is_message = λ n. false;
      place = λ n. 0;
      kind = λ n. 0;
      tag = λ n. 0;
      order = λ n. [];
      is_process = λ n. false;
      field_count = λ n. 0;
      field_place = λ n x. 0;
      is_value_field = λ n k. false;
      tested_tag = λ n. None;
      constant = constants 5;
      ends = λ n. [];
      old = λ n v. None;
      is_lent = false;
    }

abbrev a_receiver_is_moved_tree : MethodTree
a_receiver_is_moved_tree = record { spot = at 6; mode = mode.Static; is_async = false; parameters = []; body = (Block (at 5) 0 (AndTerm (Statement (at 4) (Field (at 3) (selector.Field 0) (Var (at 2) 0))) NoTerm)) }

pub a_receiver_is_moved : code_of_method a_receiver_is_moved_site a_receiver_is_moved_tree ≡ i.Move 1 0 ∷ i.Invoke 1 0 (1 ∷ []) ∷ i.Return 1 ∷ []
a_receiver_is_moved = refl

-- The words `and` and `or` are choices: `both` of tests/lowered/forms.inko
abbrev a_conjunction_site : Site
a_conjunction_site =
    record {
      variables = 2;
      register = λ n. if n == 1 then 0 else (if n == 2 then 1 else (0));
      variable = λ n. if n == 3 then 1 else (if n == 4 then 2 else (0));
      is_value = λ n. if n == 1 then true else (if n == 2 then true else (if n == 3 then true else (if n == 4 then true else (if n == 6 then true else (if n == 7 then true else (if n == 8 then true else (if n == 9 then true else (false))))))));
      is_borrow = λ n. false;
      is_nil = λ n. false;
      call = λ n. None;
      takes = λ n. false;
      is_message = λ n. false;
      place = λ n. 0;
      kind = λ n. 0;
      tag = λ n. 0;
      order = λ n. [];
      is_process = λ n. false;
      field_count = λ n. 0;
      field_place = λ n x. 0;
      is_value_field = λ n k. false;
      tested_tag = λ n. None;
      constant = constants 5;
      ends = λ n. if n == 12 then (record { variable = 2; how = how.Sure } ∷ record { variable = 1; how = how.Sure } ∷ []) else ([]);
      old = λ n v. None;
      is_lent = false;
    }

abbrev a_conjunction_tree : MethodTree
a_conjunction_tree = record { spot = at 12; mode = mode.Static; is_async = false; parameters = []; body = (Block (at 11) 0 (AndTerm (Statement (at 10) (Match (at 9) choice.And (Var (at 3) 0) (AndArm (LitPat (at 7) (literal.Bool true)) Always (Statement (at 5) (Var (at 4) 0)) (AndArm (Wildcard (at 8)) Always (Lit (at 6) (literal.Bool false)) NoArm)))) NoTerm)) }

pub a_conjunction : code_of_method a_conjunction_site a_conjunction_tree ≡ i.Copy 2 0 ∷ i.JumpIf 2 4 ∷ i.Const 2 1 ∷ i.Jump 5 ∷ i.Copy 2 1 ∷ i.Return 2 ∷ []
a_conjunction = refl

-- A loop within a loop, each with its own break: `nested` of tests/lowered/forms.inko
abbrev loops_within_loops_site : Site
loops_within_loops_site =
    record {
      variables = 3;
      register = λ n. if n == 1 then 0 else (if n == 2 then 1 else (if n == 3 then 2 else (0)));
      variable = λ n. if n == 7 then 2 else (if n == 20 then 2 else (if n == 21 then 2 else (if n == 26 then 2 else (0))));
      is_value = λ n. if n == 2 then true else (if n == 4 then true else (if n == 5 then true else (if n == 7 then true else (if n == 8 then true else (if n == 9 then true else (if n == 13 then true else (if n == 15 then true else (if n == 16 then true else (if n == 17 then true else (if n == 18 then true else (if n == 20 then true else (if n == 21 then true else (if n == 22 then true else (if n == 23 then true else (if n == 24 then true else (if n == 26 then true else (if n == 27 then true else (if n == 28 then true else (if n == 32 then true else (if n == 34 then true else (if n == 35 then true else (if n == 36 then true else (if n == 37 then true else (if n == 39 then true else (if n == 40 then true else (if n == 41 then true else (if n == 44 then true else (if n == 45 then true else (if n == 46 then true else (if n == 47 then true else (if n == 49 then true else (if n == 50 then true else (if n == 52 then true else (false))))))))))))))))))))))))))))))))));
      is_borrow = λ n. false;
      is_nil = λ n. if n == 2 then false else (if n == 3 then false else (if n == 13 then true else (if n == 15 then true else (if n == 18 then true else (if n == 24 then true else (if n == 32 then true else (if n == 34 then true else (if n == 37 then true else (if n == 40 then true else (if n == 41 then true else (if n == 46 then true else (if n == 47 then true else (if n == 49 then true else (if n == 50 then true else (if n == 52 then true else (false))))))))))))))));
      call = λ n. if n == 9 then (Some (target.Row 9)) else (if n == 23 then (Some (target.Row 0)) else (if n == 28 then (Some (target.Row 9)) else (None)));
      takes = λ n. false;
      is_message = λ n. false;
      place = λ n. 0;
      kind = λ n. if n == 6 then 13 else (0);
      tag = λ n. if n == 6 then 0 else (0);
      order = λ n. if n == 6 then (0 ∷ []) else ([]);
      is_process = λ n. false;
      field_count = λ n. 0;
      field_place = λ n x. 0;
      is_value_field = λ n k. false;
      tested_tag = λ n. None;
      constant = constants 5;
      ends = λ n. if n == 10 then (record { variable = 3; how = how.Sure } ∷ []) else (if n == 49 then (record { variable = 3; how = how.Sure } ∷ []) else (if n == 52 then (record { variable = 2; how = how.Sure } ∷ []) else (if n == 53 then (record { variable = 1; how = how.Sure } ∷ []) else ([]))));
      old = λ n v. None;
      is_lent = false;
    }

abbrev loops_within_loops_tree : MethodTree
loops_within_loops_tree = record { spot = at 53; mode = mode.Static; is_async = false; parameters = []; body = (Block (at 52) 0 (AndTerm (Let (at 2) (binding.Fixed 0) None (Lit (at 4) (literal.Int 2))) (AndTerm (Statement (at 51) (Loop (at 50) (Block (at 49) 0 (AndTerm (Let (at 3) (binding.Fixed 0) None (New (at 6) (Plain (made.Named 0)) (AndArgument None (Lit (at 5) (literal.Text 1)) NoArgument))) (AndTerm (Statement (at 19) (Match (at 18) choice.If (Call (at 9) (ByName 0) (Var (at 7) 0) (AndTerm (Lit (at 8) (literal.Int 1)) NoTerm)) (AndArm (LitPat (at 16) (literal.Bool true)) Always (Statement (at 14) (Drop (at 13) (Block (at 12) 0 (AndTerm (Statement (at 11) (Break (at 10))) NoTerm)))) (AndArm (Wildcard (at 17)) Always (Lit (at 15) literal.Nil) NoArm)))) (AndTerm (Statement (at 48) (Loop (at 47) (Match (at 46) choice.While (Lit (at 39) (literal.Bool true)) (AndArm (LitPat (at 44) (literal.Bool true)) Always (Statement (at 42) (Drop (at 41) (Block (at 40) 0 (AndTerm (Statement (at 25) (Set (at 24) (Var (at 20) 0) (Call (at 23) (ByName 0) (Var (at 21) 0) (AndTerm (Lit (at 22) (literal.Int 0)) NoTerm)))) (AndTerm (Statement (at 38) (Match (at 37) choice.If (Call (at 28) (ByName 0) (Var (at 26) 0) (AndTerm (Lit (at 27) (literal.Int 3)) NoTerm)) (AndArm (LitPat (at 35) (literal.Bool true)) Always (Statement (at 33) (Drop (at 32) (Block (at 31) 0 (AndTerm (Statement (at 30) (Break (at 29))) NoTerm)))) (AndArm (Wildcard (at 36)) Always (Lit (at 34) literal.Nil) NoArm)))) NoTerm))))) (AndArm (Wildcard (at 45)) Always (Break (at 43)) NoArm))))) NoTerm)))))) NoTerm))) }

pub loops_within_loops : code_of_method loops_within_loops_site loops_within_loops_tree ≡ i.Const 3 5 ∷ i.Move 1 3 ∷ i.Const 3 9 ∷ i.Make 3 13 0 (3 ∷ []) ∷ i.Move 2 3 ∷ i.Const 3 4 ∷ i.Copy 4 1 ∷ i.Prim 9 3 (4 ∷ 3 ∷ []) ∷ i.JumpIf 3 10 ∷ i.Jump 12 ∷ i.Drop 2 ∷ i.Jump 28 ∷ i.Const 3 2 ∷ i.JumpIf 3 15 ∷ i.Jump 26 ∷ i.Const 3 3 ∷ i.Copy 4 1 ∷ i.Prim 0 3 (4 ∷ 3 ∷ []) ∷ i.Move 1 3 ∷ i.Const 3 6 ∷ i.Copy 4 1 ∷ i.Prim 9 3 (4 ∷ 3 ∷ []) ∷ i.JumpIf 3 24 ∷ i.Jump 25 ∷ i.Jump 26 ∷ i.Jump 12 ∷ i.Drop 2 ∷ i.Jump 2 ∷ i.Const 3 0 ∷ i.Drop 0 ∷ i.Return 3 ∷ []
loops_within_loops = refl

-- A body without statements: `Main.main` of tests/lowered/forms.inko
abbrev nothing_is_done_site : Site
nothing_is_done_site =
    record {
      variables = 1;
      register = λ n. 0;
      variable = λ n. 0;
      is_value = λ n. if n == 1 then true else (false);
      is_borrow = λ n. false;
      is_nil = λ n. if n == 1 then true else (false);
      call = λ n. None;
      takes = λ n. false;
      is_message = λ n. false;
      place = λ n. 0;
      kind = λ n. 0;
      tag = λ n. 0;
      order = λ n. [];
      is_process = λ n. false;
      field_count = λ n. 0;
      field_place = λ n x. 0;
      is_value_field = λ n k. false;
      tested_tag = λ n. None;
      constant = constants 5;
      ends = λ n. [];
      old = λ n v. None;
      is_lent = true;
    }

abbrev nothing_is_done_tree : MethodTree
nothing_is_done_tree = record { spot = at 2; mode = mode.Static; is_async = false; parameters = []; body = (Block (at 1) 0 NoTerm) }

pub nothing_is_done : code_of_method nothing_is_done_site nothing_is_done_tree ≡ i.Const 1 0 ∷ i.Drop 0 ∷ i.Return 1 ∷ []
nothing_is_done = refl

-- A jump in a guard, which leaves none of the variables of its arm: `left` of tests/lowered/guards.inko
abbrev a_return_in_a_guard_site : Site
a_return_in_a_guard_site =
    record {
      variables = 3;
      register = λ n. if n == 1 then 0 else (if n == 2 then 1 else (if n == 3 then 2 else (0)));
      variable = λ n. if n == 3 then 3 else (if n == 5 then 3 else (if n == 10 then 2 else (if n == 26 then 1 else (0))));
      is_value = λ n. if n == 2 then true else (if n == 6 then true else (if n == 7 then true else (if n == 8 then true else (if n == 9 then true else (if n == 10 then true else (if n == 11 then true else (if n == 12 then true else (if n == 13 then true else (if n == 21 then true else (if n == 22 then true else (if n == 23 then true else (if n == 24 then true else (if n == 28 then true else (if n == 30 then true else (false)))))))))))))));
      is_borrow = λ n. if n == 5 then true else (false);
      is_nil = λ n. false;
      call = λ n. if n == 7 then (Some (target.Row 24)) else (if n == 9 then (Some (target.Row 9)) else (if n == 12 then (Some (target.Row 9)) else (None)));
      takes = λ n. false;
      is_message = λ n. false;
      place = λ n. if n == 6 then 0 else (0);
      kind = λ n. 0;
      tag = λ n. 0;
      order = λ n. [];
      is_process = λ n. false;
      field_count = λ n. if n == 4 then 1 else (0);
      field_place = λ n x. 0;
      is_value_field = λ n k. false;
      tested_tag = λ n. if n == 4 then (Some 8) else (None);
      constant = constants 5;
      ends = λ n. if n == 4 then (record { variable = 3; how = how.Sure } ∷ []) else (if n == 33 then (record { variable = 2; how = how.Sure } ∷ []) else ([]));
      old = λ n v. None;
      is_lent = false;
    }

abbrev a_return_in_a_guard_tree : MethodTree
a_return_in_a_guard_tree = record { spot = at 33; mode = mode.Static; is_async = false; parameters = []; body = (Block (at 32) 0 (AndTerm (Statement (at 31) (Match (at 30) choice.Match (Var (at 26) 0) (AndArm (Constructor (at 4) made.Tuple2 (AndPat (Name (at 3) false 0) NoPat)) (When (Match (at 23) choice.If (Call (at 12) (ByName 0) (Var (at 10) 0) (AndTerm (Lit (at 11) (literal.Int 0)) NoTerm)) (AndArm (LitPat (at 21) (literal.Bool true)) Always (Statement (at 17) (Block (at 16) 0 (AndTerm (Statement (at 15) (Return (at 14) (Lit (at 13) (literal.Int 1)))) NoTerm))) (AndArm (Wildcard (at 22)) Always (Statement (at 20) (Block (at 19) 0 (AndTerm (Statement (at 18) (Call (at 9) (ByName 0) (Field (at 7) (selector.Field 0) (Field (at 6) (selector.Field 0) (Var (at 5) 0))) (AndTerm (Lit (at 8) (literal.Int 2)) NoTerm))) NoTerm))) NoArm)))) (Statement (at 25) (Lit (at 24) (literal.Int 2))) (AndArm (Wildcard (at 27)) Always (Statement (at 29) (Lit (at 28) (literal.Int 3))) NoArm)))) NoTerm)) }

pub a_return_in_a_guard : code_of_method a_return_in_a_guard_site a_return_in_a_guard_tree ≡ i.Move 3 0 ∷ i.Tag 4 3 ∷ i.Const 5 8 ∷ i.Prim 5 4 (4 ∷ 5 ∷ []) ∷ i.JumpIf 4 6 ∷ i.Jump 28 ∷ i.Const 4 3 ∷ i.Copy 5 1 ∷ i.Prim 9 4 (5 ∷ 4 ∷ []) ∷ i.JumpIf 4 18 ∷ i.LoadBorrow 4 3 0 ∷ i.Load 5 4 0 ∷ i.Prim 24 5 (5 ∷ []) ∷ i.Const 6 5 ∷ i.Prim 9 5 (5 ∷ 6 ∷ []) ∷ i.Drop 4 ∷ i.Move 4 5 ∷ i.Jump 21 ∷ i.Const 4 4 ∷ i.Drop 3 ∷ i.Return 4 ∷ i.JumpIf 4 23 ∷ i.Jump 28 ∷ i.TakeApart (4 ∷ []) 3 ∷ i.Move 2 4 ∷ i.Const 3 5 ∷ i.Drop 2 ∷ i.Jump 30 ∷ i.Drop 3 ∷ i.Const 3 6 ∷ i.Return 3 ∷ []
a_return_in_a_guard = refl

-- Patterns within patterns, and a guard that reads two of their parts: `deep` of tests/lowered/guards.inko
abbrev patterns_within_patterns_site : Site
patterns_within_patterns_site =
    record {
      variables = 5;
      register = λ n. if n == 1 then 0 else (if n == 2 then 1 else (if n == 3 then 2 else (if n == 19 then 3 else (if n == 20 then 4 else (0)))));
      variable = λ n. if n == 2 then 2 else (if n == 3 then 3 else (if n == 6 then 3 else (if n == 7 then 2 else (if n == 19 then 19 else (if n == 20 then 20 else (if n == 24 then 20 else (if n == 25 then 19 else (if n == 28 then 1 else (if n == 29 then 3 else (0))))))))));
      is_value = λ n. if n == 3 then true else (if n == 6 then true else (if n == 8 then true else (if n == 9 then true else (if n == 10 then true else (if n == 15 then true else (if n == 19 then true else (if n == 20 then true else (if n == 24 then true else (if n == 25 then true else (if n == 26 then true else (if n == 27 then true else (if n == 29 then true else (if n == 31 then true else (if n == 34 then true else (false)))))))))))))));
      is_borrow = λ n. if n == 7 then true else (false);
      is_nil = λ n. false;
      call = λ n. if n == 9 then (Some (target.Row 24)) else (if n == 10 then (Some (target.Row 9)) else (if n == 26 then (Some (target.Row 24)) else (if n == 27 then (Some (target.Row 0)) else (None))));
      takes = λ n. false;
      is_message = λ n. false;
      place = λ n. if n == 8 then 0 else (0);
      kind = λ n. 0;
      tag = λ n. 0;
      order = λ n. [];
      is_process = λ n. false;
      field_count = λ n. if n == 4 then 1 else (if n == 5 then 2 else (if n == 12 then 0 else (if n == 13 then 2 else (if n == 16 then 1 else (if n == 17 then 2 else (if n == 21 then 1 else (if n == 22 then 1 else (if n == 23 then 2 else (0)))))))));
      field_place = λ n x. 0;
      is_value_field = λ n k. false;
      tested_tag = λ n. if n == 4 then (Some 8) else (if n == 12 then (Some 9) else (if n == 16 then (Some 8) else (if n == 22 then (Some 8) else (None))));
      constant = constants 5;
      ends = λ n. if n == 5 then (record { variable = 2; how = how.Sure } ∷ record { variable = 3; how = how.Sure } ∷ []) else ([]);
      old = λ n v. None;
      is_lent = false;
    }

abbrev patterns_within_patterns_tree : MethodTree
patterns_within_patterns_tree = record { spot = at 37; mode = mode.Static; is_async = false; parameters = []; body = (Block (at 36) 0 (AndTerm (Statement (at 35) (Match (at 34) choice.Match (Var (at 28) 0) (AndArm (Constructor (at 5) made.Tuple2 (AndPat (Name (at 2) false 0) (AndPat (Constructor (at 4) made.Tuple2 (AndPat (Name (at 3) false 0) NoPat)) NoPat))) (When (Call (at 10) (ByName 0) (Var (at 6) 0) (AndTerm (Field (at 9) (selector.Field 0) (Field (at 8) (selector.Field 0) (Var (at 7) 0))) NoTerm))) (Statement (at 30) (Var (at 29) 0)) (AndArm (Either (at 18) (AndPat (Constructor (at 13) made.Tuple2 (AndPat (Wildcard (at 11)) (AndPat (Constructor (at 12) made.Tuple2 NoPat) NoPat))) (AndPat (Constructor (at 17) made.Tuple2 (AndPat (Wildcard (at 14)) (AndPat (Constructor (at 16) made.Tuple2 (AndPat (LitPat (at 15) (literal.Int 4)) NoPat)) NoPat))) NoPat))) Always (Statement (at 32) (Lit (at 31) (literal.Int 4))) (AndArm (Constructor (at 23) made.Tuple2 (AndPat (Fields (at 21) (AndField (record { name = 0; place = 0 }) (Name (at 19) false 0) NoField)) (AndPat (Constructor (at 22) made.Tuple2 (AndPat (Name (at 20) false 0) NoPat)) NoPat))) Always (Statement (at 33) (Call (at 27) (ByName 0) (Var (at 24) 0) (AndTerm (Field (at 26) (selector.Field 0) (Var (at 25) 0)) NoTerm))) NoArm))))) NoTerm)) }

pub patterns_within_patterns : code_of_method patterns_within_patterns_site patterns_within_patterns_tree ≡ i.Move 5 0 ∷ i.LoadBorrow 7 5 1 ∷ i.Tag 6 7 ∷ i.Const 8 8 ∷ i.Prim 5 6 (6 ∷ 8 ∷ []) ∷ i.Drop 7 ∷ i.JumpIf 6 8 ∷ i.Jump 25 ∷ i.LoadBorrow 6 5 0 ∷ i.Load 7 6 0 ∷ i.Prim 24 7 (7 ∷ []) ∷ i.LoadBorrow 9 5 1 ∷ i.LoadBorrow 8 9 0 ∷ i.Drop 9 ∷ i.Prim 9 7 (8 ∷ 7 ∷ []) ∷ i.Drop 6 ∷ i.JumpIf 7 18 ∷ i.Jump 25 ∷ i.TakeApart (6 ∷ 7 ∷ []) 5 ∷ i.Move 1 6 ∷ i.TakeApart (8 ∷ []) 7 ∷ i.Move 2 8 ∷ i.Copy 5 2 ∷ i.Drop 1 ∷ i.Jump 70 ∷ i.LoadBorrow 7 5 1 ∷ i.Tag 6 7 ∷ i.Const 8 9 ∷ i.Prim 5 6 (6 ∷ 8 ∷ []) ∷ i.Drop 7 ∷ i.JumpIf 6 43 ∷ i.LoadBorrow 7 5 1 ∷ i.Tag 6 7 ∷ i.Const 8 8 ∷ i.Prim 5 6 (6 ∷ 8 ∷ []) ∷ i.JumpIf 6 37 ∷ i.Jump 41 ∷ i.LoadBorrow 8 7 0 ∷ i.Copy 6 8 ∷ i.Const 9 7 ∷ i.Prim 5 6 (6 ∷ 9 ∷ []) ∷ i.Drop 7 ∷ i.JumpIf 6 43 ∷ i.JumpIf 6 45 ∷ i.Jump 61 ∷ i.LoadBorrow 7 5 1 ∷ i.Tag 6 7 ∷ i.Const 8 9 ∷ i.Prim 5 6 (6 ∷ 8 ∷ []) ∷ i.Drop 7 ∷ i.JumpIf 6 52 ∷ i.Jump 56 ∷ i.TakeApart (6 ∷ 7 ∷ []) 5 ∷ i.Drop 6 ∷ i.TakeApart ([]) 7 ∷ i.Jump 59 ∷ i.TakeApart (6 ∷ 7 ∷ []) 5 ∷ i.Drop 6 ∷ i.TakeApart (8 ∷ []) 7 ∷ i.Const 5 7 ∷ i.Jump 70 ∷ i.TakeApart (6 ∷ 7 ∷ []) 5 ∷ i.TakeApart (8 ∷ []) 6 ∷ i.Move 3 8 ∷ i.TakeApart (8 ∷ []) 7 ∷ i.Move 4 8 ∷ i.Copy 5 3 ∷ i.Prim 24 5 (5 ∷ []) ∷ i.Copy 6 4 ∷ i.Prim 0 5 (6 ∷ 5 ∷ []) ∷ i.Return 5 ∷ []
patterns_within_patterns = refl

-- Alternatives that bind, read by a guard and taken apart: `either` of tests/lowered/guards.inko
abbrev alternatives_that_bind_site : Site
alternatives_that_bind_site =
    record {
      variables = 3;
      register = λ n. if n == 1 then 0 else (if n == 2 then 1 else (if n == 7 then 2 else (0)));
      variable = λ n. if n == 2 then 2 else (if n == 3 then 2 else (if n == 7 then 7 else (if n == 8 then 7 else (if n == 12 then 2 else (if n == 17 then 1 else (if n == 18 then 2 else (if n == 20 then 7 else (0))))))));
      is_value = λ n. if n == 13 then true else (if n == 14 then true else (if n == 15 then true else (if n == 16 then true else (false))));
      is_borrow = λ n. if n == 12 then true else (false);
      is_nil = λ n. false;
      call = λ n. if n == 14 then (Some (target.Row 24)) else (if n == 16 then (Some (target.Row 9)) else (None));
      takes = λ n. false;
      is_message = λ n. false;
      place = λ n. if n == 13 then 0 else (0);
      kind = λ n. 0;
      tag = λ n. 0;
      order = λ n. [];
      is_process = λ n. false;
      field_count = λ n. if n == 4 then 1 else (if n == 5 then 1 else (if n == 9 then 1 else (if n == 10 then 1 else (0))));
      field_place = λ n x. 0;
      is_value_field = λ n k. false;
      tested_tag = λ n. if n == 4 then (Some 8) else (if n == 5 then (Some 9) else (if n == 9 then (Some 8) else (if n == 10 then (Some 9) else (None))));
      constant = constants 5;
      ends = λ n. [];
      old = λ n v. None;
      is_lent = false;
    }

abbrev alternatives_that_bind_tree : MethodTree
alternatives_that_bind_tree = record { spot = at 25; mode = mode.Static; is_async = false; parameters = []; body = (Block (at 24) 0 (AndTerm (Statement (at 23) (Match (at 22) choice.Match (Var (at 17) 0) (AndArm (Either (at 6) (AndPat (Constructor (at 4) made.Tuple2 (AndPat (Name (at 2) false 0) NoPat)) (AndPat (Constructor (at 5) made.Tuple2 (AndPat (Name (at 3) false 0) NoPat)) NoPat))) (When (Call (at 16) (ByName 0) (Field (at 14) (selector.Field 0) (Field (at 13) (selector.Field 0) (Var (at 12) 0))) (AndTerm (Lit (at 15) (literal.Int 2)) NoTerm))) (Statement (at 19) (Var (at 18) 0)) (AndArm (Either (at 11) (AndPat (Constructor (at 9) made.Tuple2 (AndPat (Name (at 7) false 0) NoPat)) (AndPat (Constructor (at 10) made.Tuple2 (AndPat (Name (at 8) false 0) NoPat)) NoPat))) Always (Statement (at 21) (Var (at 20) 0)) NoArm)))) NoTerm)) }

pub alternatives_that_bind : code_of_method alternatives_that_bind_site alternatives_that_bind_tree ≡ i.Move 3 0 ∷ i.Tag 4 3 ∷ i.Const 5 8 ∷ i.Prim 5 4 (4 ∷ 5 ∷ []) ∷ i.JumpIf 4 9 ∷ i.Tag 4 3 ∷ i.Const 5 9 ∷ i.Prim 5 4 (4 ∷ 5 ∷ []) ∷ i.JumpIf 4 9 ∷ i.JumpIf 4 11 ∷ i.Jump 38 ∷ i.Tag 5 3 ∷ i.Const 6 8 ∷ i.Prim 5 5 (5 ∷ 6 ∷ []) ∷ i.JumpIf 5 16 ∷ i.Jump 18 ∷ i.LoadBorrow 4 3 0 ∷ i.Jump 19 ∷ i.LoadBorrow 4 3 0 ∷ i.Load 5 4 0 ∷ i.Prim 24 5 (5 ∷ []) ∷ i.Const 6 5 ∷ i.Prim 9 5 (5 ∷ 6 ∷ []) ∷ i.Drop 4 ∷ i.JumpIf 5 26 ∷ i.Jump 38 ∷ i.Tag 4 3 ∷ i.Const 5 8 ∷ i.Prim 5 4 (4 ∷ 5 ∷ []) ∷ i.JumpIf 4 31 ∷ i.Jump 34 ∷ i.TakeApart (4 ∷ []) 3 ∷ i.Move 1 4 ∷ i.Jump 36 ∷ i.TakeApart (4 ∷ []) 3 ∷ i.Move 1 4 ∷ i.Move 3 1 ∷ i.Jump 49 ∷ i.Tag 4 3 ∷ i.Const 5 8 ∷ i.Prim 5 4 (4 ∷ 5 ∷ []) ∷ i.JumpIf 4 43 ∷ i.Jump 46 ∷ i.TakeApart (4 ∷ []) 3 ∷ i.Move 2 4 ∷ i.Jump 48 ∷ i.TakeApart (4 ∷ []) 3 ∷ i.Move 2 4 ∷ i.Move 3 2 ∷ i.Return 3 ∷ []
alternatives_that_bind = refl
