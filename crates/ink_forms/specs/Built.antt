-- The trees of an arena: each is made of what stands before its node.
use Rattle.std.specs.Prelude.{ℕ, List, [], ◌∷◌, ◌++◌, map, length, Option, Some, None, slice_get, slice_range, false}
use Rattle.ink_forms.specs.declared.node.Node.{Node}
use Rattle.ink_forms.specs.declared.node.Form.{Form}
use Rattle.ink_forms.specs.declared.node.Form.TheVariants as f
use Rattle.ink_forms.specs.declared.expr.Arm.{Arm}
use Rattle.ink_forms.specs.declared.expr.Argument.{Argument}
use Rattle.ink_forms.specs.declared.expr.Expr.{Expr}
use Rattle.ink_forms.specs.declared.expr.Expr.TheVariants as e
use Rattle.ink_forms.specs.declared.list.Children.{Children}
use Rattle.ink_forms.specs.declared.method.Method.{Method}
use Rattle.ink_forms.specs.declared.method.Mode.TheVariants as mode
use Rattle.ink_forms.specs.declared.method.Parameter.{Parameter}
use Rattle.ink_forms.specs.declared.pattern.FieldPattern.{FieldPattern}
use Rattle.ink_forms.specs.declared.pattern.Pattern.{Pattern}
use Rattle.ink_forms.specs.declared.pattern.Pattern.TheVariants as p
use Rattle.ink_forms.specs.declared.word.Literal.TheVariants as literal
use Rattle.ink_forms.specs.declared.written.WrittenType.{WrittenType}
use Rattle.ink_forms.specs.declared.written.WrittenType.TheVariants as w
use Rattle.ink_forms.specs.Trees.{Spot, Written, WrittenList, Named, Prefixed, Tuple, NoWritten, Pat, Pats, FieldPats, Wildcard, LitPat, Name, Constructor, Either, Fields, ByName, ByOperator, Plain, Of, Term, Terms, Arguments, Guard, Arms, Lit, Var, SelfValue, Field, Borrow, Set, Swap, Let, Block, New, Arr, Call, Fn, Static, Match, Loop, Break, Next, Return, Recover, Panic, Drop, Statement, NoTerm, AndTerm, Always, When, OneArm, OneArgument, OneField, ParameterTree, MethodTree, written_list, pats, field_pats, terms, arguments, arms}

-- what stands at a number
pub data Item : Type 0 where
  IsTerm : Term → Item
  IsPat : Pat → Item
  IsWritten : Written → Item
  IsParameter : ParameterTree → Item
  IsMethod : MethodTree → Item

-- the items of all lists, by their kinds
pub record Lists : Type 0 where
  pub numbers : List ℕ
  pub arms : List Arm
  pub arguments : List Argument
  pub fields : List FieldPattern

abbrev pub all_lists : List ℕ → List Arm → List Argument → List FieldPattern → Lists
all_lists ns as' xs fs = record { numbers = ns; arms = as'; arguments = xs; fields = fs }

abbrev pub spot : ℕ → ℕ → ℕ → Spot
spot n s p = record { number = n; start = s; place = p }

-- A number that is no expression's stands for nil, one that is no pattern's for `_`, and one that is no written type's
-- for a type without a name.
abbrev pub no_term : ℕ → Term
no_term n = Lit (spot n 0 0) literal.Nil

abbrev pub no_pat : ℕ → Pat
no_pat n = Wildcard (spot n 0 0)

abbrev pub no_written : ℕ → Written
no_written n = Named (spot n 0 0) 0 NoWritten

abbrev pub term_or : ℕ → Option Item → Term
term_or n (Some (IsTerm t)) = t
term_or n (Some (IsPat t)) = no_term n
term_or n (Some (IsWritten t)) = no_term n
term_or n (Some (IsParameter t)) = no_term n
term_or n (Some (IsMethod t)) = no_term n
term_or n None = no_term n

abbrev pub pat_or : ℕ → Option Item → Pat
pat_or n (Some (IsPat t)) = t
pat_or n (Some (IsTerm t)) = no_pat n
pat_or n (Some (IsWritten t)) = no_pat n
pat_or n (Some (IsParameter t)) = no_pat n
pat_or n (Some (IsMethod t)) = no_pat n
pat_or n None = no_pat n

abbrev pub written_or : ℕ → Option Item → Written
written_or n (Some (IsWritten t)) = t
written_or n (Some (IsTerm t)) = no_written n
written_or n (Some (IsPat t)) = no_written n
written_or n (Some (IsParameter t)) = no_written n
written_or n (Some (IsMethod t)) = no_written n
written_or n None = no_written n

abbrev pub term_at : List Item → ℕ → Term
term_at ts n = term_or n (slice_get ts n)

abbrev pub pat_at : List Item → ℕ → Pat
pat_at ts n = pat_or n (slice_get ts n)

abbrev pub written_at : List Item → ℕ → Written
written_at ts n = written_or n (slice_get ts n)

-- A number that is no parameter's stands for one without a name, whose type is what stands at that number.
abbrev pub no_parameter : List Item → ℕ → ParameterTree
no_parameter ts n = record { spot = spot n 0 0; name = 0; annotation = written_at ts n }

abbrev pub parameter_or : List Item → ℕ → Option Item → ParameterTree
parameter_or ts n (Some (IsParameter t)) = t
parameter_or ts n (Some (IsTerm t)) = no_parameter ts n
parameter_or ts n (Some (IsPat t)) = no_parameter ts n
parameter_or ts n (Some (IsWritten t)) = no_parameter ts n
parameter_or ts n (Some (IsMethod t)) = no_parameter ts n
parameter_or ts n None = no_parameter ts n

abbrev pub parameter_at : List Item → ℕ → ParameterTree
parameter_at ts n = parameter_or ts n (slice_get ts n)

-- A number that is no method's stands for one without parameters, whose body is what stands at that number.
abbrev pub no_method : List Item → ℕ → MethodTree
no_method ts n = record { spot = spot n 0 0; mode = mode.Plain; is_async = false; parameters = []; body = term_at ts n }

abbrev pub method_or : List Item → ℕ → Option Item → MethodTree
method_or ts n (Some (IsMethod t)) = t
method_or ts n (Some (IsTerm t)) = no_method ts n
method_or ts n (Some (IsPat t)) = no_method ts n
method_or ts n (Some (IsWritten t)) = no_method ts n
method_or ts n (Some (IsParameter t)) = no_method ts n
method_or ts n None = no_method ts n

abbrev pub method_at : List Item → ℕ → MethodTree
method_at ts n = method_or ts n (slice_get ts n)

abbrev pub guard_at : List Item → Option ℕ → Guard
guard_at ts None = Always
guard_at ts (Some n) = When (term_at ts n)

abbrev pub arm_at : List Item → Arm → OneArm
arm_at ts x = record { pattern = pat_at ts x.pattern; guard = guard_at ts x.guard; value = term_at ts x.value }

abbrev pub argument_at : List Item → Argument → OneArgument
argument_at ts x = record { label = x.label; value = term_at ts x.value }

abbrev pub field_at : List Item → FieldPattern → OneField
field_at ts x = record { field = x.field; pattern = pat_at ts x.pattern }

-- the items of a list
abbrev pub part : {A : Type 0} → List A → Children → List A
part xs c = slice_range xs c.start c.end

abbrev pub terms_at : List Item → List ℕ → Terms
terms_at ts ns = terms (map (term_at ts) ns)

abbrev pub pats_at : List Item → List ℕ → Pats
pats_at ts ns = pats (map (pat_at ts) ns)

abbrev pub written_list_at : List Item → List ℕ → WrittenList
written_list_at ts ns = written_list (map (written_at ts) ns)

abbrev pub parameters_at : List Item → List ℕ → List ParameterTree
parameters_at ts ns = map (parameter_at ts) ns

abbrev pub arms_at : List Item → List Arm → Arms
arms_at ts xs = arms (map (arm_at ts) xs)

abbrev pub arguments_at : List Item → List Argument → Arguments
arguments_at ts xs = arguments (map (argument_at ts) xs)

abbrev pub fields_at : List Item → List FieldPattern → FieldPats
fields_at ts xs = field_pats (map (field_at ts) xs)

-- a node over what stands before it
abbrev pub grow_written : Lists → List Item → Spot → WrittenType → Written
grow_written ls ts s (w.Named x c) = Named s x (written_list_at ts (part ls.numbers c))
grow_written ls ts s (w.Prefixed x a) = Prefixed s x (written_at ts a)
grow_written ls ts s (w.Tuple c) = Tuple s (written_list_at ts (part ls.numbers c))

abbrev pub grow_pat : Lists → List Item → Spot → Pattern → Pat
grow_pat ls ts s p.Wildcard = Wildcard s
grow_pat ls ts s (p.Lit l) = LitPat s l
grow_pat ls ts s (p.Name m x) = Name s m x
grow_pat ls ts s (p.Constructor x c) = Constructor s x (pats_at ts (part ls.numbers c))
grow_pat ls ts s (p.Either c) = Either s (pats_at ts (part ls.numbers c))
grow_pat ls ts s (p.Fields c) = Fields s (fields_at ts (part ls.fields c))

abbrev pub grow_term : Lists → List Item → Spot → Expr → Term
grow_term ls ts s (e.Lit l) = Lit s l
grow_term ls ts s (e.Var x) = Var s x
grow_term ls ts s e.SelfValue = SelfValue s
grow_term ls ts s (e.Field x a) = Field s x (term_at ts a)
grow_term ls ts s (e.Borrow x a) = Borrow s x (term_at ts a)
grow_term ls ts s (e.Set a b) = Set s (term_at ts a) (term_at ts b)
grow_term ls ts s (e.Swap a b) = Swap s (term_at ts a) (term_at ts b)
grow_term ls ts s (e.Let x a) = Let s x None (term_at ts a)
grow_term ls ts s (e.TypedLet x t a) = Let s x (Some (written_at ts t)) (term_at ts a)
grow_term ls ts s (e.Block k c) = Block s k (terms_at ts (part ls.numbers c))
grow_term ls ts s (e.New x c) = New s (Plain x) (arguments_at ts (part ls.arguments c))
grow_term ls ts s (e.NewOf x y c) = New s (Of x y) (arguments_at ts (part ls.arguments c))
grow_term ls ts s (e.Arr c) = Arr s (terms_at ts (part ls.numbers c))
grow_term ls ts s (e.Call x a c) = Call s (ByName x) (term_at ts a) (terms_at ts (part ls.numbers c))
grow_term ls ts s (e.Operate x a b) = Call s (ByOperator x) (term_at ts a) (AndTerm (term_at ts b) NoTerm)
grow_term ls ts s (e.Fn x c) = Fn s x (terms_at ts (part ls.numbers c))
grow_term ls ts s (e.Static x y c) = Static s x y (terms_at ts (part ls.numbers c))
grow_term ls ts s (e.Match x a c) = Match s x (term_at ts a) (arms_at ts (part ls.arms c))
grow_term ls ts s (e.Loop a) = Loop s (term_at ts a)
grow_term ls ts s e.Break = Break s
grow_term ls ts s e.Next = Next s
grow_term ls ts s (e.Return a) = Return s (term_at ts a)
grow_term ls ts s (e.Recover a) = Recover s (term_at ts a)
grow_term ls ts s (e.Panic c) = Panic s (terms_at ts (part ls.numbers c))
grow_term ls ts s (e.Drop a) = Drop s (term_at ts a)
grow_term ls ts s (e.Statement a) = Statement s (term_at ts a)

abbrev pub grow_parameter : List Item → Spot → Parameter → ParameterTree
grow_parameter ts s x = record { spot = s; name = x.name; annotation = written_at ts x.annotation }

abbrev pub grow_method : Lists → List Item → Spot → Method → MethodTree
grow_method ls ts s x =
    record { spot = s; mode = x.mode; is_async = x.is_async; parameters = parameters_at ts (part ls.numbers x.parameters); body = term_at ts x.body }

abbrev pub grow : Lists → List Item → Spot → Form → Item
grow ls ts s (f.Expr x) = IsTerm (grow_term ls ts s x)
grow ls ts s (f.Pattern x) = IsPat (grow_pat ls ts s x)
grow ls ts s (f.Written x) = IsWritten (grow_written ls ts s x)
grow ls ts s (f.Parameter x) = IsParameter (grow_parameter ts s x)
grow ls ts s (f.Method x) = IsMethod (grow_method ls ts s x)

abbrev pub onto : Lists → List Item → List Node → List Item
onto ls ts [] = ts
onto ls ts (x ∷ xs) = onto ls (ts ++ grow ls ts (spot (length ts) x.start x.place) x.form ∷ []) xs

unfoldable pub items : Lists → List Node → List Item
items ls xs = onto ls [] xs
