-- What fits among some lists fits among longer ones.
use Rattle.std.proofs.Common.{ℕ, ◌≤◌, List, All, length, sym, subst, arith}
use Rattle.ink_forms.specs.declared.node.Node.{Node}
use Rattle.ink_forms.specs.declared.node.Form.{Form}
use Rattle.ink_forms.specs.declared.node.Form.TheVariants as f
use Rattle.ink_forms.specs.declared.expr.Expr.{Expr}
use Rattle.ink_forms.specs.declared.expr.Expr.TheVariants as e
use Rattle.ink_forms.specs.declared.list.Children.{Children}
use Rattle.ink_forms.specs.declared.pattern.Pattern.{Pattern}
use Rattle.ink_forms.specs.declared.pattern.Pattern.TheVariants as p
use Rattle.ink_forms.specs.declared.written.WrittenType.{WrittenType}
use Rattle.ink_forms.specs.declared.written.WrittenType.TheVariants as w
use Rattle.ink_forms.specs.Built.{Lists}
use Rattle.ink_forms.specs.Fits.{IsBelow, IsArmBelow, IsArgumentBelow, IsFieldBelow, Holds, NumbersFit, ArmsFit, ArgumentsFit, FieldsFit, ExprFits, PatternFits, WrittenFits, Fits, AreFit}
use Rattle.ink_forms.specs.Kept.{Lengthened, Lengthens}

holds_more : {A : Type 0} (xs ys : List A) (P : A → Type 0) (c : Children) → Lengthened xs ys → length xs ≤ length ys → Holds xs P c → Holds ys P c
holds_more xs ys P c l m h = (h.0, (omega (arith, h.1.0), subst (All P) (sym (l c h.0 h.1.0)) h.1.1))

module _ (ls ls' : Lists) (n : ℕ) (l : Lengthens ls ls') where
  numbers : (c : Children) → NumbersFit ls n c → NumbersFit ls' n c
  numbers c h = holds_more ls.numbers ls'.numbers (IsBelow n) c l.numbers l.more_numbers h

  arms : (c : Children) → ArmsFit ls n c → ArmsFit ls' n c
  arms c h = holds_more ls.arms ls'.arms (IsArmBelow n) c l.arms l.more_arms h

  arguments : (c : Children) → ArgumentsFit ls n c → ArgumentsFit ls' n c
  arguments c h = holds_more ls.arguments ls'.arguments (IsArgumentBelow n) c l.arguments l.more_arguments h

  fields : (c : Children) → FieldsFit ls n c → FieldsFit ls' n c
  fields c h = holds_more ls.fields ls'.fields (IsFieldBelow n) c l.fields l.more_fields h

  expr : (x : Expr) → ExprFits ls n x → ExprFits ls' n x
  expr (e.Lit x) h = h
  expr (e.Var x) h = h
  expr e.SelfValue h = h
  expr (e.Field x a) h = h
  expr (e.Borrow x a) h = h
  expr (e.Set a b) h = h
  expr (e.Swap a b) h = h
  expr (e.Let x a) h = h
  expr (e.TypedLet x t a) h = h
  expr (e.Block k c) h = numbers c h
  expr (e.New x c) h = arguments c h
  expr (e.NewOf x y c) h = arguments c h
  expr (e.Arr c) h = numbers c h
  expr (e.Call x a c) h = (h.0, numbers c h.1)
  expr (e.Operate x a b) h = h
  expr (e.Fn x c) h = numbers c h
  expr (e.Static x y c) h = numbers c h
  expr (e.Match x a c) h = (h.0, arms c h.1)
  expr (e.Loop a) h = h
  expr e.Break h = h
  expr e.Next h = h
  expr (e.Return a) h = h
  expr (e.Recover a) h = h
  expr (e.Panic c) h = numbers c h
  expr (e.Drop a) h = h
  expr (e.Statement a) h = h

  pattern : (x : Pattern) → PatternFits ls n x → PatternFits ls' n x
  pattern p.Wildcard h = h
  pattern (p.Lit x) h = h
  pattern (p.Name m x) h = h
  pattern (p.Constructor x c) h = numbers c h
  pattern (p.Either c) h = numbers c h
  pattern (p.Fields c) h = fields c h

  written : (x : WrittenType) → WrittenFits ls n x → WrittenFits ls' n x
  written (w.Named x c) h = numbers c h
  written (w.Prefixed x a) h = h
  written (w.Tuple c) h = numbers c h

  form : (x : Form) → Fits ls n x → Fits ls' n x
  form (f.Expr x) h = expr x h
  form (f.Pattern x) h = pattern x h
  form (f.Written x) h = written x h
  form (f.Parameter x) h = h
  form (f.Method x) h = (h.0, numbers x.parameters h.1)

pub fit_more : (ls ls' : Lists) (xs : List Node) → Lengthens ls ls' → AreFit ls xs → AreFit ls' xs
fit_more ls ls' xs l h = λ i x k. form ls ls' i l x.form (h i x k)
