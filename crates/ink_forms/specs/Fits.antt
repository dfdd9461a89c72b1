-- Whether the children of a node come before it, and its lists are there.
use Rattle.std.specs.Prelude.{◌≡◌, ℕ, ◌<◌, ◌≤◌, List, length, Option, Some, None, slice_get, slice_index_or, All, IfSome}
use Rattle.std.specs.Coded.{×_prop, Π_prop, Unit-prop, le_prop}
use Rattle.ink_forms.specs.declared.node.Node.{Node}
use Rattle.ink_forms.specs.declared.node.Form.{Form}
use Rattle.ink_forms.specs.declared.node.Form.TheVariants as f
use Rattle.ink_forms.specs.declared.expr.Arm.{Arm}
use Rattle.ink_forms.specs.declared.expr.Argument.{Argument}
use Rattle.ink_forms.specs.declared.expr.Expr.{Expr}
use Rattle.ink_forms.specs.declared.expr.Expr.TheVariants as e
use Rattle.ink_forms.specs.declared.list.Children.{Children}
use Rattle.ink_forms.specs.declared.method.Method.{Method}
use Rattle.ink_forms.specs.declared.method.Parameter.{Parameter}
use Rattle.ink_forms.specs.declared.pattern.FieldPattern.{FieldPattern}
use Rattle.ink_forms.specs.declared.pattern.Pattern.{Pattern}
use Rattle.ink_forms.specs.declared.pattern.Pattern.TheVariants as p
use Rattle.ink_forms.specs.declared.written.WrittenType.{WrittenType}
use Rattle.ink_forms.specs.declared.written.WrittenType.TheVariants as w
use Rattle.ink_forms.specs.Built.{Lists, part}

-- the greatest number of nodes
abbrev pub most_nodes : ℕ
most_nodes = 67108864

abbrev pub IsBelow : ℕ → ℕ → Type 0
IsBelow n k = k < n

abbrev pub IsArmBelow : ℕ → Arm → Type 0
IsArmBelow n x = (x.pattern < n) × ((x.value < n) × IfSome x.guard (IsBelow n))

abbrev pub IsArgumentBelow : ℕ → Argument → Type 0
IsArgumentBelow n x = x.value < n

abbrev pub IsFieldBelow : ℕ → FieldPattern → Type 0
IsFieldBelow n x = x.pattern < n

-- a list of these is there, and each of its items is so
abbrev pub Holds : {A : Type 0} → List A → (A → Type 0) → Children → Type 0
Holds xs P c = (c.start ≤ c.end) × ((c.end ≤ length xs) × All P (part xs c))

abbrev pub NumbersFit : Lists → ℕ → Children → Type 0
NumbersFit ls n c = Holds ls.numbers (IsBelow n) c

abbrev pub ArmsFit : Lists → ℕ → Children → Type 0
ArmsFit ls n c = Holds ls.arms (IsArmBelow n) c

abbrev pub ArgumentsFit : Lists → ℕ → Children → Type 0
ArgumentsFit ls n c = Holds ls.arguments (IsArgumentBelow n) c

abbrev pub FieldsFit : Lists → ℕ → Children → Type 0
FieldsFit ls n c = Holds ls.fields (IsFieldBelow n) c

abbrev pub WrittenFits : Lists → ℕ → WrittenType → Type 0
WrittenFits ls n (w.Named x c) = NumbersFit ls n c
WrittenFits ls n (w.Prefixed x a) = a < n
WrittenFits ls n (w.Tuple c) = NumbersFit ls n c

abbrev pub PatternFits : Lists → ℕ → Pattern → Type 0
PatternFits ls n p.Wildcard = Unit {0}
PatternFits ls n (p.Lit l) = Unit {0}
PatternFits ls n (p.Name m x) = Unit {0}
PatternFits ls n (p.Constructor x c) = NumbersFit ls n c
PatternFits ls n (p.Either c) = NumbersFit ls n c
PatternFits ls n (p.Fields c) = FieldsFit ls n c

abbrev pub ExprFits : Lists → ℕ → Expr → Type 0
ExprFits ls n (e.Lit l) = Unit {0}
ExprFits ls n (e.Var x) = Unit {0}
ExprFits ls n e.SelfValue = Unit {0}
ExprFits ls n (e.Field x a) = a < n
ExprFits ls n (e.Borrow x a) = a < n
ExprFits ls n (e.Set a b) = (a < n) × (b < n)
ExprFits ls n (e.Swap a b) = (a < n) × (b < n)
ExprFits ls n (e.Let x a) = a < n
ExprFits ls n (e.TypedLet x t a) = (t < n) × (a < n)
ExprFits ls n (e.Block k c) = NumbersFit ls n c
ExprFits ls n (e.New x c) = ArgumentsFit ls n c
ExprFits ls n (e.NewOf x y c) = ArgumentsFit ls n c
ExprFits ls n (e.Arr c) = NumbersFit ls n c
ExprFits ls n (e.Call x a c) = (a < n) × NumbersFit ls n c
ExprFits ls n (e.Operate x a b) = (a < n) × (b < n)
ExprFits ls n (e.Fn x c) = NumbersFit ls n c
ExprFits ls n (e.Static x y c) = NumbersFit ls n c
ExprFits ls n (e.Match x a c) = (a < n) × ArmsFit ls n c
ExprFits ls n (e.Loop a) = a < n
ExprFits ls n e.Break = Unit {0}
ExprFits ls n e.Next = Unit {0}
ExprFits ls n (e.Return a) = a < n
ExprFits ls n (e.Recover a) = a < n
ExprFits ls n (e.Panic c) = NumbersFit ls n c
ExprFits ls n (e.Drop a) = a < n
ExprFits ls n (e.Statement a) = a < n

abbrev pub ParameterFits : ℕ → Parameter → Type 0
ParameterFits n x = x.annotation < n

abbrev pub MethodFits : Lists → ℕ → Method → Type 0
MethodFits ls n x = (x.body < n) × NumbersFit ls n x.parameters

abbrev pub Fits : Lists → ℕ → Form → Type 0
Fits ls n (f.Expr x) = ExprFits ls n x
Fits ls n (f.Pattern x) = PatternFits ls n x
Fits ls n (f.Written x) = WrittenFits ls n x
Fits ls n (f.Parameter x) = ParameterFits n x
Fits ls n (f.Method x) = MethodFits ls n x

abbrev pub AreFit : Lists → List Node → Type 0
AreFit ls xs = (i : ℕ) (x : Node) → slice_get xs i ≡ Some x → Fits ls i x.form

-- each of these facts has one proof at most, as a ghost field wants it
all-prop : {A : Type 0} (P : A → Type 0) → ((a : A) → IsProp (P a)) → (xs : List A) → IsProp (All P xs)
all-prop P h xs = Π_prop (λ k. Π_prop (λ d. Π_prop (λ b. h (slice_index_or xs k d))))

holds-prop : {A : Type 0} (xs : List A) (P : A → Type 0) → ((a : A) → IsProp (P a)) → (c : Children) → IsProp (Holds xs P c)
holds-prop xs P h c = ×_prop le_prop (×_prop le_prop (all-prop P h (part xs c)))

guard-prop : (n : ℕ) (o : Option ℕ) → IsProp (IfSome o (IsBelow n))
guard-prop n None = Unit-prop
guard-prop n (Some g) = le_prop

numbers-prop : (ls : Lists) (n : ℕ) (c : Children) → IsProp (NumbersFit ls n c)
numbers-prop ls n c = holds-prop ls.numbers (IsBelow n) (λ k. le_prop) c

arms-prop : (ls : Lists) (n : ℕ) (c : Children) → IsProp (ArmsFit ls n c)
arms-prop ls n c = holds-prop ls.arms (IsArmBelow n) (λ x. ×_prop le_prop (×_prop le_prop (guard-prop n x.guard))) c

arguments-prop : (ls : Lists) (n : ℕ) (c : Children) → IsProp (ArgumentsFit ls n c)
arguments-prop ls n c = holds-prop ls.arguments (IsArgumentBelow n) (λ x. le_prop) c

fields-prop : (ls : Lists) (n : ℕ) (c : Children) → IsProp (FieldsFit ls n c)
fields-prop ls n c = holds-prop ls.fields (IsFieldBelow n) (λ x. le_prop) c

written-prop : (ls : Lists) (n : ℕ) (x : WrittenType) → IsProp (WrittenFits ls n x)
written-prop ls n (w.Named x c) = numbers-prop ls n c
written-prop ls n (w.Prefixed x a) = le_prop
written-prop ls n (w.Tuple c) = numbers-prop ls n c

pattern-prop : (ls : Lists) (n : ℕ) (x : Pattern) → IsProp (PatternFits ls n x)
pattern-prop ls n p.Wildcard = Unit-prop
pattern-prop ls n (p.Lit l) = Unit-prop
pattern-prop ls n (p.Name m x) = Unit-prop
pattern-prop ls n (p.Constructor x c) = numbers-prop ls n c
pattern-prop ls n (p.Either c) = numbers-prop ls n c
pattern-prop ls n (p.Fields c) = fields-prop ls n c

expr-prop : (ls : Lists) (n : ℕ) (x : Expr) → IsProp (ExprFits ls n x)
expr-prop ls n (e.Lit l) = Unit-prop
expr-prop ls n (e.Var x) = Unit-prop
expr-prop ls n e.SelfValue = Unit-prop
expr-prop ls n (e.Field x a) = le_prop
expr-prop ls n (e.Borrow x a) = le_prop
expr-prop ls n (e.Set a b) = ×_prop le_prop le_prop
expr-prop ls n (e.Swap a b) = ×_prop le_prop le_prop
expr-prop ls n (e.Let x a) = le_prop
expr-prop ls n (e.TypedLet x t a) = ×_prop le_prop le_prop
expr-prop ls n (e.Block k c) = numbers-prop ls n c
expr-prop ls n (e.New x c) = arguments-prop ls n c
expr-prop ls n (e.NewOf x y c) = arguments-prop ls n c
expr-prop ls n (e.Arr c) = numbers-prop ls n c
expr-prop ls n (e.Call x a c) = ×_prop le_prop (numbers-prop ls n c)
expr-prop ls n (e.Operate x a b) = ×_prop le_prop le_prop
expr-prop ls n (e.Fn x c) = numbers-prop ls n c
expr-prop ls n (e.Static x y c) = numbers-prop ls n c
expr-prop ls n (e.Match x a c) = ×_prop le_prop (arms-prop ls n c)
expr-prop ls n (e.Loop a) = le_prop
expr-prop ls n e.Break = Unit-prop
expr-prop ls n e.Next = Unit-prop
expr-prop ls n (e.Return a) = le_prop
expr-prop ls n (e.Recover a) = le_prop
expr-prop ls n (e.Panic c) = numbers-prop ls n c
expr-prop ls n (e.Drop a) = le_prop
expr-prop ls n (e.Statement a) = le_prop

form-prop : (ls : Lists) (n : ℕ) (x : Form) → IsProp (Fits ls n x)
form-prop ls n (f.Expr x) = expr-prop ls n x
form-prop ls n (f.Pattern x) = pattern-prop ls n x
form-prop ls n (f.Written x) = written-prop ls n x
form-prop ls n (f.Parameter x) = le_prop
form-prop ls n (f.Method x) = ×_prop le_prop (numbers-prop ls n x.parameters)

pub AreFit-prop : (ls : Lists) (xs : List Node) → IsProp (AreFit ls xs)
AreFit-prop ls xs = Π_prop (λ i. Π_prop (λ x. Π_prop (λ h. form-prop ls i x.form)))
