-- What an arena shows. Rooms that read it name these words alone.
use Rattle.std.specs.Prelude.{◌≡◌, ℕ, List, Option, length, ◌≤◌}
use Rattle.ink_forms.specs.declared.arena.Arena.{Arena}
use Rattle.ink_forms.specs.declared.expr.Arm.{Arm}
use Rattle.ink_forms.specs.declared.expr.Argument.{Argument}
use Rattle.ink_forms.specs.declared.expr.Expr.{Expr}
use Rattle.ink_forms.specs.declared.list.Children.{Children}
use Rattle.ink_forms.specs.declared.method.Method.{Method}
use Rattle.ink_forms.specs.declared.method.Parameter.{Parameter}
use Rattle.ink_forms.specs.declared.pattern.FieldPattern.{FieldPattern}
use Rattle.ink_forms.specs.declared.pattern.Pattern.{Pattern}
use Rattle.ink_forms.specs.declared.written.WrittenType.{WrittenType}
use Rattle.ink_forms.specs.Trees.{Written, WrittenList, Pat, Pats, FieldPats, Term, Terms, Arguments, Guard, Arms, OneArm, OneArgument, OneField, ParameterTree, MethodTree}
use Rattle.ink_forms.specs.Built.{Item, Lists, all_lists, items, part, spot, term_at, pat_at, written_at, parameter_at, method_at, guard_at, arm_at, argument_at, field_at, terms_at, pats_at, written_list_at, parameters_at, arms_at, arguments_at, fields_at, grow_term, grow_pat, grow_written, grow_parameter, grow_method}
use Rattle.ink_forms.specs.Fits as fit
use Rattle.ink_forms.specs.Kept.{Lengthens, Agrees}
use Rattle.ink_forms.specs.Fits.{IsBelow, IsArmBelow, IsArgumentBelow, IsFieldBelow, NumbersFit, ArmsFit, ArgumentsFit, FieldsFit, ExprFits, PatternFits, WrittenFits, MethodFits}

abbrev pub lists_of : Arena → Lists
lists_of a = all_lists a.numbers.items a.arms.items a.arguments.items a.fields.items

abbrev pub items_of : Arena → List Item
items_of a = items (lists_of a) a.nodes.items

-- how many nodes there are
abbrev pub count : Arena → ℕ
count a = length a.nodes.items

-- the greatest number of nodes
abbrev pub most_nodes : ℕ
most_nodes = fit.most_nodes

-- what stands at a number
abbrev pub term : Arena → ℕ → Term
term a n = term_at (items_of a) n

abbrev pub pat : Arena → ℕ → Pat
pat a n = pat_at (items_of a) n

abbrev pub written : Arena → ℕ → Written
written a n = written_at (items_of a) n

abbrev pub parameter : Arena → ℕ → ParameterTree
parameter a n = parameter_at (items_of a) n

abbrev pub method : Arena → ℕ → MethodTree
method a n = method_at (items_of a) n

-- what stands at these numbers
abbrev pub terms : Arena → List ℕ → Terms
terms a ns = terms_at (items_of a) ns

abbrev pub pats : Arena → List ℕ → Pats
pats a ns = pats_at (items_of a) ns

abbrev pub written_list : Arena → List ℕ → WrittenList
written_list a ns = written_list_at (items_of a) ns

abbrev pub parameters : Arena → List ℕ → List ParameterTree
parameters a ns = parameters_at (items_of a) ns

-- guards, arms, arguments and fields of patterns
abbrev pub guard : Arena → Option ℕ → Guard
guard a o = guard_at (items_of a) o

abbrev pub arm : Arena → Arm → OneArm
arm a x = arm_at (items_of a) x

abbrev pub arms : Arena → List Arm → Arms
arms a xs = arms_at (items_of a) xs

abbrev pub argument : Arena → Argument → OneArgument
argument a x = argument_at (items_of a) x

abbrev pub arguments : Arena → List Argument → Arguments
arguments a xs = arguments_at (items_of a) xs

abbrev pub field : Arena → FieldPattern → OneField
field a x = field_at (items_of a) x

abbrev pub fields : Arena → List FieldPattern → FieldPats
fields a xs = fields_at (items_of a) xs

-- the items of a list
abbrev pub list : Arena → Children → List ℕ
list a c = part a.numbers.items c

abbrev pub arm_list : Arena → Children → List Arm
arm_list a c = part a.arms.items c

abbrev pub argument_list : Arena → Children → List Argument
argument_list a c = part a.arguments.items c

abbrev pub field_list : Arena → Children → List FieldPattern
field_list a c = part a.fields.items c

-- whether a list is the arena's
abbrev pub IsList : Arena → Children → Type 0
IsList a c = (c.start ≤ c.end) × (c.end ≤ length a.numbers.items)

abbrev pub IsArmList : Arena → Children → Type 0
IsArmList a c = (c.start ≤ c.end) × (c.end ≤ length a.arms.items)

abbrev pub IsArgumentList : Arena → Children → Type 0
IsArgumentList a c = (c.start ≤ c.end) × (c.end ≤ length a.arguments.items)

abbrev pub IsFieldList : Arena → Children → Type 0
IsFieldList a c = (c.start ≤ c.end) × (c.end ≤ length a.fields.items)

-- whether a list is the arena's and its items come before a number
abbrev pub AreBefore : Arena → ℕ → Children → Type 0
AreBefore a n c = NumbersFit (lists_of a) n c

abbrev pub AreArmsBefore : Arena → ℕ → Children → Type 0
AreArmsBefore a n c = ArmsFit (lists_of a) n c

abbrev pub AreArgumentsBefore : Arena → ℕ → Children → Type 0
AreArgumentsBefore a n c = ArgumentsFit (lists_of a) n c

abbrev pub AreFieldsBefore : Arena → ℕ → Children → Type 0
AreFieldsBefore a n c = FieldsFit (lists_of a) n c

-- whether an item comes before a number
abbrev pub IsBefore : ℕ → ℕ → Type 0
IsBefore n k = IsBelow n k

abbrev pub IsArmBefore : ℕ → Arm → Type 0
IsArmBefore n x = IsArmBelow n x

abbrev pub IsArgumentBefore : ℕ → Argument → Type 0
IsArgumentBefore n x = IsArgumentBelow n x

abbrev pub IsFieldBefore : ℕ → FieldPattern → Type 0
IsFieldBefore n x = IsFieldBelow n x

-- the tree of a node with this number, first token and place
abbrev pub expr_tree : Arena → ℕ → ℕ → ℕ → Expr → Term
expr_tree a n s p x = grow_term (lists_of a) (items_of a) (spot n s p) x

abbrev pub pattern_tree : Arena → ℕ → ℕ → ℕ → Pattern → Pat
pattern_tree a n s p x = grow_pat (lists_of a) (items_of a) (spot n s p) x

abbrev pub written_tree : Arena → ℕ → ℕ → ℕ → WrittenType → Written
written_tree a n s p x = grow_written (lists_of a) (items_of a) (spot n s p) x

abbrev pub parameter_tree : Arena → ℕ → ℕ → ℕ → Parameter → ParameterTree
parameter_tree a n s p x = grow_parameter (items_of a) (spot n s p) x

abbrev pub method_tree : Arena → ℕ → ℕ → ℕ → Method → MethodTree
method_tree a n s p x = grow_method (lists_of a) (items_of a) (spot n s p) x

-- whether the children of a node come before this number, and its lists are the arena's
abbrev pub ExprStands : Arena → ℕ → Expr → Type 0
ExprStands a n x = ExprFits (lists_of a) n x

abbrev pub PatternStands : Arena → ℕ → Pattern → Type 0
PatternStands a n x = PatternFits (lists_of a) n x

abbrev pub WrittenStands : Arena → ℕ → WrittenType → Type 0
WrittenStands a n x = WrittenFits (lists_of a) n x

abbrev pub MethodStands : Arena → ℕ → Method → Type 0
MethodStands a n x = MethodFits (lists_of a) n x

-- Two arenas have the same nodes and lists.
pub record IsSame (old new : Arena) : Type 0 where
  pub nodes : new.nodes.items ≡ old.nodes.items
  pub lists : lists_of new ≡ lists_of old

-- What an arena showed before it grew, it shows still.
pub record Keeps (old new : Arena) : Type 0 where
  pub grows : count old ≤ count new
  pub lists : Lengthens (lists_of old) (lists_of new)
  pub trees : Agrees (count old) (items_of old) (items_of new)
