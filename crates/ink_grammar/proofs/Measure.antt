-- How much is still to be done: each token pays for what it leads to.
use Rattle.std.proofs.Common.{◌≡◌, ℕ, Bool, true, false, ◌&&◌, ◌==◌, if◌then◌else◌, List, [], ◌∷◌, ◌++◌, Option, Some, None, refl, sym, ap, subst, ◌∙◌}
use Rattle.ink_grammar.specs.declared.token.Terminal.{Terminal}
use Rattle.ink_grammar.specs.declared.symbol.Line.{Line}
use Rattle.ink_grammar.specs.declared.symbol.Line.TheVariants as line
use Rattle.ink_grammar.specs.declared.symbol.Nonterminal.{Nonterminal}
use Rattle.ink_grammar.specs.declared.symbol.Nonterminal.TheVariants as part_of
use Rattle.ink_grammar.specs.declared.symbol.ModulePart.{ModulePart}
use Rattle.ink_grammar.specs.declared.symbol.MethodPart.{MethodPart}
use Rattle.ink_grammar.specs.declared.symbol.TypePart.{TypePart}
use Rattle.ink_grammar.specs.declared.symbol.StatementPart.{StatementPart}
use Rattle.ink_grammar.specs.declared.symbol.OperandPart.{OperandPart}
use Rattle.ink_grammar.specs.declared.symbol.PatternPart.{PatternPart}
use Rattle.ink_grammar.specs.declared.symbol.ModulePart.TheVariants as module_of
use Rattle.ink_grammar.specs.declared.symbol.MethodPart.TheVariants as method_of
use Rattle.ink_grammar.specs.declared.symbol.TypePart.TheVariants as type_of
use Rattle.ink_grammar.specs.declared.symbol.StatementPart.TheVariants as statement_of
use Rattle.ink_grammar.specs.declared.symbol.OperandPart.TheVariants as operand_of
use Rattle.ink_grammar.specs.declared.symbol.PatternPart.TheVariants as pattern_of
use Rattle.ink_grammar.specs.declared.symbol.Symbol.{Symbol}
use Rattle.ink_grammar.specs.declared.symbol.Symbol.TheVariants as of
use Rattle.ink_grammar.specs.Grammar.{rules, may_be_empty}
use Rattle.ink_grammar.specs.Machine.{ends, fits, pick}
use Rattle.ink_grammar.proofs.Bools.{and_left, and_right, by_cases, all, all_at}
use Rattle.std.proofs.Common.{◌+◌, ◌-◌, ◌*◌, ◌<◌, ◌≤◌, arith, nat_lt}
use Rattle.std.proofs.Math.Dec.{ltb}
use Rattle.std.proofs.lemmas.Bool.{ltb-true, eqb-true}
use Rattle.ink_grammar.proofs.Steps.{pick_among}

abbrev module_weight : ModulePart → ℕ
module_weight module_of.Module = 6
module_weight module_of.ImportNames = 2
module_weight module_of.ImportNamesMore = 4
module_weight module_of.Declaration = 2
module_weight module_of.TypeForm = 2
module_weight module_of.ImplementedTrait = 2
module_weight _ = 1

abbrev method_weight : MethodPart → ℕ
method_weight method_of.Parameters = 2
method_weight method_of.ParametersMore = 4
method_weight method_of.MethodResult = 2
method_weight _ = 1

abbrev type_weight : TypePart → ℕ
type_weight type_of.FullType = 2
type_weight type_of.TypeArguments = 2
type_weight type_of.TypeArgumentsMore = 5
type_weight type_of.TypeParameters = 2
type_weight type_of.TypeParametersMore = 4
type_weight type_of.Bounds = 2
type_weight type_of.ConstructorTypes = 2
type_weight type_of.ConstructorTypesMore = 5
type_weight _ = 1

abbrev statement_weight : StatementPart → ℕ
statement_weight statement_of.Statement = 10
statement_weight statement_of.Mutable = 2
statement_weight statement_of.LetType = 2
statement_weight statement_of.Expression = 8
statement_weight statement_of.ReturnRest = 3
statement_weight statement_of.AfterOperand = 2
statement_weight statement_of.Chain = 7
statement_weight statement_of.UnnamedExpression = 7
statement_weight statement_of.ElseRest = 3
statement_weight statement_of.ElseBranch = 2
statement_weight statement_of.Guard = 2
statement_weight statement_of.ArmValue = 10
statement_weight _ = 1

abbrev operand_weight : OperandPart → ℕ
operand_weight operand_of.Operand = 5
operand_weight operand_of.UnnamedOperand = 4
operand_weight operand_of.RecoverRest = 8
operand_weight operand_of.LinkRest = 2
operand_weight operand_of.AfterConstant = 3
operand_weight operand_of.Primary = 2
operand_weight operand_of.Items = 11
operand_weight operand_of.Arguments = 11
operand_weight operand_of.ConstructorArguments = 10
operand_weight operand_of.NamedOrNot = 7
operand_weight _ = 1

abbrev pattern_weight : PatternPart → ℕ
pattern_weight pattern_of.Pattern = 3
pattern_weight pattern_of.PatternsMore = 6
pattern_weight pattern_of.FieldPatternsMore = 4
pattern_weight _ = 1

-- more than what its cheapest way on costs
abbrev pub weight : Nonterminal → ℕ
weight (part_of.Module n) = module_weight n
weight (part_of.Method n) = method_weight n
weight (part_of.Type n) = type_weight n
weight (part_of.Statement n) = statement_weight n
weight (part_of.Operand n) = operand_weight n
weight (part_of.Pattern n) = pattern_weight n

-- a part that is no token, or may begin with one that is none
abbrev late : Nonterminal → Bool
late (part_of.Operand operand_of.NamedOrNot) = true
late n = may_be_empty n

late_empty : (n : Nonterminal) → may_be_empty n ≡ true → late n ≡ true
late_empty (part_of.Module n) e = e
late_empty (part_of.Method n) e = e
late_empty (part_of.Type n) e = e
late_empty (part_of.Statement n) e = e
late_empty (part_of.Pattern n) e = e
late_empty (part_of.Operand operand_of.Operand) e = e
late_empty (part_of.Operand operand_of.UnnamedOperand) e = e
late_empty (part_of.Operand operand_of.RecoverRest) e = e
late_empty (part_of.Operand operand_of.NameRest) e = e
late_empty (part_of.Operand operand_of.Links) e = e
late_empty (part_of.Operand operand_of.Link) e = e
late_empty (part_of.Operand operand_of.LinkRest) e = e
late_empty (part_of.Operand operand_of.ConstantRest) e = e
late_empty (part_of.Operand operand_of.AfterConstant) e = e
late_empty (part_of.Operand operand_of.QualifiedRest) e = e
late_empty (part_of.Operand operand_of.Primary) e = e
late_empty (part_of.Operand operand_of.TextRest) e = e
late_empty (part_of.Operand operand_of.ParenthesisRest) e = e
late_empty (part_of.Operand operand_of.TupleRest) e = e
late_empty (part_of.Operand operand_of.Items) e = e
late_empty (part_of.Operand operand_of.ItemsRest) e = e
late_empty (part_of.Operand operand_of.Arguments) e = e
late_empty (part_of.Operand operand_of.ArgumentsRest) e = e
late_empty (part_of.Operand operand_of.ConstructorArguments) e = e
late_empty (part_of.Operand operand_of.NamedOrNot) e = cc
late_empty (part_of.Operand operand_of.NamedRest) e = e
late_empty (part_of.Operand operand_of.NamedMore) e = e

abbrev pub cost : List Symbol → ℕ
cost [] = 0
cost (of.Token l w ∷ r) = 1 + cost r
cost (of.Place w ∷ r) = 1 + cost r
cost (of.Do a ∷ r) = 1 + cost r
cost (of.Part l n ∷ r) = weight n + cost r

-- whether a token comes first, in how few steps
abbrev pub due : List Symbol → ℕ
due [] = 0
due (of.Token l w ∷ r) = 2
due (of.Place w ∷ r) = 2
due (of.Do a ∷ r) = 0
due (of.Part l n ∷ r) = if late n then 0 else 1

abbrev pub work : List Symbol → ℕ → ℕ
work r left = 100 * (2 * left - due r) + cost r

-- a rule costs less than its part, where it brings no token nearer
abbrev cheap : Nonterminal → List Symbol → Bool
cheap n r = if nat_lt (due (of.Part line.Any n ∷ [])) (due r) then nat_lt (cost r) 100 else (due r == due (of.Part line.Any n ∷ []) && nat_lt (cost r) (weight n))

module_cheap : (n : ModulePart) → all (cheap (part_of.Module n)) (rules (part_of.Module n)) ≡ true
module_cheap module_of.Module = refl
module_cheap module_of.Imports = refl
module_cheap module_of.Import = refl
module_cheap module_of.ImportPath = refl
module_cheap module_of.ImportNames = refl
module_cheap module_of.ImportName = refl
module_cheap module_of.ImportNamesRest = refl
module_cheap module_of.ImportNamesMore = refl
module_cheap module_of.Declarations = refl
module_cheap module_of.Declaration = refl
module_cheap module_of.TypeForm = refl
module_cheap module_of.ObjectForm = refl
module_cheap module_of.ObjectMembers = refl
module_cheap module_of.EnumMembers = refl
module_cheap module_of.FieldDeclaration = refl
module_cheap module_of.Constructor = refl
module_cheap module_of.TraitMethods = refl
module_cheap module_of.TraitMethod = refl
module_cheap module_of.ImplementedTrait = refl

method_cheap : (n : MethodPart) → all (cheap (part_of.Method n)) (rules (part_of.Method n)) ≡ true
method_cheap method_of.OptionalPub = refl
method_cheap method_of.OptionalAsync = refl
method_cheap method_of.OptionalMut = refl
method_cheap method_of.MethodKind = refl
method_cheap method_of.TraitMethodKind = refl
method_cheap method_of.Methods = refl
method_cheap method_of.Method = refl
method_cheap method_of.Parameters = refl
method_cheap method_of.ParametersMore = refl
method_cheap method_of.ParametersRest = refl
method_cheap method_of.Parameter = refl
method_cheap method_of.MethodResult = refl

type_cheap : (n : TypePart) → all (cheap (part_of.Type n)) (rules (part_of.Type n)) ≡ true
type_cheap type_of.FullType = refl
type_cheap type_of.BareType = refl
type_cheap type_of.TupleTypeRest = refl
type_cheap type_of.TypeArguments = refl
type_cheap type_of.TypeArgumentsRest = refl
type_cheap type_of.TypeArgumentsMore = refl
type_cheap type_of.TypeParameters = refl
type_cheap type_of.TypeParametersRest = refl
type_cheap type_of.TypeParametersMore = refl
type_cheap type_of.TypeParameter = refl
type_cheap type_of.Bounds = refl
type_cheap type_of.BoundsRest = refl
type_cheap type_of.ConstructorTypes = refl
type_cheap type_of.ConstructorTypesRest = refl
type_cheap type_of.ConstructorTypesMore = refl

statement_cheap : (n : StatementPart) → all (cheap (part_of.Statement n)) (rules (part_of.Statement n)) ≡ true
statement_cheap statement_of.Block = refl
statement_cheap statement_of.Statements = refl
statement_cheap statement_of.MoreStatements = refl
statement_cheap statement_of.Statement = refl
statement_cheap statement_of.Mutable = refl
statement_cheap statement_of.LetName = refl
statement_cheap statement_of.LetType = refl
statement_cheap statement_of.Expression = refl
statement_cheap statement_of.Jump = refl
statement_cheap statement_of.ReturnRest = refl
statement_cheap statement_of.AfterOperand = refl
statement_cheap statement_of.Chain = refl
statement_cheap statement_of.ChainRest = refl
statement_cheap statement_of.UnnamedExpression = refl
statement_cheap statement_of.Conditional = refl
statement_cheap statement_of.ElseRest = refl
statement_cheap statement_of.ElseBranch = refl
statement_cheap statement_of.Arms = refl
statement_cheap statement_of.Arm = refl
statement_cheap statement_of.Guard = refl
statement_cheap statement_of.ArmValue = refl

operand_cheap : (n : OperandPart) → all (cheap (part_of.Operand n)) (rules (part_of.Operand n)) ≡ true
operand_cheap operand_of.Operand = refl
operand_cheap operand_of.UnnamedOperand = refl
operand_cheap operand_of.RecoverRest = refl
operand_cheap operand_of.NameRest = refl
operand_cheap operand_of.Links = refl
operand_cheap operand_of.Link = refl
operand_cheap operand_of.LinkRest = refl
operand_cheap operand_of.ConstantRest = refl
operand_cheap operand_of.AfterConstant = refl
operand_cheap operand_of.QualifiedRest = refl
operand_cheap operand_of.Primary = refl
operand_cheap operand_of.TextRest = refl
operand_cheap operand_of.ParenthesisRest = refl
operand_cheap operand_of.TupleRest = refl
operand_cheap operand_of.Items = refl
operand_cheap operand_of.ItemsRest = refl
operand_cheap operand_of.Arguments = refl
operand_cheap operand_of.ArgumentsRest = refl
operand_cheap operand_of.ConstructorArguments = refl
operand_cheap operand_of.NamedOrNot = refl
operand_cheap operand_of.NamedRest = refl
operand_cheap operand_of.NamedMore = refl

pattern_cheap : (n : PatternPart) → all (cheap (part_of.Pattern n)) (rules (part_of.Pattern n)) ≡ true
pattern_cheap pattern_of.Pattern = refl
pattern_cheap pattern_of.Alternative = refl
pattern_cheap pattern_of.PatternRest = refl
pattern_cheap pattern_of.PatternTextRest = refl
pattern_cheap pattern_of.ConstructorPatternRest = refl
pattern_cheap pattern_of.PatternsRest = refl
pattern_cheap pattern_of.PatternsMore = refl
pattern_cheap pattern_of.TuplePatternRest = refl
pattern_cheap pattern_of.FieldPattern = refl
pattern_cheap pattern_of.FieldPatternsRest = refl
pattern_cheap pattern_of.FieldPatternsMore = refl

all_cheap : (n : Nonterminal) → all (cheap n) (rules n) ≡ true
all_cheap (part_of.Module n) = module_cheap n
all_cheap (part_of.Method n) = method_cheap n
all_cheap (part_of.Type n) = type_cheap n
all_cheap (part_of.Statement n) = statement_cheap n
all_cheap (part_of.Operand n) = operand_cheap n
all_cheap (part_of.Pattern n) = pattern_cheap n

cost_append : (r s : List Symbol) → cost (r ++ s) ≡ cost r + cost s
cost_append [] s = omega arith
cost_append (of.Token l w ∷ r) s = omega (arith, cost_append r s)
cost_append (of.Place w ∷ r) s = omega (arith, cost_append r s)
cost_append (of.Do a ∷ r) s = omega (arith, cost_append r s)
cost_append (of.Part l n ∷ r) s = omega (arith, cost_append r s)

due_append : (r s : List Symbol) → due r ≤ due (r ++ s)
due_append [] s = omega arith
due_append (of.Token l w ∷ r) s = omega arith
due_append (of.Place w ∷ r) s = omega arith
due_append (of.Do a ∷ r) s = omega arith
due_append (of.Part l n ∷ r) s = omega arith

pub pick_fits : (rs : List (List Symbol)) (o : Option Terminal) (r : List Symbol) → pick rs o ≡ Some r → fits r o ≡ true
pick_fits [] o r e = cc
pick_fits (q ∷ rs) o r e = by_cases (fits q o)
    (λ f. let g : Some q ≡ Some r = sym (ap (λ b. if b then Some q else pick rs o) f) ∙ e in let h : q ≡ r = cc in subst (λ x. fits x o ≡ true) h f)
    (λ f. pick_fits rs o r (sym (ap (λ b. if b then Some q else pick rs o) f) ∙ e))

not_due : (r : List Symbol) → ends r ≡ true → due r ≡ 0
not_due [] e = refl
not_due (of.Token l w ∷ r) e = cc
not_due (of.Place w ∷ r) e = cc
not_due (of.Do a ∷ r) e = refl
not_due (of.Part l n ∷ r) e = ap (λ b. if b then 0 else 1) (late_empty n e)

due_small : (r : List Symbol) → due r ≤ 2
due_small [] = omega arith
due_small (of.Token l w ∷ r) = omega arith
due_small (of.Place w ∷ r) = omega arith
due_small (of.Do a ∷ r) = omega arith
due_small (of.Part l n ∷ r) = elim (late n) as (λ b. (if b then 0 else 1) ≤ 2) [ true ↦ omega arith | false ↦ omega arith ]

if_both : {C : Type 0} (x y z : Bool) → (if x then y else z) ≡ true → (x ≡ true → y ≡ true → C) → (x ≡ false → z ≡ true → C) → C
if_both true y z e f g = f refl e
if_both false y z e f g = g refl e

-- the part of l does not show in what is due
due_part : (l : Line) (n : Nonterminal) (s : List Symbol) → due (of.Part l n ∷ s) ≡ due (of.Part line.Any n ∷ [])
due_part l n s = refl

has_left : (n : Nonterminal) (r : List Symbol) (left : ℕ) (o : Option Terminal) → fits r o ≡ true → nat_lt (due (of.Part line.Any n ∷ [])) (due r) ≡ true → ((t : Terminal) → o ≡ Some t → 0 < left) → 0 < left
has_left n r left None f a h = let a' : due (of.Part line.Any n ∷ []) < due r = ltb-true (due (of.Part line.Any n ∷ [])) (due r) a in let z = not_due r f in let bad : ⊥ = omega arith in absurd bad
has_left n r left (Some t) f a h = h t refl

module _ (l : Line) (n : Nonterminal) (r s : List Symbol) (left : ℕ) where
  nearer : nat_lt (due (of.Part line.Any n ∷ [])) (due r) ≡ true → nat_lt (cost r) 100 ≡ true → 0 < left → work (r ++ s) left < work (of.Part l n ∷ s) left
  nearer a b h =
      let a' : due (of.Part line.Any n ∷ []) < due r = ltb-true (due (of.Part line.Any n ∷ [])) (due r) a in
      let b' : cost r < 100 = ltb-true (cost r) 100 b in
      omega (arith, due_append r s, due_small r, cost_append r s)

  cheaper : due r ≡ due (of.Part line.Any n ∷ []) → nat_lt (cost r) (weight n) ≡ true → work (r ++ s) left < work (of.Part l n ∷ s) left
  cheaper a b =
      let b' : cost r < weight n = ltb-true (cost r) (weight n) b in
      omega (arith, due_append r s, cost_append r s)

  pub work_part : (o : Option Terminal) → pick (rules n) o ≡ Some r → ((t : Terminal) → o ≡ Some t → 0 < left) → work (r ++ s) left < work (of.Part l n ∷ s) left
  work_part o e h =
      let f = pick_fits (rules n) o r e in
      let c = all_at (cheap n) (rules n) r (all_cheap n) (pick_among (rules n) o r e) in
      if_both (nat_lt (due (of.Part line.Any n ∷ [])) (due r)) (nat_lt (cost r) 100) _ c
      (λ a b. nearer a b (has_left n r left o f a h))
      (λ a b. cheaper (eqb-true (due r) (due (of.Part line.Any n ∷ [])) (and_left (due r == due (of.Part line.Any n ∷ [])) _ b)) (and_right (due r == due (of.Part line.Any n ∷ [])) (nat_lt (cost r) (weight n)) b))
