-- Each part is read from some tokens.
use Rattle.std.proofs.Common.{◌≡◌, ℕ, zero, suc, Bool, true, false, not, ◌&&◌, List, [], ◌∷◌, ◌++◌, inl, inr, Option, Some, None, refl, sym, subst}
use Rattle.ink_grammar.specs.declared.token.Keyword.TheVariants as keyword
use Rattle.ink_grammar.specs.declared.token.Mark.TheVariants as mark
use Rattle.ink_grammar.specs.declared.token.Shape.{Shape}
use Rattle.ink_grammar.specs.declared.token.Shape.TheVariants as shape
use Rattle.ink_grammar.specs.declared.symbol.Wanted.{Wanted}
use Rattle.ink_grammar.specs.declared.symbol.Wanted.TheVariants as wanted
use Rattle.ink_grammar.specs.declared.token.Terminal.{Terminal}
use Rattle.ink_grammar.specs.declared.symbol.Line.{Line}
use Rattle.ink_grammar.specs.declared.symbol.Line.TheVariants as line
use Rattle.ink_grammar.specs.declared.symbol.Nonterminal.{Nonterminal}
use Rattle.ink_grammar.specs.declared.symbol.Nonterminal.TheVariants as part_of
use Rattle.ink_grammar.specs.declared.symbol.ModulePart.{ModulePart}
use Rattle.ink_grammar.specs.declared.symbol.MethodPart.{MethodPart}
use Rattle.ink_grammar.specs.declared.symbol.TypePart.{TypePart}
use Rattle.ink_grammar.specs.declared.symbol.StatementPart.{StatementPart}
use Rattle.ink_grammar.specs.declared.symbol.OperandPart.{OperandPart}
use Rattle.ink_grammar.specs.declared.symbol.PatternPart.{PatternPart}
use Rattle.ink_grammar.specs.declared.symbol.ModulePart.TheVariants as module_of
use Rattle.ink_grammar.specs.declared.symbol.MethodPart.TheVariants as method_of
use Rattle.ink_grammar.specs.declared.symbol.TypePart.TheVariants as type_of
use Rattle.ink_grammar.specs.declared.symbol.StatementPart.TheVariants as statement_of
use Rattle.ink_grammar.specs.declared.symbol.OperandPart.TheVariants as operand_of
use Rattle.ink_grammar.specs.declared.symbol.PatternPart.TheVariants as pattern_of
use Rattle.ink_grammar.specs.declared.symbol.Symbol.{Symbol}
use Rattle.ink_grammar.specs.declared.symbol.Symbol.TheVariants as of
use Rattle.ink_grammar.specs.Grammar.{rules, may_be_empty, module_rules, method_rules, type_rules, statement_rules, operand_rules, pattern_rules}
use Rattle.ink_grammar.specs.Shapes.{number, is, stands}
use Rattle.ink_grammar.specs.Tree.{Found, keep, act}
use Rattle.ink_grammar.specs.Reads.{Among, Opens, by, Reads, done, token, part, make}
use Rattle.ink_grammar.proofs.Bools.{equal_self, and_left, and_right, not_true, implies, implied}
use Rattle.ink_grammar.proofs.Steps.{Clean, joined}
use Rattle.ink_grammar.proofs.Checks.{strict, has_no_place}

-- a short rule of each part
abbrev pub nth : ℕ → List (List Symbol) → List Symbol
nth n [] = []
nth zero (r ∷ rs) = r
nth (suc n) (r ∷ rs) = nth n rs

abbrev module_short : ModulePart → ℕ
module_short module_of.Imports = 1
module_short module_of.ImportPath = 1
module_short module_of.ImportNames = 1
module_short module_of.Declarations = 1
module_short module_of.Declaration = 2
module_short module_of.ObjectMembers = 2
module_short module_of.EnumMembers = 2
module_short module_of.TraitMethods = 1
module_short module_of.ImplementedTrait = 1
module_short _ = 0

abbrev method_short : MethodPart → ℕ
method_short method_of.OptionalPub = 1
method_short method_of.OptionalAsync = 1
method_short method_of.OptionalMut = 1
method_short method_of.MethodKind = 3
method_short method_of.TraitMethodKind = 2
method_short method_of.Methods = 1
method_short method_of.Parameters = 1
method_short method_of.MethodResult = 1
method_short _ = 0

abbrev type_short : TypePart → ℕ
type_short type_of.FullType = 1
type_short type_of.TypeArguments = 1
type_short type_of.TypeParameters = 1
type_short type_of.Bounds = 1
type_short type_of.BoundsRest = 1
type_short type_of.ConstructorTypes = 1
type_short _ = 0

abbrev statement_short : StatementPart → ℕ
statement_short statement_of.Statements = 1
statement_short statement_of.MoreStatements = 1
statement_short statement_of.Statement = 1
statement_short statement_of.LetType = 1
statement_short statement_of.Jump = 2
statement_short statement_of.ReturnRest = 1
statement_short statement_of.AfterOperand = 1
statement_short statement_of.ChainRest = 2
statement_short statement_of.ElseRest = 1
statement_short statement_of.Arms = 1
statement_short statement_of.Guard = 1
statement_short statement_of.ArmValue = 1
statement_short _ = 0

abbrev operand_short : OperandPart → ℕ
operand_short operand_of.UnnamedOperand = 3
operand_short operand_of.RecoverRest = 1
operand_short operand_of.NameRest = 1
operand_short operand_of.Links = 1
operand_short operand_of.Link = 1
operand_short operand_of.LinkRest = 1
operand_short operand_of.ConstantRest = 2
operand_short operand_of.AfterConstant = 1
operand_short operand_of.QualifiedRest = 1
operand_short _ = 0

abbrev pattern_short : PatternPart → ℕ
pattern_short pattern_of.PatternRest = 1
pattern_short pattern_of.ConstructorPatternRest = 1
pattern_short _ = 0

-- which production of the part is short
abbrev short : Nonterminal → ℕ
short (part_of.Module n) = module_short n
short (part_of.Method n) = method_short n
short (part_of.Type n) = type_short n
short (part_of.Statement n) = statement_short n
short (part_of.Operand n) = operand_short n
short (part_of.Pattern n) = pattern_short n

module_short_among : (n : ModulePart) → Among (nth (module_short n) (module_rules n)) (module_rules n)
module_short_among module_of.Module = inl refl
module_short_among module_of.Imports = inr (inl refl)
module_short_among module_of.Import = inl refl
module_short_among module_of.ImportPath = inr (inl refl)
module_short_among module_of.ImportNames = inr (inl refl)
module_short_among module_of.ImportName = inl refl
module_short_among module_of.ImportNamesRest = inl refl
module_short_among module_of.ImportNamesMore = inl refl
module_short_among module_of.Declarations = inr (inl refl)
module_short_among module_of.Declaration = inr (inr (inl refl))
module_short_among module_of.TypeForm = inl refl
module_short_among module_of.ObjectForm = inl refl
module_short_among module_of.ObjectMembers = inr (inr (inl refl))
module_short_among module_of.EnumMembers = inr (inr (inl refl))
module_short_among module_of.FieldDeclaration = inl refl
module_short_among module_of.Constructor = inl refl
module_short_among module_of.TraitMethods = inr (inl refl)
module_short_among module_of.TraitMethod = inl refl
module_short_among module_of.ImplementedTrait = inr (inl refl)

method_short_among : (n : MethodPart) → Among (nth (method_short n) (method_rules n)) (method_rules n)
method_short_among method_of.OptionalPub = inr (inl refl)
method_short_among method_of.OptionalAsync = inr (inl refl)
method_short_among method_of.OptionalMut = inr (inl refl)
method_short_among method_of.MethodKind = inr (inr (inr (inl refl)))
method_short_among method_of.TraitMethodKind = inr (inr (inl refl))
method_short_among method_of.Methods = inr (inl refl)
method_short_among method_of.Method = inl refl
method_short_among method_of.Parameters = inr (inl refl)
method_short_among method_of.ParametersMore = inl refl
method_short_among method_of.ParametersRest = inl refl
method_short_among method_of.Parameter = inl refl
method_short_among method_of.MethodResult = inr (inl refl)

type_short_among : (n : TypePart) → Among (nth (type_short n) (type_rules n)) (type_rules n)
type_short_among type_of.FullType = inr (inl refl)
type_short_among type_of.BareType = inl refl
type_short_among type_of.TupleTypeRest = inl refl
type_short_among type_of.TypeArguments = inr (inl refl)
type_short_among type_of.TypeArgumentsRest = inl refl
type_short_among type_of.TypeArgumentsMore = inl refl
type_short_among type_of.TypeParameters = inr (inl refl)
type_short_among type_of.TypeParametersRest = inl refl
type_short_among type_of.TypeParametersMore = inl refl
type_short_among type_of.TypeParameter = inl refl
type_short_among type_of.Bounds = inr (inl refl)
type_short_among type_of.BoundsRest = inr (inl refl)
type_short_among type_of.ConstructorTypes = inr (inl refl)
type_short_among type_of.ConstructorTypesRest = inl refl
type_short_among type_of.ConstructorTypesMore = inl refl

statement_short_among : (n : StatementPart) → Among (nth (statement_short n) (statement_rules n)) (statement_rules n)
statement_short_among statement_of.Block = inl refl
statement_short_among statement_of.Statements = inr (inl refl)
statement_short_among statement_of.MoreStatements = inr (inl refl)
statement_short_among statement_of.Statement = inr (inl refl)
statement_short_among statement_of.Mutable = inl refl
statement_short_among statement_of.LetName = inl refl
statement_short_among statement_of.LetType = inr (inl refl)
statement_short_among statement_of.Expression = inl refl
statement_short_among statement_of.Jump = inr (inr (inl refl))
statement_short_among statement_of.ReturnRest = inr (inl refl)
statement_short_among statement_of.AfterOperand = inr (inl refl)
statement_short_among statement_of.Chain = inl refl
statement_short_among statement_of.ChainRest = inr (inr (inl refl))
statement_short_among statement_of.UnnamedExpression = inl refl
statement_short_among statement_of.Conditional = inl refl
statement_short_among statement_of.ElseRest = inr (inl refl)
statement_short_among statement_of.ElseBranch = inl refl
statement_short_among statement_of.Arms = inr (inl refl)
statement_short_among statement_of.Arm = inl refl
statement_short_among statement_of.Guard = inr (inl refl)
statement_short_among statement_of.ArmValue = inr (inl refl)

operand_short_among : (n : OperandPart) → Among (nth (operand_short n) (operand_rules n)) (operand_rules n)
operand_short_among operand_of.Operand = inl refl
operand_short_among operand_of.UnnamedOperand = inr (inr (inr (inl refl)))
operand_short_among operand_of.RecoverRest = inr (inl refl)
operand_short_among operand_of.NameRest = inr (inl refl)
operand_short_among operand_of.Links = inr (inl refl)
operand_short_among operand_of.Link = inr (inl refl)
operand_short_among operand_of.LinkRest = inr (inl refl)
operand_short_among operand_of.ConstantRest = inr (inr (inl refl))
operand_short_among operand_of.AfterConstant = inr (inl refl)
operand_short_among operand_of.QualifiedRest = inr (inl refl)
operand_short_among operand_of.Primary = inl refl
operand_short_among operand_of.TextRest = inl refl
operand_short_among operand_of.ParenthesisRest = inl refl
operand_short_among operand_of.TupleRest = inl refl
operand_short_among operand_of.Items = inl refl
operand_short_among operand_of.ItemsRest = inl refl
operand_short_among operand_of.Arguments = inl refl
operand_short_among operand_of.ArgumentsRest = inl refl
operand_short_among operand_of.ConstructorArguments = inl refl
operand_short_among operand_of.NamedOrNot = inl refl
operand_short_among operand_of.NamedRest = inl refl
operand_short_among operand_of.NamedMore = inl refl

pattern_short_among : (n : PatternPart) → Among (nth (pattern_short n) (pattern_rules n)) (pattern_rules n)
pattern_short_among pattern_of.Pattern = inl refl
pattern_short_among pattern_of.Alternative = inl refl
pattern_short_among pattern_of.PatternRest = inr (inl refl)
pattern_short_among pattern_of.PatternTextRest = inl refl
pattern_short_among pattern_of.ConstructorPatternRest = inr (inl refl)
pattern_short_among pattern_of.PatternsRest = inl refl
pattern_short_among pattern_of.PatternsMore = inl refl
pattern_short_among pattern_of.TuplePatternRest = inl refl
pattern_short_among pattern_of.FieldPattern = inl refl
pattern_short_among pattern_of.FieldPatternsRest = inl refl
pattern_short_among pattern_of.FieldPatternsMore = inl refl

short_among : (n : Nonterminal) → Among (nth (short n) (rules n)) (rules n)
short_among (part_of.Module n) = module_short_among n
short_among (part_of.Method n) = method_short_among n
short_among (part_of.Type n) = type_short_among n
short_among (part_of.Statement n) = statement_short_among n
short_among (part_of.Operand n) = operand_short_among n
short_among (part_of.Pattern n) = pattern_short_among n

abbrev and_then : {A B : Type 0} → Option A → (A → Option B) → Option B
and_then None f = None
and_then (Some x) f = f x

record Had {A B : Type 0} (o : Option A) (f : A → Option B) (y : B) : Type 0 where
  value : A
  was : o ≡ Some value
  gives : f value ≡ Some y

had : {A B : Type 0} (o : Option A) (f : A → Option B) (y : B) → and_then o f ≡ Some y → Had o f y
had None f y e = cc
had (Some x) f y e = record { value = x; was = refl; gives = e }

abbrev only_if : {A : Type 0} → Bool → Option A → Option A
only_if false o = None
only_if true o = o

only_if_true : {A : Type 0} (b : Bool) (o : Option A) (y : A) → only_if b o ≡ Some y → (b ≡ true) × (o ≡ Some y)
only_if_true false o y e = cc
only_if_true true o y e = (refl, e)

-- where the line wants a token to stand
abbrev pub wants : Line → Bool
wants line.Any = false
wants line.Same = false
wants line.Fresh = true

abbrev next_wants : List Symbol → Bool
next_wants [] = false
next_wants (of.Token l w ∷ r) = wants l
next_wants (of.Place w ∷ r) = false
next_wants (of.Part l n ∷ r) = wants l
next_wants (of.Do a ∷ r) = next_wants r

abbrev opened : Line → List Terminal → Bool
opened line.Any ts = true
opened line.Same [] = false
opened line.Same (t ∷ ts) = not t.new_line
opened line.Fresh [] = false
opened line.Fresh (t ∷ ts) = t.new_line

opened_opens : (l : Line) (ts : List Terminal) → opened l ts ≡ true → Opens l ts
opened_opens line.Any ts e = tt
opened_opens line.Same [] e = cc
opened_opens line.Same (t ∷ ts) e = not_true t.new_line e
opened_opens line.Fresh [] e = cc
opened_opens line.Fresh (t ∷ ts) e = e

abbrev pub made : Shape → Bool → Terminal
made x new_line = record { shape = x; start = 0; end = 0; new_line = new_line }

-- a shape that is wanted
abbrev pub sample_of : Wanted → Shape
sample_of (wanted.Mark x) = x
sample_of (wanted.Word x) = x
sample_of wanted.Atom = shape.Integer
sample_of wanted.PatternAtom = shape.Underscore
sample_of wanted.Operator = shape.Mark mark.Operator
sample_of wanted.Logical = shape.Keyword keyword.And
sample_of wanted.Setter = shape.Mark mark.Equals
sample_of wanted.BorrowWord = shape.Keyword keyword.Ref
sample_of wanted.TypePrefix = shape.Keyword keyword.Ref
sample_of wanted.LoopJump = shape.Keyword keyword.Break
sample_of wanted.LinkName = shape.Name

is_sample : (w : Wanted) → is w (sample_of w) ≡ true
is_sample (wanted.Mark x) = equal_self (number x)
is_sample (wanted.Word x) = equal_self (number x)
is_sample wanted.Atom = refl
is_sample wanted.PatternAtom = refl
is_sample wanted.Operator = refl
is_sample wanted.Logical = refl
is_sample wanted.Setter = refl
is_sample wanted.BorrowWord = refl
is_sample wanted.TypePrefix = refl
is_sample wanted.LoopJump = refl
is_sample wanted.LinkName = refl

-- tokens for the symbols, at most so deep
abbrev sample : ℕ → Bool → List Symbol → Option (List Terminal)
sample zero b r = None
sample (suc f) b [] = Some []
sample (suc f) b (of.Token l w ∷ r) = only_if (stands l b) (and_then (sample f (next_wants r) r) (λ ts. Some (made (sample_of w) b ∷ ts)))
sample (suc f) b (of.Place w ∷ r) = None
sample (suc f) b (of.Part l n ∷ r) = and_then (sample f b (nth (short n) (rules n))) (λ us. only_if (opened l us) (and_then (sample f (next_wants r) r) (λ ws. Some (us ++ ws))))
sample (suc f) b (of.Do a ∷ r) = sample f b r

some_same : {A : Type 0} {x y : A} → Some x ≡ Some y → x ≡ y
some_same e = cc

sample_reads : (f : ℕ) (b : Bool) (r : List Symbol) (ts : List Terminal) → sample f b r ≡ Some ts → (vs : List Found) → (fin : List Found) × Reads r vs ts fin
sample_reads zero b r ts e vs = cc
sample_reads (suc f) b [] ts e vs = (vs, subst (λ x. Reads [] vs x vs) (some_same e) done)
sample_reads (suc f) b (of.Token l w ∷ r) ts e vs =
    let g = only_if_true (stands l b) _ ts e in
    let h = had (sample f (next_wants r) r) (λ xs. Some (made (sample_of w) b ∷ xs)) ts g.1 in
    let d = sample_reads f (next_wants r) r h.value h.was (keep w (made (sample_of w) b) vs) in
    (d.0, subst (λ x. Reads (of.Token l w ∷ r) vs x d.0) (some_same h.gives) (token g.0 (is_sample w) d.1))
sample_reads (suc f) b (of.Place w ∷ r) ts e vs = cc
sample_reads (suc f) b (of.Part l n ∷ r) ts e vs =
    let h = had (sample f b (nth (short n) (rules n))) (λ us. only_if (opened l us) (and_then (sample f (next_wants r) r) (λ ws. Some (us ++ ws)))) ts e in
    let g = only_if_true (opened l h.value) _ ts h.gives in
    let i = had (sample f (next_wants r) r) (λ ws. Some (h.value ++ ws)) ts g.1 in
    let d = sample_reads f b (nth (short n) (rules n)) h.value h.was vs in
    let c = sample_reads f (next_wants r) r i.value i.was d.0 in
    (c.0, part (by (short_among n) d.1) (opened_opens l h.value g.0) c.1 (sym (some_same i.gives)))
sample_reads (suc f) b (of.Do a ∷ r) ts e vs =
    let d = sample_reads f b r ts e (act a vs) in (d.0, make d.1)

abbrev is_made : Option (List Terminal) → Bool
is_made None = false
is_made (Some ts) = true

what_is_made : (o : Option (List Terminal)) → is_made o ≡ true → (ts : List Terminal) × (o ≡ Some ts)
what_is_made None e = cc
what_is_made (Some ts) e = (ts, refl)

sampled : Line → Nonterminal → Bool
sampled l n = is_made (sample 20 (wants l) (of.Part l n ∷ []))

abbrev has_sample : Nonterminal → Bool
has_sample n = sampled line.Any n && implies (not (may_be_empty n)) (sampled line.Same n && sampled line.Fresh n)

module_have : (n : ModulePart) → has_sample (part_of.Module n) ≡ true
unfolding sampled
module_have module_of.Module = refl
module_have module_of.Imports = refl
module_have module_of.Import = refl
module_have module_of.ImportPath = refl
module_have module_of.ImportNames = refl
module_have module_of.ImportName = refl
module_have module_of.ImportNamesRest = refl
module_have module_of.ImportNamesMore = refl
module_have module_of.Declarations = refl
module_have module_of.Declaration = refl
module_have module_of.TypeForm = refl
module_have module_of.ObjectForm = refl
module_have module_of.ObjectMembers = refl
module_have module_of.EnumMembers = refl
module_have module_of.FieldDeclaration = refl
module_have module_of.Constructor = refl
module_have module_of.TraitMethods = refl
module_have module_of.TraitMethod = refl
module_have module_of.ImplementedTrait = refl

method_have : (n : MethodPart) → has_sample (part_of.Method n) ≡ true
unfolding sampled
method_have method_of.OptionalPub = refl
method_have method_of.OptionalAsync = refl
method_have method_of.OptionalMut = refl
method_have method_of.MethodKind = refl
method_have method_of.TraitMethodKind = refl
method_have method_of.Methods = refl
method_have method_of.Method = refl
method_have method_of.Parameters = refl
method_have method_of.ParametersMore = refl
method_have method_of.ParametersRest = refl
method_have method_of.Parameter = refl
method_have method_of.MethodResult = refl

type_have : (n : TypePart) → has_sample (part_of.Type n) ≡ true
unfolding sampled
type_have type_of.FullType = refl
type_have type_of.BareType = refl
type_have type_of.TupleTypeRest = refl
type_have type_of.TypeArguments = refl
type_have type_of.TypeArgumentsRest = refl
type_have type_of.TypeArgumentsMore = refl
type_have type_of.TypeParameters = refl
type_have type_of.TypeParametersRest = refl
type_have type_of.TypeParametersMore = refl
type_have type_of.TypeParameter = refl
type_have type_of.Bounds = refl
type_have type_of.BoundsRest = refl
type_have type_of.ConstructorTypes = refl
type_have type_of.ConstructorTypesRest = refl
type_have type_of.ConstructorTypesMore = refl

statement_have : (n : StatementPart) → has_sample (part_of.Statement n) ≡ true
unfolding sampled
statement_have statement_of.Block = refl
statement_have statement_of.Statements = refl
statement_have statement_of.MoreStatements = refl
statement_have statement_of.Statement = refl
statement_have statement_of.Mutable = refl
statement_have statement_of.LetName = refl
statement_have statement_of.LetType = refl
statement_have statement_of.Expression = refl
statement_have statement_of.Jump = refl
statement_have statement_of.ReturnRest = refl
statement_have statement_of.AfterOperand = refl
statement_have statement_of.Chain = refl
statement_have statement_of.ChainRest = refl
statement_have statement_of.UnnamedExpression = refl
statement_have statement_of.Conditional = refl
statement_have statement_of.ElseRest = refl
statement_have statement_of.ElseBranch = refl
statement_have statement_of.Arms = refl
statement_have statement_of.Arm = refl
statement_have statement_of.Guard = refl
statement_have statement_of.ArmValue = refl

operand_have : (n : OperandPart) → has_sample (part_of.Operand n) ≡ true
unfolding sampled
operand_have operand_of.Operand = refl
operand_have operand_of.UnnamedOperand = refl
operand_have operand_of.RecoverRest = refl
operand_have operand_of.NameRest = refl
operand_have operand_of.Links = refl
operand_have operand_of.Link = refl
operand_have operand_of.LinkRest = refl
operand_have operand_of.ConstantRest = refl
operand_have operand_of.AfterConstant = refl
operand_have operand_of.QualifiedRest = refl
operand_have operand_of.Primary = refl
operand_have operand_of.TextRest = refl
operand_have operand_of.ParenthesisRest = refl
operand_have operand_of.TupleRest = refl
operand_have operand_of.Items = refl
operand_have operand_of.ItemsRest = refl
operand_have operand_of.Arguments = refl
operand_have operand_of.ArgumentsRest = refl
operand_have operand_of.ConstructorArguments = refl
operand_have operand_of.NamedOrNot = refl
operand_have operand_of.NamedRest = refl
operand_have operand_of.NamedMore = refl

pattern_have : (n : PatternPart) → has_sample (part_of.Pattern n) ≡ true
unfolding sampled
pattern_have pattern_of.Pattern = refl
pattern_have pattern_of.Alternative = refl
pattern_have pattern_of.PatternRest = refl
pattern_have pattern_of.PatternTextRest = refl
pattern_have pattern_of.ConstructorPatternRest = refl
pattern_have pattern_of.PatternsRest = refl
pattern_have pattern_of.PatternsMore = refl
pattern_have pattern_of.TuplePatternRest = refl
pattern_have pattern_of.FieldPattern = refl
pattern_have pattern_of.FieldPatternsRest = refl
pattern_have pattern_of.FieldPatternsMore = refl

all_have : (n : Nonterminal) → has_sample n ≡ true
all_have (part_of.Module n) = module_have n
all_have (part_of.Method n) = method_have n
all_have (part_of.Type n) = type_have n
all_have (part_of.Statement n) = statement_have n
all_have (part_of.Operand n) = operand_have n
all_have (part_of.Pattern n) = pattern_have n

part_sampled : (l : Line) (n : Nonterminal) → strict l n ≡ true → sampled l n ≡ true
part_sampled line.Any n e = and_left (sampled line.Any n) _ (all_have n)
part_sampled line.Same n e = and_left (sampled line.Same n) (sampled line.Fresh n) (implied (not (may_be_empty n)) (sampled line.Same n && sampled line.Fresh n) (and_right (sampled line.Any n) _ (all_have n)) e)
part_sampled line.Fresh n e = and_right (sampled line.Same n) (sampled line.Fresh n) (implied (not (may_be_empty n)) (sampled line.Same n && sampled line.Fresh n) (and_right (sampled line.Any n) _ (all_have n)) e)

part_made : (l : Line) (n : Nonterminal) → strict l n ≡ true → (ts : List Terminal) × (sample 20 (wants l) (of.Part l n ∷ []) ≡ Some ts)
unfolding sampled
part_made l n e = what_is_made (sample 20 (wants l) (of.Part l n ∷ [])) (part_sampled l n e)

pub record Readable (r : List Symbol) (vs : List Found) : Type 0 where
  pub tokens : List Terminal
  pub fin : List Found
  pub reads : Reads r vs tokens fin

stands_wanted : (l : Line) → stands l (wants l) ≡ true
stands_wanted line.Any = refl
stands_wanted line.Same = refl
stands_wanted line.Fresh = refl

-- Symbols that want no place before them are read from some tokens.
pub readable : (r : List Symbol) (vs : List Found) → Clean r → has_no_place r ≡ true → Readable r vs
readable [] vs c e = record { tokens = []; fin = vs; reads = done }
readable (of.Token l w ∷ r) vs c e =
    let d = readable r (keep w (made (sample_of w) (wants l)) vs) c e in
    record { tokens = made (sample_of w) (wants l) ∷ d.tokens; fin = d.fin; reads = token (stands_wanted l) (is_sample w) d.reads }
readable (of.Place w ∷ r) vs c e = cc
readable (of.Do a ∷ r) vs c e =
    let d = readable r (act a vs) c e in
    record { tokens = d.tokens; fin = d.fin; reads = make d.reads }
readable (of.Part l n ∷ r) vs c e =
    let m = part_made l n c.0 in
    let h = sample_reads 20 (wants l) (of.Part l n ∷ []) m.0 m.1 vs in
    let d = readable r h.0 c.2 e in
    record { tokens = m.0 ++ d.tokens; fin = d.fin; reads = joined h.1 d.reads }
