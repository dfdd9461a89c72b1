-- What symbols find, by cases.
use Rattle.std.proofs.Common.{◌≡◌, ℕ, zero, suc, true, false, List, [], ◌∷◌, ◌++◌}
use Rattle.ink_grammar.specs.declared.token.Terminal.{Terminal}
use Rattle.ink_grammar.specs.declared.symbol.Nonterminal.{Nonterminal}
use Rattle.ink_grammar.specs.declared.symbol.Nonterminal.TheVariants as part_of
use Rattle.ink_grammar.specs.declared.symbol.ModulePart.{ModulePart}
use Rattle.ink_grammar.specs.declared.symbol.ModulePart.TheVariants as module_of
use Rattle.ink_grammar.specs.declared.symbol.MethodPart.{MethodPart}
use Rattle.ink_grammar.specs.declared.symbol.MethodPart.TheVariants as method_of
use Rattle.ink_grammar.specs.declared.symbol.TypePart.{TypePart}
use Rattle.ink_grammar.specs.declared.symbol.TypePart.TheVariants as type_of
use Rattle.ink_grammar.specs.declared.symbol.StatementPart.{StatementPart}
use Rattle.ink_grammar.specs.declared.symbol.StatementPart.TheVariants as statement_of
use Rattle.ink_grammar.specs.declared.symbol.OperandPart.{OperandPart}
use Rattle.ink_grammar.specs.declared.symbol.OperandPart.TheVariants as operand_of
use Rattle.ink_grammar.specs.declared.symbol.PatternPart.{PatternPart}
use Rattle.ink_grammar.specs.declared.symbol.PatternPart.TheVariants as pattern_of
use Rattle.ink_grammar.specs.declared.symbol.Symbol.{Symbol}
use Rattle.ink_grammar.specs.declared.symbol.Symbol.TheVariants as of
use Rattle.ink_grammar.specs.Shapes.{is, stands}
use Rattle.ink_grammar.specs.Tree.{Found, keep, act, is_place}
use Rattle.ink_grammar.specs.Reads.{Opens}
use Rattle.ink_grammar.specs.Productions.{Is}

abbrev module_takes : ModulePart → ℕ
module_takes module_of.Imports = 1
module_takes module_of.ImportPath = 1
module_takes module_of.ImportNamesRest = 1
module_takes module_of.ImportNamesMore = 1
module_takes module_of.Declarations = 1
module_takes module_of.TypeForm = 2
module_takes module_of.ObjectForm = 2
module_takes module_of.ObjectMembers = 1
module_takes module_of.EnumMembers = 1
module_takes module_of.TraitMethods = 1
module_takes _ = 0

abbrev method_takes : MethodPart → ℕ
method_takes method_of.OptionalPub = 1
method_takes method_of.OptionalAsync = 1
method_takes method_of.OptionalMut = 1
method_takes method_of.MethodKind = 1
method_takes method_of.TraitMethodKind = 1
method_takes method_of.Methods = 1
method_takes method_of.ParametersMore = 1
method_takes method_of.ParametersRest = 1
method_takes _ = 0

abbrev type_takes : TypePart → ℕ
type_takes type_of.TupleTypeRest = 3
type_takes type_of.TypeArgumentsRest = 1
type_takes type_of.TypeArgumentsMore = 1
type_takes type_of.TypeParametersRest = 1
type_takes type_of.TypeParametersMore = 1
type_takes type_of.BoundsRest = 1
type_takes type_of.ConstructorTypesRest = 1
type_takes type_of.ConstructorTypesMore = 1
type_takes _ = 0

abbrev statement_takes : StatementPart → ℕ
statement_takes statement_of.Statements = 1
statement_takes statement_of.MoreStatements = 1
statement_takes statement_of.ReturnRest = 1
statement_takes statement_of.AfterOperand = 1
statement_takes statement_of.ChainRest = 1
statement_takes statement_of.ElseRest = 3
statement_takes statement_of.Arms = 1
statement_takes _ = 0

abbrev operand_takes : OperandPart → ℕ
operand_takes operand_of.RecoverRest = 1
operand_takes operand_of.NameRest = 1
operand_takes operand_of.Links = 1
operand_takes operand_of.Link = 1
operand_takes operand_of.LinkRest = 2
operand_takes operand_of.ConstantRest = 1
operand_takes operand_of.AfterConstant = 1
operand_takes operand_of.QualifiedRest = 1
operand_takes operand_of.TextRest = 1
operand_takes operand_of.ParenthesisRest = 2
operand_takes operand_of.TupleRest = 3
operand_takes operand_of.Items = 1
operand_takes operand_of.ItemsRest = 1
operand_takes operand_of.Arguments = 1
operand_takes operand_of.ArgumentsRest = 1
operand_takes operand_of.ConstructorArguments = 1
operand_takes operand_of.NamedOrNot = 2
operand_takes operand_of.NamedRest = 1
operand_takes operand_of.NamedMore = 1
operand_takes _ = 0

abbrev pattern_takes : PatternPart → ℕ
pattern_takes pattern_of.PatternRest = 1
pattern_takes pattern_of.PatternTextRest = 1
pattern_takes pattern_of.ConstructorPatternRest = 1
pattern_takes pattern_of.PatternsRest = 1
pattern_takes pattern_of.PatternsMore = 1
pattern_takes pattern_of.TuplePatternRest = 3
pattern_takes pattern_of.FieldPatternsRest = 1
pattern_takes pattern_of.FieldPatternsMore = 1
pattern_takes _ = 0

-- how many of the values before it are a part's own
abbrev pub takes : Nonterminal → ℕ
takes (part_of.Module n) = module_takes n
takes (part_of.Method n) = method_takes n
takes (part_of.Type n) = type_takes n
takes (part_of.Statement n) = statement_takes n
takes (part_of.Operand n) = operand_takes n
takes (part_of.Pattern n) = pattern_takes n

abbrev pub AfterSome : ℕ → Nonterminal → List Found → List Found → List Terminal → (List Found → Type 0) → Type 0
AfterSome zero n own vs us f = (v : Found) × Is n own us v × f (v ∷ vs)
AfterSome (suc k) n own [] us f = Unit {0}
AfterSome (suc k) n own (a ∷ vs) us f = AfterSome k n (own ++ a ∷ []) vs us f

-- These tokens are the part by cases, and of what is found this holds.
abbrev pub After : Nonterminal → List Found → List Terminal → (List Found → Type 0) → Type 0
After n vs us f = AfterSome (takes n) n [] vs us f

pub after_map : (k : ℕ) (n : Nonterminal) (own vs : List Found) (us : List Terminal) (f g : List Found → Type 0) → ((z : List Found) → f z → g z) → AfterSome k n own vs us f → AfterSome k n own vs us g
after_map zero n own vs us f g h a = (a.0, a.1, h _ a.2)
after_map (suc k) n own [] us f g h a = a
after_map (suc k) n own (x ∷ vs) us f g h a = after_map k n (own ++ x ∷ []) vs us f g h a

-- What is read, symbol by symbol.
abbrev pub Means : List Symbol → List Found → List Terminal → List Found → Type 0
Means [] vs ts fin = (ts ≡ []) × (fin ≡ vs)
Means (of.Token l w ∷ r) vs ts fin = (t : Terminal) × (more : List Terminal) × (ts ≡ t ∷ more) × (stands l t.new_line ≡ true) × (is w t.shape ≡ true) × Means r (keep w t vs) more fin
Means (of.Place w ∷ r) vs ts fin = (t : Terminal) × (more : List Terminal) × (ts ≡ t ∷ more) × (is_place vs ≡ true) × (t.new_line ≡ false) × (is w t.shape ≡ true) × Means r (keep w t vs) more fin
Means (of.Part l n ∷ r) vs ts fin = (us : List Terminal) × (ws : List Terminal) × (ts ≡ us ++ ws) × Opens l us × After n vs us (λ mid. Means r mid ws fin)
Means (of.Do a ∷ r) vs ts fin = Means r (act a vs) ts fin
