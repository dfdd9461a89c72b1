-- The core form as trees: one type for each kind of node, and one for each kind of list.
use Rattle.std.specs.Prelude.{ℕ, Bool, List, [], ◌∷◌, Option}
use Rattle.ink_base.specs.declared.ident.BorrowKind.{BorrowKind}
use Rattle.ink_forms.specs.declared.word.Identifier.{Identifier}
use Rattle.ink_forms.specs.declared.word.Literal.{Literal}
use Rattle.ink_forms.specs.declared.word.Made.{Made}
use Rattle.ink_forms.specs.declared.written.Prefix.{Prefix}
use Rattle.ink_forms.specs.declared.expr.Operator.{Operator}
use Rattle.ink_forms.specs.declared.expr.Selector.{Selector}
use Rattle.ink_forms.specs.declared.expr.Binding.{Binding}
use Rattle.ink_forms.specs.declared.expr.Choice.{Choice}
use Rattle.ink_forms.specs.declared.method.Mode.{Mode}

-- the number of a node, the byte of its first token, and the byte of its own place
pub record Spot : Type 0 where
  pub number : ℕ
  pub start : ℕ
  pub place : ℕ

-- written types
mutual
  pub data Written : Type 0 where
    Named : Spot → ℕ → WrittenList → Written
    Prefixed : Spot → Prefix → Written → Written
    Tuple : Spot → WrittenList → Written

  pub data WrittenList : Type 0 where
    NoWritten : WrittenList
    AndWritten : Written → WrittenList → WrittenList

-- patterns
mutual
  pub data Pat : Type 0 where
    Wildcard : Spot → Pat
    LitPat : Spot → Literal → Pat
    Name : Spot → Bool → ℕ → Pat
    Constructor : Spot → Made → Pats → Pat
    Either : Spot → Pats → Pat
    Fields : Spot → FieldPats → Pat

  pub data Pats : Type 0 where
    NoPat : Pats
    AndPat : Pat → Pats → Pats

  pub data FieldPats : Type 0 where
    NoField : FieldPats
    AndField : Identifier → Pat → FieldPats → FieldPats

-- what a call calls: a method by its name or by its operator
pub data Callee : Type 0 where
  ByName : ℕ → Callee
  ByOperator : Operator → Callee

-- what is made: by a name alone, or by the constructor of an enum
pub data Constructed : Type 0 where
  Plain : Made → Constructed
  Of : ℕ → ℕ → Constructed

-- expressions
mutual
  pub data Term : Type 0 where
    Lit : Spot → Literal → Term
    Var : Spot → ℕ → Term
    SelfValue : Spot → Term
    Field : Spot → Selector → Term → Term
    Borrow : Spot → BorrowKind → Term → Term
    Set : Spot → Term → Term → Term
    Swap : Spot → Term → Term → Term
    Let : Spot → Binding → Option Written → Term → Term
    Block : Spot → ℕ → Terms → Term
    New : Spot → Constructed → Arguments → Term
    Arr : Spot → Terms → Term
    Call : Spot → Callee → Term → Terms → Term
    Fn : Spot → ℕ → Terms → Term
    Static : Spot → ℕ → ℕ → Terms → Term
    Match : Spot → Choice → Term → Arms → Term
    Loop : Spot → Term → Term
    Break : Spot → Term
    Next : Spot → Term
    Return : Spot → Term → Term
    Recover : Spot → Term → Term
    Panic : Spot → Terms → Term
    Drop : Spot → Term → Term
    Statement : Spot → Term → Term

  pub data Terms : Type 0 where
    NoTerm : Terms
    AndTerm : Term → Terms → Terms

  pub data Arguments : Type 0 where
    NoArgument : Arguments
    AndArgument : Option Identifier → Term → Arguments → Arguments

  pub data Guard : Type 0 where
    Always : Guard
    When : Term → Guard

  pub data Arms : Type 0 where
    NoArm : Arms
    AndArm : Pat → Guard → Term → Arms → Arms

-- an arm by itself, an argument, and a field of a pattern
pub record OneArm : Type 0 where
  pub pattern : Pat
  pub guard : Guard
  pub value : Term

pub record OneArgument : Type 0 where
  pub label : Option Identifier
  pub value : Term

pub record OneField : Type 0 where
  pub field : Identifier
  pub pattern : Pat

-- parameters and methods
pub record ParameterTree : Type 0 where
  pub spot : Spot
  pub name : ℕ
  pub annotation : Written

pub record MethodTree : Type 0 where
  pub spot : Spot
  pub mode : Mode
  pub is_async : Bool
  pub parameters : List ParameterTree
  pub body : Term

-- the items of a list, as a list of a tree
abbrev pub listed : {X L : Type 0} → (X → L → L) → L → List X → L
listed put end [] = end
listed put end (x ∷ xs) = put x (listed put end xs)

abbrev pub and_argument : OneArgument → Arguments → Arguments
and_argument x xs = AndArgument x.label x.value xs

abbrev pub and_arm : OneArm → Arms → Arms
and_arm x xs = AndArm x.pattern x.guard x.value xs

abbrev pub and_field : OneField → FieldPats → FieldPats
and_field x xs = AndField x.field x.pattern xs

abbrev pub written_list : List Written → WrittenList
written_list xs = listed AndWritten NoWritten xs

abbrev pub pats : List Pat → Pats
pats xs = listed AndPat NoPat xs

abbrev pub field_pats : List OneField → FieldPats
field_pats xs = listed and_field NoField xs

abbrev pub terms : List Term → Terms
terms xs = listed AndTerm NoTerm xs

abbrev pub arguments : List OneArgument → Arguments
arguments xs = listed and_argument NoArgument xs

abbrev pub arms : List OneArm → Arms
arms xs = listed and_arm NoArm xs
