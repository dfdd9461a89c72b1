-- The variables in scope, in the order in which they are declared. A variable is named by the first node that declares it.
use Rattle.std.specs.Prelude.{ℕ, List, [], ◌∷◌, ◌++◌, map}
use Rattle.ink_forms.specs.declared.expr.Binding.{Binding}
use Rattle.ink_forms.specs.declared.expr.Binding.TheVariants as binding
use Rattle.ink_forms.specs.declared.method.Mode.{Mode}
use Rattle.ink_forms.specs.declared.method.Mode.TheVariants as mode
use Rattle.ink_forms.specs.Trees.{Spot, Pat, Pats, FieldPats, Wildcard, LitPat, Name, Constructor, Either, Fields, NoPat, AndPat, NoField, AndField, Term, Terms, Let, NoTerm, AndTerm, ParameterTree, MethodTree}

abbrev pub bound : ℕ → Binding → List ℕ
bound n (binding.Fixed x) = n ∷ []
bound n (binding.Mutable x) = n ∷ []
bound n binding.Wildcard = []

-- behind a statement
abbrev pub declare : Term → List ℕ → List ℕ
declare (Let s x t a) xs = xs ++ bound s.number x
declare t xs = xs

abbrev pub declare_all : Terms → List ℕ → List ℕ
declare_all NoTerm xs = xs
declare_all (AndTerm a es) xs = declare_all es (declare a xs)

-- behind a pattern, of which only the first alternative counts
abbrev mutual
  pub bind : Pat → List ℕ → List ℕ
  bind (Wildcard s) xs = xs
  bind (LitPat s x) xs = xs
  bind (Name s m x) xs = xs ++ s.number ∷ []
  bind (Constructor s x ps) xs = bind_all ps xs
  bind (Either s ps) xs = bind_first ps xs
  bind (Fields s fs) xs = bind_fields fs xs

  pub bind_all : Pats → List ℕ → List ℕ
  bind_all NoPat xs = xs
  bind_all (AndPat p ps) xs = bind_all ps (bind p xs)

  pub bind_first : Pats → List ℕ → List ℕ
  bind_first NoPat xs = xs
  bind_first (AndPat p ps) xs = bind p xs

  pub bind_fields : FieldPats → List ℕ → List ℕ
  bind_fields NoField xs = xs
  bind_fields (AndField x p fs) xs = bind_fields fs (bind p xs)

abbrev pub spot_of_pat : Pat → Spot
spot_of_pat (Wildcard s) = s
spot_of_pat (LitPat s x) = s
spot_of_pat (Name s m x) = s
spot_of_pat (Constructor s x ps) = s
spot_of_pat (Either s ps) = s
spot_of_pat (Fields s fs) = s

-- the number of a pattern
abbrev pub number_of_pat : Pat → ℕ
number_of_pat p = (spot_of_pat p).number

-- at the head of a body: `self` where it is moved, and the parameters
abbrev pub moved_self : ℕ → Mode → List ℕ
moved_self n mode.Move = n ∷ []
moved_self n mode.Plain = []
moved_self n mode.Mut = []
moved_self n mode.Static = []

abbrev pub number_of_parameter : ParameterTree → ℕ
number_of_parameter x = x.spot.number

abbrev pub scope_of : MethodTree → List ℕ
scope_of x = moved_self x.spot.number x.mode ++ map number_of_parameter x.parameters
