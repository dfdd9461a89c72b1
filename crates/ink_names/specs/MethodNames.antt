-- The methods of types by their names.
use Rattle.std.specs.Prelude.{◌≡◌, ℕ, false, Option, Some, None, if◌then◌else◌}
use Rattle.indexmap.specs.IndexSet.{contains}
use Rattle.ink_names.specs.declared.methods.Named.{Named}
use Rattle.ink_names.specs.declared.methods.Named.TheVariants.{One, Several}
use Rattle.ink_names.specs.declared.method_names.MethodNames.{MethodNames}
use Rattle.ink_names.specs.Pairs.{same_pair, number_of}

abbrev pub one : Option ℕ → Option Named
one None = None
one (Some number) = Some (One number)

-- what a name stands for among the methods of a type
abbrev pub named : MethodNames → ℕ → ℕ → Option Named
named names kind name = if contains same_pair names.repeated (kind, name) then Some Several else one (number_of names.numbers kind name)

-- with one method more
abbrev pub with_method : Option Named → ℕ → Named
with_method None number = One number
with_method (Some before) number = Several

abbrev pub Same : MethodNames → MethodNames → Type 0
Same old new = (kind name : ℕ) → named new kind name ≡ named old kind name

abbrev pub SameBut : ℕ → ℕ → MethodNames → MethodNames → Type 0
SameBut kind name old new = (k n : ℕ) → same_pair (kind, name) (k, n) ≡ false → named new k n ≡ named old k n
