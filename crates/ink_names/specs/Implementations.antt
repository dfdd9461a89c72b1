-- Which type has which trait, and the methods at the slots of traits.
use Rattle.std.specs.Prelude.{◌≡◌, ℕ, Bool, false, Option}
use Rattle.indexmap.specs.IndexSet.{contains}
use Rattle.ink_names.specs.declared.implementations.Impls.{Impls}
use Rattle.ink_names.specs.Pairs as pairs

-- the method that a type has at a slot
abbrev pub method_of : Impls → ℕ → ℕ → Option ℕ
method_of impls kind slot = pairs.number_of impls.methods kind slot

-- whether a type has a trait
abbrev pub has : Impls → ℕ → ℕ → Bool
has impls kind of_trait = contains pairs.same_pair impls.traits (kind, of_trait)

-- the methods stay, all of them or all but that of one type at one slot
abbrev pub SameMethods : Impls → Impls → Type 0
SameMethods old new = pairs.Same old.methods new.methods

abbrev pub SameMethodsBut : ℕ → ℕ → Impls → Impls → Type 0
SameMethodsBut kind slot old new = pairs.SameBut kind slot old.methods new.methods

-- the traits stay, all of them or all but one of one type
abbrev pub SameTraits : Impls → Impls → Type 0
SameTraits old new = (kind of_trait : ℕ) → has new kind of_trait ≡ has old kind of_trait

abbrev pub SameTraitsBut : ℕ → ℕ → Impls → Impls → Type 0
SameTraitsBut kind of_trait old new = (k t : ℕ) → pairs.same_pair (kind, of_trait) (k, t) ≡ false → has new k t ≡ has old k t
