-- What is cut out of no objects.
use Rattle.std.proofs.Common.{◌≡◌, Option, None, Some, refl, sym, ap, ◌∙◌}
use Rattle.std.proofs.lemmas.Option.{none-some}
use Rattle.std.specs.Prelude.{IsSome}
use Rattle.std.specs.FinMap.{empty, get, get-empty}
use Rattle.ink_base.specs.declared.object.Object.{Object}
use Rattle.ink_base.specs.Ident.{id_cmp}
use Rattle.ink_base.specs.Objects.{Objects}
use Rattle.ink_parcel.specs.Parts.{AreApartFrom, IsSplit, Splits}

nothing : (whole rest part : Option Object) → IsSplit whole rest part → whole ≡ None → part ≡ None
nothing whole rest None split none = refl
nothing whole rest (Some object) split none = let same : None ≡ Some object = sym none ∙ split.1 in cc

none_there : (found : Option Object) → found ≡ None → IsSome found → ⊥
none_there None none there = cc
none_there (Some object) none there = none-some object (sym none)

-- a part of no objects is apart from all objects
pub apart_from_all : (whole rest part : Objects) → whole ≡ empty → Splits whole rest part → (objects : Objects) → AreApartFrom objects part
apart_from_all whole rest part none split objects id there =
    absurd (none_there (get part id) (nothing (get whole id) (get rest id) (get part id) (split id) (ap (λ all. get all id) none ∙ get-empty id_cmp id)) there)
