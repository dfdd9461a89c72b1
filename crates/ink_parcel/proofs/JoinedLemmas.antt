-- Objects to which those of a parcel were put are those joined with it.
use Rattle.std.proofs.Common.{◌≡◌, Bool, true, false, cond, Option, Some, None, [], ◌∷◌, refl, sym, ap, ◌∙◌}
use Rattle.std.specs.FinMap.{find, get, entries, get-entries, get-insert, same_map}
use Rattle.ink_base.specs.declared.ident.ObjectId.{ObjectId}
use Rattle.ink_base.specs.Ident.{id_cmp}
use Rattle.ink_base.proofs.IdentLemmas.{id_cmp_total, id_cmp_exact}
use Rattle.ink_base.specs.declared.object.Object.{Object}
use Rattle.ink_base.specs.Objects.{Objects}
use Rattle.ink_code.specs.Trees.{Parcel, put_each, joined}
use Rattle.ink_heap.specs.Pairs.{Pairs}
use Rattle.ink_heap.proofs.ObjectsLemmas.{is_same}
use Rattle.ink_parcel.specs.Parts.{IsSplit, Splits}
use Rattle.ink_parcel.proofs.MovesLemmas.{first_some}

first_put : (test : Bool) (object : Object) (front back : Option Object) → cond test (Some object) (first_some front back) ≡ first_some (cond test (Some object) front) back
first_put true object front back = refl
first_put false object front back = refl

-- a name has the object of the first pair that has the name, or else the one that was there
get-put_each : (pairs : Pairs) (objects : Objects) (id : ObjectId) → get (put_each pairs objects) id ≡ first_some (find id_cmp id pairs) (get objects id)
get-put_each [] objects id = refl
get-put_each ((name, object) ∷ pairs) objects id =
    get-insert id_cmp_total (put_each pairs objects) name object id
    ∙ ap (cond (is_same id name) (Some object)) (get-put_each pairs objects id)
    ∙ first_put (is_same id name) object (find id_cmp id pairs) (get objects id)

whole_first : (whole rest part : Option Object) → IsSplit whole rest part → whole ≡ first_some part rest
whole_first whole rest None split = sym split
whole_first whole rest (Some object) split = split.1

pub joined-split : (whole rest : Objects) (parcel : Parcel) → Splits whole rest parcel.objects → whole ≡ joined rest parcel
unfolding joined
joined-split whole rest parcel split =
    same_map id_cmp_total id_cmp_exact whole _ (λ id.
    whole_first (get whole id) (get rest id) (get parcel.objects id) (split id)
    ∙ ap (λ found. first_some found (get rest id)) (get-entries parcel.objects id)
    ∙ sym (get-put_each (entries parcel.objects) rest id))
