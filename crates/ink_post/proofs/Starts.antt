-- The objects of a process that starts with what a parcel brings.
use Rattle.std.proofs.Common.{◌≡◌, ◌≢◌, ℕ, Bool, true, false, cond, Option, None, Some, refl, ap, sym, ◌∙◌}
use Rattle.std.specs.Prelude.{IsSome}
use Rattle.std.specs.FinMap.{empty, get, insert, remove, get-empty, get-insert, get-remove, same_map}
use Rattle.ink_base.specs.declared.ident.ObjectId.{ObjectId}
use Rattle.ink_base.specs.declared.object.Object.{Object}
use Rattle.ink_base.specs.Ident.{id_cmp}
use Rattle.ink_base.specs.Objects.{Objects}
use Rattle.ink_base.proofs.IdentLemmas.{id_cmp_total, id_cmp_exact}
use Rattle.ink_heap.proofs.ObjectsLemmas.{is_same, is_same-one, is_same-itself}
use Rattle.ink_code.specs.Runs.{no_parcel}
use Rattle.ink_code.specs.Trees.{Parcel}
use Rattle.ink_parcel.specs.Parts.{AreApartFrom, IsSplit, Splits}
use Rattle.ink_post.specs.Starting.{IsFreshFor}
use Rattle.ink_proc.proofs.PuttingLemmas.{get-removed}

pub not_some : (o : Option Object) → o ≡ None → IsSome o → ⊥
not_some None e some = absurd (cc)
not_some (Some object) e some = absurd (cc)

-- an empty heap has nothing under a name
pub none_in_empty : (objects : Objects) (id : ObjectId) → objects ≡ empty → IsSome (get objects id) → ⊥
none_in_empty objects id e some = not_some (get objects id) (ap (λ (os : Objects). get os id) e ∙ get-empty id_cmp id) some

abbrev nothing : Objects
nothing = empty

-- what one object alone has under a name
one_has : (state id : ObjectId) (object : Object) → get (insert nothing state object) id ≡ cond (is_same id state) (Some object) None
one_has state id object = get-insert id_cmp_total nothing state object id ∙ ap (cond (is_same id state) (Some object)) (get-empty id_cmp id)

none_other : (b : Bool) (id state : ObjectId) (object : Object) → is_same id state ≡ b → id.process ≢ state.process → cond b (Some object) None ≡ None
none_other false id state object is differ = refl
none_other true id state object is differ = absurd (differ (ap (λ (i : ObjectId). i.process) (is_same-one id state is)))

-- fresh objects are apart from the state of the process to come
pub fresh_apart : (objects part : Objects) (state : ObjectId) (object : Object) → objects ≡ insert nothing state object → IsFreshFor state.process part → AreApartFrom objects part
fresh_apart objects part state object alone fresh id some =
    ap (λ (os : Objects). get os id) alone ∙ (one_has state id object ∙ none_other (is_same id state) id state object refl (fresh id some))

-- the state is there also when the objects of a parcel have come
whole_some : (whole rest part : Option Object) (object : Object) → IsSplit whole rest part → rest ≡ Some object → whole ≡ None → ⊥
whole_some whole rest None object split is none = cc
whole_some whole rest (Some other) object split is none = cc

pub state_stays : (whole rest part : Objects) (state : ObjectId) (object : Object) → rest ≡ insert nothing state object → Splits whole rest part → get whole state ≡ None → ⊥
state_stays whole rest part state object alone splits none =
    let there : get rest state ≡ Some object = ap (λ (os : Objects). get os state) alone ∙ (one_has state state object ∙ ap (λ (b : Bool). cond b (Some object) None) (is_same-itself state)) in
    whole_some (get whole state) (get rest state) (get part state) object (splits state) there none

pub removed_none : (objects old : Objects) (id : ObjectId) → objects ≡ remove old id → IsSome (get objects id) → ⊥
removed_none objects old id e some = not_some (get objects id) (ap (λ (os : Objects). get os id) e ∙ get-removed old id) some

as_part : (whole rest part : Option Object) → rest ≡ None → IsSplit whole rest part → whole ≡ part
as_part whole rest None none split = sym split ∙ none
as_part whole rest (Some object) none split = split.1

at_name : (b : Bool) (whole rest part : Option Object) (old new : Object) → rest ≡ cond b (Some old) None → IsSplit whole rest part → cond b (Some new) (cond b None whole) ≡ cond b (Some new) part
at_name true whole rest part old new is split = refl
at_name false whole rest part old new is split = as_part whole rest part is split

-- the objects of a parcel joined with the state of a process, whose place another one takes, are those of the parcel and that one
pub filled_whole : (whole rest part : Objects) (state : ObjectId) (old new : Object) → rest ≡ insert nothing state old → Splits whole rest part → insert (remove whole state) state new ≡ insert part state new
filled_whole whole rest part state old new alone splits =
    same_map id_cmp_total id_cmp_exact (insert (remove whole state) state new) (insert part state new) (λ id.
    get-insert id_cmp_total (remove whole state) state new id
    ∙ ap (cond (is_same id state) (Some new)) (get-remove id_cmp_total whole state id)
    ∙ at_name (is_same id state) (get whole id) (get rest id) (get part id) old new (ap (λ (os : Objects). get os id) alone ∙ one_has state id old) (splits id)
    ∙ sym (get-insert id_cmp_total part state new id))

-- a parcel with nothing in it has nothing of a process to come
pub none_fresh : (fields : Parcel) (number : ℕ) → fields ≡ no_parcel → IsFreshFor number fields.objects
none_fresh fields number is id some = absurd (not_some (get fields.objects id) (ap (λ (f : Parcel). get f.objects id) is ∙ get-empty id_cmp id) some)
