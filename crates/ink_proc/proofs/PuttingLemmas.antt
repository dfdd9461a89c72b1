-- An object that is put in the place of another.
use Rattle.std.proofs.Common.{◌≡◌, Bool, true, false, cond, None, Some, refl, sym, ap, ◌∙◌}
use Rattle.std.specs.Cmp.{eq_by_cmp_equiv}
use Rattle.std.specs.FinMap.{get, insert, remove, get-insert, get-remove, same_map}
use Rattle.std.specs.Ordering.{eq_by_cmp}
use Rattle.ink_base.specs.declared.ident.ObjectId.{ObjectId}
use Rattle.ink_base.specs.declared.object.Object.{Object}
use Rattle.ink_base.specs.Ident.{id_cmp}
use Rattle.ink_base.specs.Objects.{Objects}
use Rattle.ink_base.proofs.IdentLemmas.{id_cmp_total, id_cmp_exact}

-- no object has a name after that of this name was taken out
pub get-removed : (objects : Objects) (id : ObjectId) → get (remove objects id) id ≡ None
get-removed objects id =
    get-remove id_cmp_total objects id id
    ∙ ap (λ test. cond test None (get objects id)) ((eq_by_cmp_equiv id_cmp_total).refl id)

over : {X : Type 0} (test : Bool) (new was old : X) → cond test new (cond test was old) ≡ cond test new old
over true new was old = refl
over false new was old = refl

-- what had the name before doesn't matter to what has it after
pub insert-removed : (objects : Objects) (id : ObjectId) (object : Object) → insert (remove objects id) id object ≡ insert objects id object
insert-removed objects id object =
    same_map id_cmp_total id_cmp_exact _ _ (λ other.
    get-insert id_cmp_total (remove objects id) id object other
    ∙ ap (cond (eq_by_cmp id_cmp other id) (Some object)) (get-remove id_cmp_total objects id other)
    ∙ over (eq_by_cmp id_cmp other id) (Some object) None (get objects other)
    ∙ sym (get-insert id_cmp_total objects id object other))

pub ruleset putting = (get-removed, insert-removed)
