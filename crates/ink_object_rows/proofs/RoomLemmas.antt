-- Objects of which one has another count.
use Rattle.std.proofs.Common.{◌≡◌, ◌<◌, Bool, true, false, cond, Option, None, Some, refl, sym, subst, arith}
use Rattle.std.specs.Prelude.{IfSome}
use Rattle.std.specs.Option.{option_map}
use Rattle.std.specs.FinMap.{get}
use Rattle.ink_base.specs.declared.ident.ObjectId.{ObjectId}
use Rattle.ink_base.specs.declared.object.Object.{Object}
use Rattle.ink_base.specs.declared.value.Value.{Value}
use Rattle.ink_base.specs.declared.value.Value.TheVariants as v
use Rattle.ink_base.specs.Objects.{Objects, changed_object, counted_down}
use Rattle.ink_heap.specs.Bounds.{most_borrows}
use Rattle.ink_heap.proofs.ObjectsLemmas.{get-changed_object, len-changed_object, is_same, is_same-one}
use Rattle.ink_proc.specs.Copying.{HasRoom}

-- the object has room for one borrow more, where it is there
abbrev pub Small : Option Object → Type 0
Small found = IfSome found (λ object. object.count < most_borrows)

fewer : (found : Option Object) → Small found → Small (option_map counted_down found)
fewer None small = small
fewer (Some object) small = omega arith

picked : (test : Bool) (one other : Option Object) → (test ≡ true → Small one) → Small other → Small (cond test one other)
picked true one other small others = small refl
picked false one other small others = others

small_counted : (objects : Objects) (id other : ObjectId) → Small (get objects other) → Small (get (changed_object objects id counted_down) other)
small_counted objects id other small =
    subst Small (sym (get-changed_object objects id counted_down other))
    (picked (is_same other id) (option_map counted_down (get objects id)) (get objects other) (λ same. fewer (get objects id) (subst (λ name. Small (get objects name)) (is_same-one other id same) small)) small)

-- room for a borrow stays where another borrow ended
pub room_counted : (value : Value) (objects : Objects) (id : ObjectId) → HasRoom value objects → HasRoom value (changed_object objects id counted_down)
unfolding HasRoom
room_counted (v.Bor other) objects id room = small_counted objects id other room
room_counted (v.Int number) objects id room = room
room_counted (v.Bool truth) objects id room = room
room_counted v.Nil objects id room = room
room_counted (v.Txt text) objects id room = room
room_counted (v.Own other) objects id room = room
room_counted (v.Proc process) objects id room = room
room_counted (v.Future future) objects id room = room
room_counted (v.Promise future) objects id room = room
room_counted v.Empty objects id room = room

pub ruleset room = (room_counted, len-changed_object)
