-- What a get comes to, once all its tests are made.
use Rattle.std.proofs.Common.{◌≡◌, ℕ, ℤ, Option, None, Result, Ok, Err, List, [], refl, sym, ap, ◌∙◌}
use Rattle.std.specs.FinMap.{len}
use Rattle.std.specs.Option.{option_map_or}
use Rattle.ink_base.specs.declared.ident.ObjectId.{ObjectId}
use Rattle.ink_base.specs.declared.value.Value.{Value}
use Rattle.ink_base.specs.Objects.{Objects, changed_object, counted_down, fields_in}
use Rattle.ink_code.specs.ArrayRows.{get_row}
use Rattle.ink_code.specs.Full.{full_text}
use Rattle.ink_code.specs.Machine.{after, with_objects}
use Rattle.ink_code.specs.Kinds.{array_kind}
use Rattle.ink_code.specs.Process.{Process}
use Rattle.ink_code.specs.Rows.{RowOutcome, unless_fails, single, int_of}
use Rattle.ink_heap.proofs.ObjectsLemmas.{len-changed_object}
use Rattle.ink_object_rows.specs.Answers.{RowAnswers, raised}
use Rattle.ink_object_rows.specs.Items.{lent_item}
use Rattle.ink_object_rows.specs.Making.{gives_copy}
use Rattle.ink_object_rows.specs.Receiver.{Received, Receives, received}
use Rattle.ink_object_rows.proofs.RowLemmas.{get_row-received}
use Rattle.ink_rows.specs.declared.computed.Computed.{Computed}
use Rattle.ink_rows.specs.declared.computed.Computed.TheVariants as c
use Rattle.ink_rows.specs.declared.computed.RowFault.{RowFault}
use Rattle.ink_rows.specs.declared.computed.RowFault.TheVariants as fault

-- what is told of an outcome is told of an equal one, and without values of any
pub retold : (outcome told : RowOutcome) (result : Result Computed RowFault) (old new : Process) (values : List Value) → outcome ≡ told → RowAnswers told result old new [] [] → RowAnswers outcome result old new values values
retold outcome told (Ok (c.Gives value)) old new values same tells = same ∙ tells
retold outcome told (Ok (c.Raises text)) old new values same tells = (ap raised same ∙ tells.0, tells.1, refl)
retold outcome told (Err (fault.Wrong why)) old new values same tells = same ∙ tells
retold outcome told (Err fault.OutOfMemory) old new values same tells = (tells.0, refl)

abbrev then_index : List ℕ → Process → Received → ℤ → RowOutcome
then_index limits p one index = unless_fails (full_text limits (len one.left) p.made) (with_objects one.left p) (gives_copy (lent_item index one.found.fields) (with_objects one.left p))

pub get_row-copy : (limits : List ℕ) (values operands : List Value) (p : Process) (id : ObjectId) (value : Value) (index : ℤ) (item : Option Value) → Receives (received array_kind values p.objects) id operands values p.objects → single operands ≡ Ok value → int_of value ≡ Ok index → full_text limits (len p.objects) p.made ≡ None → item ≡ lent_item index (fields_in p.objects id) → get_row limits values p ≡ gives_copy item (with_objects (changed_object p.objects id counted_down) p)
unfolding after unless_fails
get_row-copy limits values operands p id value index item all one_is index_is free item_is =
    let left : Objects = changed_object p.objects id counted_down in
    let one : Received = record { id = id; found = all.found; operands = operands; left = left } in
    let fields : fields_in p.objects id ≡ all.found.fields = ap (λ had. option_map_or (λ object. object.fields) had []) all.there in
    let room : full_text limits (len left) p.made ≡ None = ap (λ live. full_text limits live p.made) (len-changed_object p.objects id counted_down) ∙ free in
    get_row-received limits values p
    ∙ ap (λ answer. after answer (λ one. after (single one.operands) (λ value. after (int_of value) (then_index limits p one)))) all.stands
    ∙ ap (λ answer. after answer (λ value. after (int_of value) (then_index limits p one))) one_is
    ∙ ap (λ answer. after answer (then_index limits p one)) index_is
    ∙ ap (λ text. unless_fails text (with_objects left p) (gives_copy (lent_item index all.found.fields) (with_objects left p))) room
    ∙ ap (λ copy. gives_copy copy (with_objects left p)) (sym (item_is ∙ ap (lent_item index) fields))
