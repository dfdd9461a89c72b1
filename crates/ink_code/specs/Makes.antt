-- The instructions that make objects, read and write their fields, and take them apart.
use Rattle.std.specs.Prelude.{ℕ, ◌+◌, pos, nat_lt, List, length, slice_get}
use Rattle.std.specs.FinMap.{insert, remove, len}
use Rattle.ink_base.specs.declared.ident.ObjectId.{ObjectId}
use Rattle.ink_base.specs.declared.limits.Limit.TheVariants as limit
use Rattle.ink_base.specs.declared.value.Value.{Value}
use Rattle.ink_base.specs.declared.value.Value.TheVariants as v
use Rattle.ink_base.specs.Panics.{cycle_text, drop_text}
use Rattle.ink_code.specs.declared.code.Code.{Code}
use Rattle.ink_code.specs.declared.frame.Frame.{Frame}
use Rattle.ink_base.specs.declared.object.Object.{Object}
use Rattle.ink_code.specs.declared.wrong.Wrong.TheVariants as wrong
use Rattle.ink_code.specs.Full.{full_text}
use Rattle.ink_code.specs.Kinds.{array_kind}
use Rattle.ink_code.specs.Machine.{Outcome, given, when, unless_text, after, went, panics, passed, has, reads, put, with_objects}
use Rattle.ink_code.specs.Moves.{copies}
use Rattle.ink_base.specs.Objects.{changed_object, with_field}
use Rattle.ink_code.specs.Objects.{object_at, field_at, lent, object_of, owned_by}
use Rattle.ink_code.specs.Process.{Process, next_id, with_register, taken_out, put_out}
use Rattle.ink_code.specs.Trees.{is_under}

-- the limits of a process that makes an object: first those that live, then those that it ever made
abbrev pub unless_full : List ℕ → Process → Outcome → Outcome
unless_full limits p further = unless_text (full_text limits (len p.objects) p.made) p further

-- a process with one more object, which no borrow is counted of
abbrev pub with_made : ℕ → ℕ → List Value → Process → Process
with_made kind tag fields p =
    record p {
      made = p.made + 1;
      objects = insert p.objects (next_id p) (record { kind = kind; tag = tag; fields = fields; count = 0 });
    }

-- a register gets the owner of a new object, to which the values went
abbrev pub makes : ℕ → ℕ → ℕ → ℕ → Process → List Value × List Frame → Outcome
makes next to kind tag p parts =
    went next (put to (v.Own (next_id p)) (with_made kind tag parts.0 (record p { frames = parts.1 })))

-- a new object of a type, with a tag and fields
unfoldable pub make_step : List ℕ → ℕ → ℕ → ℕ → ℕ → List ℕ → Process → Outcome
make_step limits next to kind tag fields p =
    has to p (unless_full limits p (after (taken_out fields p.frames) (λ parts. makes next to kind tag p parts)))

-- a new array of items
unfoldable pub make_array_step : List ℕ → ℕ → ℕ → List ℕ → Process → Outcome
make_array_step limits next to items p =
    has to p (unless_full limits p (unless_text (passed limit.Array (length items) limits) p
    (after (taken_out items p.frames) (λ parts. makes next to array_kind 0 p parts))))

-- what is done with the object that a register owns or borrows
abbrev pub names : ℕ → Process → (ObjectId → Outcome) → Outcome
names object p further = reads object p (λ value. after (object_of value) further)

-- a register gets a copy of what a field holds
unfoldable pub load_step : ℕ → ℕ → ℕ → ℕ → Process → Outcome
load_step next to object field p =
    has to p (names object p (λ id. after (field_at p.objects id field) (λ value. copies next to value p)))

-- a register gets a borrow of what a field holds
unfoldable pub load_borrow_step : ℕ → ℕ → ℕ → ℕ → Process → Outcome
load_borrow_step next to object field p =
    has to p (names object p (λ id. after (field_at p.objects id field) (λ value. copies next to (lent value) p)))

-- a field gets a value, and a register gets the old one: a panic where the object is in the tree of the value
unfoldable pub store_step : ℕ → ℕ → ℕ → ℕ → ℕ → Process → Outcome
store_step next to object field from p =
    has to p (names object p (λ id. reads from p (λ value. after (field_at p.objects id field) (λ old.
    when (is_under id value p.objects) (panics cycle_text p)
    (went next (put to old (put from v.Empty (with_objects (changed_object p.objects id (with_field field value)) p))))))))

-- a register gets the tag of an object
unfoldable pub tag_step : ℕ → ℕ → ℕ → Process → Outcome
tag_step next to object p =
    has to p (names object p (λ id. after (object_at p.objects id) (λ found. went next (put to (v.Int (pos found.tag)) p))))

-- an object that is given up: a panic where a borrow of it is counted
abbrev pub gives_up : Code → Object → Process → Outcome → Outcome
gives_up code found p further =
    when (nat_lt 0 found.count) (given wrong.Absent (slice_get code.kinds found.kind) (λ name. panics (drop_text name found.count) p)) further

-- an object is given up, and its fields go to registers
unfoldable pub take_apart_step : Code → ℕ → List ℕ → ℕ → Process → Outcome
take_apart_step code next to object p =
    reads object p (λ value. after (owned_by value) (λ id. after (object_at p.objects id) (λ found.
    gives_up code found p (after (put_out to found.fields (with_register object v.Empty p.frames)) (λ frames.
    went next (record p { frames = frames; objects = remove p.objects id }))))))
