-- A row of two values, done on the registers.
use Rattle.std.proofs.Common.{◌≡◌, ◌≢◌, ℕ, ◌<◌, Some, Ok, List, [], ◌∷◌, length, set, ap, ◌∙◌, arith}
use Rattle.std.specs.List.{slice_get}
use Rattle.std.proofs.lemmas.List.{length-set, get_or-set_other}
use Rattle.std.proofs.lemmas.Option.{get_or_from_slice_get, slice_get_within, slice_get-get_or}
use Rattle.ink_base.specs.declared.value.Value.{Value}
use Rattle.ink_base.specs.declared.value.Value.TheVariants as v
use Rattle.ink_code.specs.declared.code.Code.{Code}
use Rattle.ink_code.specs.declared.wrong.Wrong.TheVariants as wrong
use Rattle.ink_code.specs.Machine.{after, given, settles}
use Rattle.ink_code.specs.Prims.{prim_step, row_step, tells}
use Rattle.ink_code.specs.Process.{Process, at_place, held, in_frame, moved, register, taken_out, with_first, with_register}
use Rattle.ink_quick.specs.Makes.{Makes, RowDone, with_frames}

-- what another register holds stays
pub other_kept : (xs : List Value) (one other : ℕ) (new had : Value) → other ≢ one → slice_get xs other ≡ Some had → slice_get (set xs one new) other ≡ Some had
other_kept xs one other new had differ is =
    let low : other < length xs = slice_get_within xs other had is in
    slice_get-get_or (set xs one new) other new (omega (arith, length-set xs one new, low))
    ∙ ap Some (get_or-set_other xs one other new new differ ∙ get_or_from_slice_get xs other had new is)

-- two values that are there are moved out
two_moved : (xs : List Value) (one other : ℕ) (a b : Value) → other ≢ one → slice_get xs one ≡ Some a → held (Some a) ≡ Ok a → slice_get xs other ≡ Some b → held (Some b) ≡ Ok b → moved (one ∷ other ∷ []) xs ≡ Ok (a ∷ b ∷ [], set (set xs one v.Empty) other v.Empty)
two_moved xs one other a b differ first there second too =
    ap (λ had. with_first had (moved (other ∷ []) (set xs one v.Empty))) (ap held first ∙ there)
    ∙ ap (λ had. with_first (Ok a) (with_first had (Ok ([], set (set xs one v.Empty) other v.Empty)))) (ap held (other_kept xs one other v.Empty b differ second) ∙ too)

-- the row is done: the two registers are empty, and the third holds what it gives
pub row_made : (xs : List Value) (row to one other : ℕ) (a b value : Value) → other ≢ one → to < length xs → slice_get xs one ≡ Some a → slice_get xs other ≡ Some b → RowDone row a b value
    → (code : Code) (limits : List ℕ) (next : ℕ) → Makes (prim_step code limits next row to (one ∷ other ∷ [])) xs next (set (set (set xs one v.Empty) other v.Empty) to value)
unfolding prim_step register taken_out given after settles with_register at_place
row_made xs row to one other a b value differ target first second done code limits next p frame outer ran =
    let begun : Process = with_frames p ran (record frame { registers = xs } ∷ outer) in
    let left : Process = record begun { frames = record frame { registers = set (set xs one v.Empty) other v.Empty } ∷ outer } in
    ap (λ there. given wrong.Absent there (λ _. after (taken_out (one ∷ other ∷ []) begun.frames) (λ parts. after (row_step code limits row parts.0 (record begun { frames = parts.1 })) (λ told. tells next to begun told)))) (slice_get-get_or xs to v.Empty target)
    ∙ ap (λ parts. after (in_frame (record frame { registers = xs }) outer parts) (λ parts. after (row_step code limits row parts.0 (record begun { frames = parts.1 })) (λ told. tells next to begun told))) (two_moved xs one other a b differ first done.first second done.second)
    ∙ ap (λ came. after came (λ told. tells next to begun told)) (done.gives code limits left)
