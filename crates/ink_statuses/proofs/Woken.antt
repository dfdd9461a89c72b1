-- Statuses of which the first so many have heard that a future was set or broken.
use Rattle.std.proofs.Common.{◌≡◌, ℕ, zero, suc, ◌+◌, Option, None, Some, List, [], ◌∷◌, length, map, set, refl, ap, sym, ◌∙◌, arith}
use Rattle.std.specs.List.{slice_get}
use Rattle.ink_base.specs.Numbered.{numbered}
use Rattle.ink_law_turns.proofs.Numbering.{numbered-suc, set_numbered-suc}
use Rattle.ink_statuses.specs.Readings.{woken_for}
use Rattle.ink_worlds.specs.State.{woken_from_get}
use Rattle.ink_worlds.specs.declared.status.Status.{Status}

abbrev pub woken_up_to : ℕ → ℕ → List Status → List Status
woken_up_to future zero statuses = statuses
woken_up_to future (suc count) [] = []
woken_up_to future (suc count) (status ∷ statuses) = woken_from_get future status ∷ woken_up_to future count statuses

abbrev set_at : ℕ → Option Status → List Status → ℕ → List Status
set_at future None statuses index = statuses
set_at future (Some status) statuses index = set statuses index (woken_from_get future status)

one_more : (future count : ℕ) (statuses : List Status) → set_at future (slice_get (woken_up_to future count statuses) count) (woken_up_to future count statuses) count ≡ woken_up_to future (suc count) statuses
one_more future zero [] = refl
one_more future zero (status ∷ statuses) = refl
one_more future (suc count) [] = refl
one_more future (suc count) (status ∷ statuses) =
    push (slice_get (woken_up_to future count statuses) count) (woken_from_get future status) (woken_up_to future count statuses) count ∙ ap (λ (zs : List Status). woken_from_get future status ∷ zs) (one_more future count statuses)
  where
    push : (o : Option Status) (first : Status) (zs : List Status) (index : ℕ) → set_at future o (first ∷ zs) (suc index) ≡ first ∷ set_at future o zs index
    push None first zs index = refl
    push (Some found) first zs index = refl

by_place : (future : ℕ) (o : Option Status) (zs : List Status) (index : ℕ) → woken_for future o zs (suc index) ≡ set_at future o zs index
by_place future None zs index = refl
by_place future (Some found) zs index = set_numbered-suc zs index (woken_from_get future found)

-- one more process has heard
pub woken_more : (future count : ℕ) (statuses : List Status) → woken_for future (numbered (woken_up_to future count statuses) (count + 1)) (woken_up_to future count statuses) (count + 1) ≡ woken_up_to future (count + 1) statuses
woken_more future count statuses =
    let next : count + 1 ≡ suc count = omega arith in
    ap (λ (i : ℕ). woken_for future (numbered (woken_up_to future count statuses) i) (woken_up_to future count statuses) i) next
    ∙ (ap (λ (o : Option Status). woken_for future o (woken_up_to future count statuses) (suc count)) (numbered-suc (woken_up_to future count statuses) count)
    ∙ (by_place future (slice_get (woken_up_to future count statuses) count) (woken_up_to future count statuses) count
    ∙ (one_more future count statuses ∙ ap (λ (i : ℕ). woken_up_to future i statuses) (sym next))))

-- all have
pub woken_all : (future : ℕ) (statuses : List Status) → woken_up_to future (length statuses) statuses ≡ map (woken_from_get future) statuses
woken_all future [] = refl
woken_all future (status ∷ statuses) = ap (λ (zs : List Status). woken_from_get future status ∷ zs) (woken_all future statuses)
