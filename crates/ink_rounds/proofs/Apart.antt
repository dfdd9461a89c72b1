-- The processes that are ready have a number each, and are there.
use Rattle.std.proofs.Common.{◌≢◌, ◌≤◌, ◌<◌, ◌+◌, ℕ, Option, None, Some, List, [], ◌∷◌, ◌++◌, length, arith}
use Rattle.ink_code.specs.Process.{Process}
use Rattle.ink_rounds.specs.Machine.{AreApart, AreOthers, Gone, gone_if, ready_from}
use Rattle.ink_worlds.specs.declared.status.Status.{Status}
use Rattle.ink_worlds.specs.declared.status.Status.TheVariants.{Ready, Out, Idle, Held, Stopped}

others_if : (number first last : ℕ) (s : Status) (h : Option Process) (gone : Gone) → number ≢ first → first ≤ last → AreOthers number last gone → AreOthers number last (gone_if first s h gone)
others_if number first last Ready (Some p) gone differ low others = (differ, low, others)
others_if number first last Ready None gone differ low others = others
others_if number first last (Out seat ran) h gone differ low others = others
others_if number first last Idle h gone differ low others = others
others_if number first last (Held future) h gone differ low others = others
others_if number first last Stopped h gone differ low others = others

apart_if : (first last : ℕ) (s : Status) (h : Option Process) (gone : Gone) → AreOthers first last gone → AreApart last gone → AreApart last (gone_if first s h gone)
apart_if first last Ready (Some p) gone others apart = (others, apart)
apart_if first last Ready None gone others apart = apart
apart_if first last (Out seat ran) h gone others apart = apart
apart_if first last Idle h gone others apart = apart
apart_if first last (Held future) h gone others apart = apart
apart_if first last Stopped h gone others apart = apart

others_ready : (number first last : ℕ) (ss : List Status) (hs : List (Option Process)) → number < first → first + length ss ≤ last + 1 → AreOthers number last (ready_from first ss hs)
others_ready number first last [] hs below fits = tt
others_ready number first last (s ∷ ss) [] below fits = tt
others_ready number first last (s ∷ ss) (h ∷ hs) below fits =
    others_if number first last s h (ready_from (first + 1) ss hs) (λ same. absurd (omega (arith, below, same))) (omega (arith, fits))
    (others_ready number (first + 1) last ss hs (omega (arith, below)) (omega (arith, fits)))

pub apart_ready : (first last : ℕ) (ss : List Status) (hs : List (Option Process)) → first + length ss ≤ last + 1 → AreApart last (ready_from first ss hs)
apart_ready first last [] hs fits = tt
apart_ready first last (s ∷ ss) [] fits = tt
apart_ready first last (s ∷ ss) (h ∷ hs) fits =
    apart_if first last s h (ready_from (first + 1) ss hs)
    (others_ready first (first + 1) last ss hs (omega arith) (omega (arith, fits)))
    (apart_ready (first + 1) last ss hs (omega (arith, fits)))

others_front : (number last : ℕ) (xs ys : Gone) → AreOthers number last (xs ++ ys) → AreOthers number last xs
others_front number last [] ys others = tt
others_front number last (x ∷ xs) ys others = (others.0, others.1, others_front number last xs ys others.2)

pub apart_front : (last : ℕ) (xs ys : Gone) → AreApart last (xs ++ ys) → AreApart last xs
apart_front last [] ys apart = tt
apart_front last (x ∷ xs) ys apart = (others_front x.0 last xs ys apart.0, apart_front last xs ys apart.1)
