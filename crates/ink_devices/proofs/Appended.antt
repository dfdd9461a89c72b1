-- What goes into a sink in two pieces goes in as one.
use Rattle.std.proofs.Common.{◌≡◌, ℕ, ◌+◌, ◌-◌, List, ◌++◌, length, take, drop, Option, None, Some, refl, ap, append_assoc, sym, ◌∙◌, length-drop}
use Rattle.std.proofs.Math.Seq.{take-add, take-length}
use Rattle.ink_devices.specs.Outside.{appended}

pub appended-appended : (sink : Option (List ℕ)) (front back : List ℕ) → appended (appended sink front) back ≡ appended sink (front ++ back)
appended-appended None front back = refl
appended-appended (Some bytes) front back = ap Some (append_assoc bytes front back)

-- the front of a list, and then the front of its rest
pub take-take_drop : (i n : ℕ) (xs : List ℕ) → take i xs ++ take n (take (length xs - i) (drop i xs)) ≡ take (i + n) xs
take-take_drop i n xs =
    let rest : take (length xs - i) (drop i xs) ≡ drop i xs =
    ap (λ n. take n (drop i xs)) (sym (length-drop i xs)) ∙ take-length (drop i xs) in
    rw rest (sym (take-add i n xs))
