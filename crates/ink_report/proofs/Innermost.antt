-- The lines of the innermost frames, one behind the other.
use Rattle.std.proofs.Common.{◌≡◌, ◌∙◌, ℕ, ◌+◌, ◌-◌, ◌<◌, List, [], ◌∷◌, ◌++◌, length, get_or, take, reverse, ap, sym, append_assoc, arith}
use Rattle.std.proofs.lemmas.List.{append-nil, take_more, get_or-reverse, length-reverse}
use Rattle.std.proofs.lemmas.List.Concat.{flat_map-append}
use Rattle.std.specs.List.{flat_map}

-- the next line, of the item so far from the end, is written behind those before it
pub next_from_end : {X : Type 0} (line : X → List ℕ) (before out after : List ℕ) (xs : List X) (i : ℕ) (x : X) → i < length xs
    → x ≡ get_or xs (length xs - 1 - i) x → out ≡ before ++ flat_map line (take i (reverse xs)) → after ≡ out ++ line x
    → after ≡ before ++ flat_map line (take (i + 1) (reverse xs))
next_from_end line before out after xs i x within stands so_far written =
    let same : get_or (reverse xs) i x ≡ x = get_or-reverse xs i x within ∙ sym stands in
    let longer : take (i + 1) (reverse xs) ≡ take i (reverse xs) ++ x ∷ [] =
    take_more (reverse xs) i x (omega (arith, length-reverse xs)) ∙ ap (λ y. take i (reverse xs) ++ y ∷ []) same in
    let text : flat_map line (take (i + 1) (reverse xs)) ≡ flat_map line (take i (reverse xs)) ++ line x =
    ap (flat_map line) longer ∙ flat_map-append line (take i (reverse xs)) (x ∷ []) ∙ ap (λ rest. flat_map line (take i (reverse xs)) ++ rest) (append-nil (line x)) in
    written ∙ ap (λ front. front ++ line x) so_far ∙ append_assoc before _ _ ∙ ap (λ rest. before ++ rest) (sym text)
