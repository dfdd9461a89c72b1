-- A part ends where no character and no escape stands, and else goes on behind it.
use Rattle.std.proofs.Common.{◌≡◌, ℕ, ◌+◌, ◌<◌, List, [], ◌∷◌, drop, refl, arith, sym, ap, ◌∙◌, subst}
use Rattle.std.proofs.lemmas.Grind.{common_steps}
use Rattle.std.proofs.lemmas.List.{drop-drop}
use Rattle.ink_tokens.specs.Part.{part_length, unit_length}

-- where no unit stands, no part does
part_length-ends : (quote : ℕ) (bytes : List ℕ) → unit_length quote bytes ≡ 0 → part_length quote bytes ≡ 0
unfolding part_length unit_length
part_length-ends quote [] none = refl
part_length-ends quote (last ∷ []) none = grind (arith, common_steps)
part_length-ends quote (byte ∷ next ∷ rest) none = grind (arith, common_steps)

-- a part goes on behind its first unit
part_length-goes : (quote : ℕ) (bytes : List ℕ) → 0 < unit_length quote bytes →
    part_length quote bytes ≡ unit_length quote bytes + part_length quote (drop (unit_length quote bytes) bytes)
unfolding part_length unit_length
part_length-goes quote [] some = refl
part_length-goes quote (last ∷ []) some = grind (arith, common_steps)
part_length-goes quote (byte ∷ next ∷ rest) some = grind (arith, common_steps)

-- from a place on, a part goes on behind its next unit
pub part_goes_on : (quote end unit : ℕ) (bytes : List ℕ) → 0 < unit → unit ≡ unit_length quote (drop end bytes) →
    part_length quote (drop end bytes) ≡ unit + part_length quote (drop (end + unit) bytes)
part_goes_on quote end unit bytes positive is_unit =
    part_length-goes quote (drop end bytes) (subst (λ n. 0 < n) is_unit positive)
    ∙ ap (λ n. n + part_length quote (drop n (drop end bytes))) (sym is_unit)
    ∙ ap (λ rest. unit + part_length quote rest) (drop-drop unit end bytes)

-- from a place on, no part stands where no unit does
pub part_ends : (quote end unit : ℕ) (bytes : List ℕ) → unit ≡ 0 → unit ≡ unit_length quote (drop end bytes) →
    part_length quote (drop end bytes) ≡ 0
part_ends quote end unit bytes none is_unit = part_length-ends quote (drop end bytes) (sym is_unit ∙ none)
