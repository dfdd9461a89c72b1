-- The front of a file, byte by byte.
use Rattle.std.proofs.Common.{zero, suc, ◌≡◌, ◌∙◌, ℕ, ◌+◌, ◌<◌, [], ◌∷◌, ◌++◌, drop, slice_get, refl, sym, ap, subst, arith, None, Some}
use Rattle.ink_journal.specs.File.{front, counted}
use Rattle.ink_journal.specs.Reading.{Goes, IsOpen, Leads, LeadsNowhere}
use Rattle.ink_journal.specs.declared.step.Awaited.TheVariants as awaited
use Rattle.ink_journal.specs.declared.step.Digit.TheVariants as digit
use Rattle.ink_journal.proofs.Words.{head_of, tail_of}

pub inside : (index byte : ℕ) → slice_get front index ≡ Some byte → index < 5
inside zero byte at = omega arith
inside (suc zero) byte at = omega arith
inside (suc (suc zero)) byte at = omega arith
inside (suc (suc (suc zero))) byte at = omega arith
inside (suc (suc (suc (suc zero)))) byte at = omega arith
inside (suc (suc (suc (suc (suc index))))) byte at = cc

-- what stands at an index of the front
pub taken_apart : (index byte : ℕ) → slice_get front index ≡ Some byte → drop index front ≡ byte ∷ drop (index + 1) front
taken_apart zero byte at = cc
taken_apart (suc zero) byte at = cc
taken_apart (suc (suc zero)) byte at = cc
taken_apart (suc (suc (suc zero))) byte at = cc
taken_apart (suc (suc (suc (suc zero)))) byte at = cc
taken_apart (suc (suc (suc (suc (suc index))))) byte at = cc

pub front_leads : (index byte : ℕ) → slice_get front index ≡ Some byte → index + 1 < 5 → (most : ℕ)
    → Leads most (awaited.Front index) byte (awaited.Front (index + 1)) None
front_leads index byte at small most = λ bytes entries.
    let apart = taken_apart index byte at in (
      λ g. (entries, refl, (small, g.1, tail_of (g.2 ∙ ap (λ xs. xs ++ counted entries) apart))),
      λ b. subst (λ es. Goes most (awaited.Front index) (byte ∷ bytes) es) (sym b.1)
          (inside index byte at, b.2.1, ap (λ xs. byte ∷ xs) b.2.2 ∙ sym (ap (λ xs. xs ++ counted b.0) apart)),
    )

pub front_open : (index : ℕ) → index < 5 → (most : ℕ) → IsOpen most (awaited.Front index)
front_open index small most = (drop index front ++ counted [], [], (small, (omega arith, tt), refl))

last_leads : (byte most : ℕ) → slice_get front 4 ≡ Some byte → Leads most (awaited.Front 4) byte (awaited.Count digit.First 0) None
last_leads byte most at = let one : byte ≡ 1 = cc in λ bytes entries. (
  λ g. (entries, refl, (g.1, refl, tail_of g.2)),
  λ b. subst (λ es. Goes most (awaited.Front 4) (byte ∷ bytes) es) (sym b.1) (omega arith, b.2.0, cc),
)

pub front_ends : (index byte : ℕ) → slice_get front index ≡ Some byte → (index + 1 < 5 → ⊥) → (most : ℕ)
    → Leads most (awaited.Front index) byte (awaited.Count digit.First 0) None
front_ends index byte at last most =
    let here = inside index byte at in
    let is : 4 ≡ index = omega (arith, here, last) in
    subst (λ i. slice_get front i ≡ Some byte → Leads most (awaited.Front i) byte (awaited.Count digit.First 0) None) is (last_leads byte most) at

pub count_open : (most : ℕ) → IsOpen most (awaited.Count digit.First 0)
count_open most = (counted [], [], ((omega arith, tt), refl, refl))

too_far : (index : ℕ) → suc (suc (suc (suc (suc index)))) < 5 → ⊥
too_far index small = omega (arith, small)

-- some byte stands at each index
pub stands : (index : ℕ) → index < 5 → (byte : ℕ) × (slice_get front index ≡ Some byte)
stands zero small = (73, refl)
stands (suc zero) small = (78, refl)
stands (suc (suc zero)) small = (75, refl)
stands (suc (suc (suc zero))) small = (74, refl)
stands (suc (suc (suc (suc zero)))) small = (1, refl)
stands (suc (suc (suc (suc (suc index))))) small = elim (too_far index small) [ ]

pub front_nowhere : (index byte : ℕ) → (slice_get front index ≡ Some byte → ⊥) → (most : ℕ) → LeadsNowhere most (awaited.Front index) byte
front_nowhere index byte other most = λ bytes entries g.
    let found = stands index g.0 in
    let same : byte ≡ found.0 = head_of (g.2 ∙ ap (λ xs. xs ++ counted entries) (taken_apart index found.0 found.1)) in
    other (found.1 ∙ ap Some (sym same))
