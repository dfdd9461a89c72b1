-- Where a file may end.
use Rattle.std.proofs.Common.{◌≡◌, ◌↔◌, ◌∙◌, ℕ, ◌+◌, List, [], ◌∷◌, ◌++◌, drop, ap, IsTrue, true, false}
use Rattle.ink_journal.specs.File.{front, counted}
use Rattle.ink_journal.specs.Reading.{Goes}
use Rattle.ink_journal.specs.declared.step.Awaited.TheVariants as awaited
use Rattle.ink_journal.proofs.Front.{stands, taken_apart}

starts : (byte : ℕ) (bytes rest : List ℕ) → [] ≡ (byte ∷ bytes) ++ rest → ⊥
starts byte bytes rest e = cc

pub front_end : (index most : ℕ) (entries : List ℕ) → Goes most (awaited.Front index) [] entries ↔ (IsTrue false × (entries ≡ []))
front_end index most entries = (
  λ g.
      let found = stands index g.0 in
      elim (starts found.0 (drop (index + 1) front) (counted entries) (g.2 ∙ ap (λ xs. xs ++ counted entries) (taken_apart index found.0 found.1))) [ ],
  λ no. let told : false ≡ true = no.0 in cc,
)
