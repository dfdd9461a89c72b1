-- Entries of a journal that are of no leased process.
use Rattle.std.proofs.Common.{◌≡◌, ℕ, List, [], ◌∷◌, ◌++◌, subst, inl, inr, refl}
use Rattle.ink_leasing.specs.Leases.{Lease, Spares, Without, Has, Named}

pub spares_nil : (l : Lease) → Spares l []
spares_nil [] = tt
spares_nil (l ∷ ls) = (tt, spares_nil ls)

without_append : (q : ℕ) (xs es : List ℕ) → Without q xs → Without q es → Without q (xs ++ es)
without_append q [] es w v = v
without_append q (x ∷ xs) es w v = (w.0, without_append q xs es w.1 v)

pub spares_more : (ls : Lease) (xs es : List ℕ) → Spares ls xs → ((p : ℕ) → Has p ls → Without p es) → Spares ls (xs ++ es)
spares_more [] xs es s n = tt
spares_more (l ∷ ls) xs es s n = (without_append l.0 xs es s.0 (n l.0 (inl refl)), spares_more ls xs es s.1 (λ p h. n p (inr h)))

pub named_without : (p : ℕ) (ls : Lease) (es : List ℕ) → Named ls es → (Has p ls → ⊥) → Without p es
named_without p ls [] n h = tt
named_without p ls (e ∷ es) n h = ((λ (same : e ≡ p). h (subst (λ (q : ℕ). Has q ls) same n.0)), named_without p ls es n.1 h)
