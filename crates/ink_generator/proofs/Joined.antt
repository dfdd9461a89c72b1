-- Pieces that are written one behind the other.
use Rattle.std.proofs.Common.{◌≡◌, ◌∙◌, ℕ, List, ◌++◌, ap, append_assoc}

pub three : (old one two last after other new : List ℕ) → after ≡ old ++ one → other ≡ after ++ two → new ≡ other ++ last
    → new ≡ old ++ (one ++ two ++ last)
three old one two last after other new first second third =
    third ∙ ap (λ (o : List ℕ). o ++ last) (second ∙ ap (λ (o : List ℕ). o ++ two) first ∙ append_assoc old one two) ∙ append_assoc old (one ++ two) last

pub four : (old one two more last after other further new : List ℕ) → after ≡ old ++ one → other ≡ after ++ two → further ≡ other ++ more
    → new ≡ further ++ last → new ≡ old ++ (one ++ two ++ more ++ last)
four old one two more last after other further new first second third fourth =
    fourth ∙ ap (λ (o : List ℕ). o ++ last) (three old one two more after other further first second third) ∙ append_assoc old (one ++ two ++ more) last
