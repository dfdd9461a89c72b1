-- Methods that are made one behind the other.
use Rattle.std.proofs.Common.{◌≡◌, ◌+◌, ◌<◌, ℕ, suc, List, [], ◌∷◌, ◌++◌, length, get_or, drop, ap, sym, subst, refl, ◌∙◌, append_assoc}
use Rattle.std.proofs.Math.Seq.{drop-cons}
use Rattle.std.proofs.lemmas.List.{append-nil}
use Rattle.ink_code.specs.declared.method.Method.{Method}
use Rattle.ink_checked.specs.declared.checked.Checked.{Checked}
use Rattle.ink_names.specs.declared.methods.MethodEntry.{MethodEntry}
use Rattle.ink_plan.specs.Plans.{IsCertainBetween}
use Rattle.ink_ranges.specs.Ranges.{HasNoTests}
use Rattle.ink_assemble.specs.Certain.{AskOnlyWhereUncertain}

-- what the methods so far lead to, whatever follows
abbrev pub Leads : List (List ℕ) → Checked → List MethodEntry → ℕ → List MethodEntry → List Method → Type 0
Leads exits checked all first rest_of_all ms = (rest : List Method)
    → AskOnlyWhereUncertain exits checked first rest_of_all rest → AskOnlyWhereUncertain exits checked 0 all (ms ++ rest)

-- the next method
pub next_method : (exits : List (List ℕ)) (checked : Checked) (all es : List MethodEntry) (e : MethodEntry) (ms : List Method) (m : Method) (first end : ℕ)
    → end ≡ e.node + 1
    → Leads exits checked all first (e ∷ es) ms
    → (IsCertainBetween exits checked first end → HasNoTests m)
    → Leads exits checked all end es (ms ++ m ∷ [])
next_method exits checked all es e ms m first end next before certain rest behind =
    subst (λ xs. AskOnlyWhereUncertain exits checked 0 all xs) (sym (append_assoc ms (m ∷ []) rest))
    (before (m ∷ rest) (
      subst (λ x. IsCertainBetween exits checked first x → HasNoTests m) next certain,
      subst (λ x. AskOnlyWhereUncertain exits checked x es rest) next behind,
    ))

-- the same, where the methods that are left stand behind a place
pub one_more : (exits : List (List ℕ)) (checked : Checked) (all : List MethodEntry) (i j : ℕ) (e : MethodEntry) (ms new : List Method) (m : Method) (first end : ℕ)
    → i < length all → e ≡ get_or all i e → j ≡ suc i → end ≡ e.node + 1 → new ≡ ms ++ m ∷ []
    → Leads exits checked all first (drop i all) ms
    → (IsCertainBetween exits checked first end → HasNoTests m)
    → Leads exits checked all end (drop j all) new
one_more exits checked all i j e ms new m first end low here after next made before certain =
    subst (λ k. Leads exits checked all end (drop k all) new) (sym after)
    (subst (λ xs. Leads exits checked all end (drop (suc i) all) xs) (sym made)
    (next_method exits checked all (drop (suc i) all) e ms m first end next
    (subst (λ es. Leads exits checked all first es ms) (drop-cons all i e low ∙ ap (λ x. x ∷ drop (suc i) all) (sym here)) before)
    certain))

-- and none is left
pub whole : (exits : List (List ℕ)) (checked : Checked) (all left : List MethodEntry) (first : ℕ) (ms : List Method)
    → left ≡ [] → Leads exits checked all first left ms → AskOnlyWhereUncertain exits checked 0 all ms
whole exits checked all left first ms none before =
    subst (λ xs. AskOnlyWhereUncertain exits checked 0 all xs) (append-nil ms)
    (before [] (subst (λ es. AskOnlyWhereUncertain exits checked first es []) (sym none) refl))
