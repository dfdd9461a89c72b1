-- What a step comes to, and that a source comes to one outcome alone.
use Rattle.std.proofs.Common.{◌≡◌, ℕ, ◌<◌, ◌≤◌, false, cond, nat_lt, ◌⊎◌, List, length, drop, refl, arith, sym, ap, ◌∙◌, subst, inl, inr, ⊎_elim}
use Rattle.std.proofs.lemmas.Bool.{lt-ltb}
use Rattle.std.proofs.lemmas.Bool.Decides.{nat_tests}
use Rattle.ink_tokens.specs.declared.reading.Found.{Found}
use Rattle.ink_tokens.specs.Fault.{end_fault}
use Rattle.ink_tokens.specs.Found.{found_at}
use Rattle.ink_tokens.specs.Scan.{Scan, start}
use Rattle.ink_tokens.specs.Lexes.{Outcome, Step, Goes, Ends, end_outcome, step_by, step_at, Lexes, begins, goes, ComesTo}

-- within the source, what comes is what comes of what stands there
pub step_at-inside : (source : List ℕ) (scan : Scan) (found : Found) → scan.at < length source →
    found ≡ found_at scan.nest.level scan.before (drop scan.at source) → step_at source scan ≡ step_by source scan found
unfolding step_at
step_at-inside source scan found inside stands =
    ap (λ b. cond b (step_by source scan (found_at scan.nest.level scan.before (drop scan.at source)))
    (Ends (end_outcome (end_fault scan.nest.level scan.wide scan.nest.opened) scan.tokens)))
    (lt-ltb scan.at (length source) inside)
    ∙ ap (step_by source scan) (sym stands)

-- a number is not below one that is no greater
not_below : (a b : ℕ) → b ≤ a → nat_lt a b ≡ false
not_below a b above = grind (arith, nat_tests)

-- at the end, what comes is what is told there
pub step_at-end : (source : List ℕ) (scan : Scan) → length source ≤ scan.at →
    step_at source scan ≡ Ends (end_outcome (end_fault scan.nest.level scan.wide scan.nest.opened) scan.tokens)
unfolding step_at
step_at-end source scan past =
    ap (λ b. cond b (step_by source scan (found_at scan.nest.level scan.before (drop scan.at source)))
    (Ends (end_outcome (end_fault scan.nest.level scan.wide scan.nest.opened) scan.tokens)))
    (not_below scan.at (length source) past)

-- from one place to another by steps
data Reaches (source : List ℕ) : Scan → Scan → Type 0 where
  here : {scan : Scan} → Reaches source scan scan
  then : {scan next last : Scan} → step_at source scan ≡ Goes next → Reaches source next last → Reaches source scan last

-- one step more
reaches_more : {source : List ℕ} {scan last next : Scan} → Reaches source scan last → step_at source last ≡ Goes next →
    Reaches source scan next
reaches_more here step = then step here
reaches_more (then first rest) step = then first (reaches_more rest step)

-- all that is read is reached from the start
reached : {source : List ℕ} {scan : Scan} → Lexes source scan → Reaches source start scan
reached begins = here
reached (goes before step) = reaches_more (reached before) step

-- a step goes to one place alone
same_scan : (step : Step) (one other : Scan) → step ≡ Goes one → step ≡ Goes other → one ≡ other
same_scan step one other is_one is_other = cc

-- where one place reaches another, it is the other, or its next place reaches it
onwards : {source : List ℕ} {scan next last : Scan} → Reaches source scan last → step_at source scan ≡ Goes next →
    Reaches source last next ⊎ Reaches source next last
onwards here step = inl (then step here)
onwards {source} {scan} {next} {last} (then {next = middle} first rest) step =
    inr (subst (λ m. Reaches source m last) (same_scan (step_at source scan) middle next first step) rest)

-- of two places that are read up to, one is reached from the other
meet : {source : List ℕ} {one other : Scan} → Lexes source one → Lexes source other →
    Reaches source one other ⊎ Reaches source other one
meet to_one begins = inr (reached to_one)
meet to_one (goes before step) =
    ⊎_elim (λ ahead. inl (reaches_more ahead step)) (λ behind. onwards behind step) (meet to_one before)

-- a step doesn't go on where it ends
no_end : (step : Step) (next : Scan) (outcome : Outcome) → step ≡ Goes next → step ≡ Ends outcome → ⊥
no_end step next outcome is_next is_end = cc

-- where nothing more is read, no other place is reached
stays : {source : List ℕ} {scan last : Scan} {outcome : Outcome} → step_at source scan ≡ Ends outcome →
    Reaches source scan last → scan ≡ last
stays ends here = refl
stays {source} {scan} {last} {outcome} ends (then {next = middle} first rest) =
    absurd (no_end (step_at source scan) middle outcome first ends)

-- a step ends with one outcome alone
same_outcome : (step : Step) (one other : Outcome) → step ≡ Ends one → step ≡ Ends other → one ≡ other
same_outcome step one other is_one is_other = cc

-- a source comes to one outcome alone
pub one_outcome : (source : List ℕ) (one other : Outcome) → ComesTo source one → ComesTo source other → one ≡ other
one_outcome source one other to_one to_other =
    let same : to_one.scan ≡ to_other.scan =
    ⊎_elim (λ ahead. stays to_one.ends ahead) (λ behind. sym (stays to_other.ends behind)) (meet to_one.lexes to_other.lexes) in
    same_outcome (step_at source to_other.scan) one other (subst (λ s. step_at source s ≡ Ends one) same to_one.ends) to_other.ends
