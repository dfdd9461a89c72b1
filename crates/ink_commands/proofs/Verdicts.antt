-- A source has one verdict.
use Rattle.std.proofs.Common.{◌≡◌, ◌≢◌, ℕ, List, [], ◌∷◌, length, arith, ◌==◌, true, false, Result, Ok, Err, IfErr, inl, inr, refl, sym, ap, subst}
use Rattle.std.proofs.lemmas.Bool.Decides.{nat_tests}
use Rattle.ink_base.specs.declared.token.Token.{Token}
use Rattle.ink_base.specs.declared.refusal.Refusal.{Refusal}
use Rattle.ink_base.specs.declared.refusal.JudgeFault.{JudgeFault}
use Rattle.ink_base.specs.declared.refusal.JudgeFault.TheVariants as fault
use Rattle.ink_grammar.specs.Tree.{Tree}
use Rattle.ink_names.specs.Later.{IsLaterFault}
use Rattle.ink_reading.specs.Reading.{Reads, Refuses, ComesTo, ComesOnlyTo, Answers}
use Rattle.ink_commands.specs.Verdict.{no_main, Verdict, Refused, Further, IsVerdict, IsOnlyVerdict, IsRefusedBy, JudgesFault, Judges}

same_tokens : (tokens others : List Token) (tree other : Tree) → Reads others other ≡ Reads tokens tree → others ≡ tokens
same_tokens tokens others tree other e = cc

apart : (tokens : List Token) (tree : Tree) (refusal : Refusal) → Refuses refusal ≡ Reads tokens tree → ⊥
apart tokens tree refusal e = cc

same_refusal : (one other : Refusal) → Refuses one ≡ Refuses other → one ≡ other
same_refusal one other e = cc

-- the tokens are those that were read
read_alike : (limits bytes : List ℕ) (tokens others : List Token) (tree other : Tree) → ComesOnlyTo limits bytes (Reads tokens tree)
    → ComesTo limits bytes (Reads others other) → others ≡ tokens
read_alike limits bytes tokens others tree other reads comes = same_tokens tokens others tree other (reads.only (Reads others other) comes)

not_refused : (limits bytes : List ℕ) (tokens : List Token) (tree : Tree) (refusal : Refusal) → ComesOnlyTo limits bytes (Reads tokens tree)
    → ComesTo limits bytes (Refuses refusal) → ⊥
not_refused limits bytes tokens tree refusal reads comes = apart tokens tree refusal (reads.only (Refuses refusal) comes)

-- a module with a token

further_only : (limits bytes : List ℕ) (tokens : List Token) (tree : Tree) → ComesOnlyTo limits bytes (Reads tokens tree) → tokens ≢ []
    → (other : Verdict) → IsVerdict limits bytes other → other ≡ Further
further_only limits bytes tokens tree reads some (Refused refusal) is = elim is [
  | inl refuses ↦ absurd (not_refused limits bytes tokens tree refusal reads refuses)
  | inr it ↦ absurd (some (sym (read_alike limits bytes tokens [] tree it.0 reads it.1)))
]
further_only limits bytes tokens tree reads some Further is = refl

is_further : (limits bytes : List ℕ) (tokens : List Token) (tree : Tree) → ComesOnlyTo limits bytes (Reads tokens tree) → tokens ≢ []
    → IsOnlyVerdict limits bytes Further
is_further limits bytes tokens tree reads some = record {
  is = record { tokens = tokens; tree = tree; reads = reads.comes; some = some };
  only = further_only limits bytes tokens tree reads some;
}

-- no token

no_main_only : (limits bytes : List ℕ) (tree : Tree) → ComesOnlyTo limits bytes (Reads [] tree)
    → (other : Verdict) → IsVerdict limits bytes other → other ≡ Refused no_main
no_main_only limits bytes tree reads (Refused refusal) is = elim is [
  | inl refuses ↦ absurd (not_refused limits bytes [] tree refusal reads refuses)
  | inr it ↦ ap Refused it.2
]
no_main_only limits bytes tree reads Further is = absurd (is.some (read_alike limits bytes [] is.tokens tree is.tree reads is.reads))

pub is_no_main : (limits bytes : List ℕ) (tokens : List Token) (tree : Tree) → ComesOnlyTo limits bytes (Reads tokens tree) → tokens ≡ []
    → IsRefusedBy limits bytes no_main
is_no_main limits bytes tokens tree reads none =
    let here : ComesOnlyTo limits bytes (Reads [] tree) = subst (λ (t : List Token). ComesOnlyTo limits bytes (Reads t tree)) none reads in
    inl (record { is = inr (tree, here.comes, refl); only = no_main_only limits bytes tree here })

-- a phase of the reading that is broken

refused_only : (limits bytes : List ℕ) (refusal : Refusal) → ComesOnlyTo limits bytes (Refuses refusal)
    → (other : Verdict) → IsVerdict limits bytes other → other ≡ Refused refusal
refused_only limits bytes refusal refuses (Refused other) is = elim is [
  | inl it ↦ ap Refused (same_refusal other refusal (refuses.only (Refuses other) it))
  | inr it ↦ absurd (apart [] it.0 refusal (sym (refuses.only (Reads [] it.0) it.1)))
]
refused_only limits bytes refusal refuses Further is =
    absurd (apart is.tokens is.tree refusal (sym (refuses.only (Reads is.tokens is.tree) is.reads)))

is_refused : (limits bytes : List ℕ) (refusal : Refusal) → ComesOnlyTo limits bytes (Refuses refusal)
    → IsOnlyVerdict limits bytes (Refused refusal)
is_refused limits bytes refusal refuses = record { is = inl refuses.comes; only = refused_only limits bytes refusal refuses }

-- a reading that is refused, or had no memory

pub not_read : (limits bytes : List ℕ) (why : JudgeFault) → Answers limits bytes (Err why) → JudgesFault limits bytes why
not_read limits bytes (fault.Refused refusal) answers = inl (is_refused limits bytes refusal answers)
not_read limits bytes fault.OutOfMemory answers = tt

-- what the phases behind the reading say

pub judged : {Module : Type 0} (limits bytes : List ℕ) (tokens : List Token) (tree : Tree) (result : Result Module JudgeFault)
    → ComesOnlyTo limits bytes (Reads tokens tree) → tokens ≢ [] → IfErr result IsLaterFault → Judges limits bytes result
judged {Module = Module} limits bytes tokens tree (Ok checked) reads some later = is_further limits bytes tokens tree reads some
judged {Module = Module} limits bytes tokens tree (Err (fault.Refused refusal)) reads some later = inr (is_further limits bytes tokens tree reads some, later)
judged {Module = Module} limits bytes tokens tree (Err fault.OutOfMemory) reads some later = tt

pub no_item : {X : Type 0} (xs : List X) {n : ℕ} → n ≡ length xs → (n == 0) ≡ true → xs ≡ []
no_item [] is none = refl
no_item (x ∷ xs) {n} is none = absurd (grind (arith, nat_tests))

pub some_item : {X : Type 0} (xs : List X) {n : ℕ} → n ≡ length xs → (n == 0) ≡ false → xs ≡ [] → ⊥
some_item [] {n} is some none = grind (arith, nat_tests)
some_item (x ∷ xs) is some none = cc
