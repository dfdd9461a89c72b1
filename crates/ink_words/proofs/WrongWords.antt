-- Words that are a command have no wrong word, and other words have one.
use Rattle.std.proofs.Common.{◌≡◌, ℕ, ◌+◌, ◌<◌, ◌≤◌, inl, inr, List, ◌++◌, suc, take, drop, sym, ap, subst, ◌∙◌, arith, take-append-drop, append_assoc}
use Rattle.std.proofs.lemmas.List.{take-take}
use Rattle.std.proofs.Math.Nat.{eq-or-lt_of_le}
use Rattle.std.proofs.lemmas.Bool.{cases_order}
use Rattle.ink_words.specs.Commands.{Word, Asked, IsOrder, IsCommand, IsFreeRun, AsksWorkers, Begins, Leaves, IsWrongWord}

whole_begins : (words : List Word) (count : ℕ) → IsCommand words → Begins IsCommand (take count words)
whole_begins words count command = (drop count words, subst IsCommand (sym (take-append-drop count words)) command)

pub no_wrong_word : (words : List Word) (number : ℕ) → IsCommand words → IsWrongWord words number → ⊥
no_wrong_word words number command wrong =
    elim (eq-or-lt_of_le wrong.2.within) [
      | inl at ↦ wrong.2.missing at command
      | inr before ↦ wrong.2.wrong before (whole_begins words (suc wrong.0) command)
    ]

shorter_begins : (words : List Word) (one other : ℕ) → one ≤ other → Begins IsCommand (take other words) → Begins IsCommand (take one words)
shorter_begins words one other within begins =
    let front : take one (take other words) ≡ take one words = take-take one other words within in
    let back : take one words ++ drop one (take other words) ≡ take other words =
    ap (λ t. t ++ drop one (take other words)) (sym front) ∙ take-append-drop one (take other words) in
    let whole : (take one words ++ drop one (take other words)) ++ begins.0 ≡ take other words ++ begins.0 = ap (λ t. t ++ begins.0) back in
    (drop one (take other words) ++ begins.0, subst IsCommand (sym whole ∙ append_assoc (take one words) (drop one (take other words)) begins.0) begins.1)

not_before : (words : List Word) (one other : ℕ) → Leaves IsCommand words one → Leaves IsCommand words other → one < other → ⊥
not_before words one other first second before =
    first.wrong (omega (arith, second.within)) (shorter_begins words (suc one) other (omega arith) second.before)

pub one_wrong_word : (words : List Word) (one other : ℕ) → IsWrongWord words one → IsWrongWord words other → one ≡ other
one_wrong_word words one other first second =
    elim (cases_order first.0 second.0) [
      | inl same ↦ first.1 ∙ ap (λ n. n + 1) same ∙ sym second.1
      | inr apart ↦ elim apart [
        | inl before ↦ absurd (not_before words first.0 second.0 first.2 second.2 before)
        | inr behind ↦ absurd (not_before words second.0 first.0 second.2 first.2 behind)
      ]
    ]

pub asks_none : (words : List Word) (number : ℕ) → IsWrongWord words number → AsksWorkers words → ⊥
asks_none words number wrong asks = no_wrong_word words number (asks.0, asks.1) wrong

pub asks_one : (words : List Word) (ask : Asked) → ((other : Asked) → IsOrder other words → other ≡ ask) → AsksWorkers words → IsFreeRun ask
asks_one words ask only asks = subst IsFreeRun (only asks.0 asks.1) asks.2
