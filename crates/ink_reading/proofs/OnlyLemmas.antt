-- What a source comes to where a phase is broken, and where none is: nothing else.
use Rattle.std.proofs.Common.{◌≡◌, ℕ, ◌<◌, List, length, Some, None, Err, refl, sym, ap, subst, ◌∙◌, arith}
use Rattle.ink_base.specs.declared.token.Token.{Token}
use Rattle.ink_base.specs.declared.limits.Limit.TheVariants.{Source, Height}
use Rattle.ink_base.specs.declared.refusal.Rule.TheVariants.{SourceTooLong, NotUtf8, Unexpected, TooDeep}
use Rattle.ink_base.specs.declared.refusal.Refusal.{Refusal}
use Rattle.ink_base.specs.declared.refusal.JudgeFault.TheVariants.{Refused}
use Rattle.ink_base.specs.Limits.{limit_of}
use Rattle.ink_text.specs.Utf8.{Utf8, StopsAt}
use Rattle.ink_tokens.specs.Lexes as lexes
use Rattle.ink_tokens.proofs.LexesLemmas.{one_outcome}
use Rattle.ink_grammar.specs.declared.parser.ParseError.TheVariants as fault
use Rattle.ink_grammar.specs.Tree.{Tree}
use Rattle.ink_grammar.specs.Language.{Parses}
use Rattle.ink_grammar.specs.Faults.{IsFault}
use Rattle.ink_heights.specs.Heights.{first_too_high}
use Rattle.ink_reading.specs.Phases.{broken, seen_by_grammar, byte_of}
use Rattle.ink_reading.specs.Reading.{IsShort, too_long, no_text, no_tokens, no_module, too_deep, Outcome, Reads, Refuses, ComesTo}
use Rattle.ink_reading.proofs.FaultLemmas.{stops-not, stops-same, fault-not, fault-same}

-- a source has one list of tokens
tokens-same : (source : List ℕ) (one other : List Token) → lexes.AreTokens source one → lexes.AreTokens source other → one ≡ other
tokens-same source one other lexed_one lexed_other =
    let same : lexes.Gives one ≡ lexes.Gives other = one_outcome source (lexes.Gives one) (lexes.Gives other) lexed_one lexed_other in cc

-- one that has tokens isn't refused for them
tokens-not : (source : List ℕ) (tokens : List Token) (refusal : Refusal) → lexes.AreTokens source tokens →
    lexes.Answers source (Err (Refused refusal)) → ⊥
tokens-not source tokens refusal lexed (broken_by, comes, told) =
    let same : lexes.Gives tokens ≡ lexes.Refuses broken_by = one_outcome source (lexes.Gives tokens) (lexes.Refuses broken_by) lexed comes in cc

refusal-same : (source : List ℕ) (one other : Refusal) → lexes.Answers source (Err (Refused one)) →
    lexes.Answers source (Err (Refused other)) → one ≡ other
refusal-same source one other (fault_one, comes_one, told_one) (fault_other, comes_other, told_other) =
    let same : lexes.Refuses fault_one ≡ lexes.Refuses fault_other =
    one_outcome source (lexes.Refuses fault_one) (lexes.Refuses fault_other) comes_one comes_other in cc

over-limit : (limits source : List ℕ) → limit_of Source limits < length source → IsShort limits source → ⊥
over-limit limits source long short = omega arith

pub only-length : (limits source : List ℕ) → limit_of Source limits < length source → (other : Outcome) → ComesTo limits source other →
    other ≡ Refuses (broken source SourceTooLong (limit_of Source limits))
only-length limits source long (Reads tokens tree) read = absurd (over-limit limits source long read.short)
only-length limits source long (Refuses _) (too_long _) = refl
only-length limits source long (Refuses _) (no_text short _) = absurd (over-limit limits source long short)
only-length limits source long (Refuses _) (no_tokens short _ _) = absurd (over-limit limits source long short)
only-length limits source long (Refuses _) (no_module short _ _ _) = absurd (over-limit limits source long short)
only-length limits source long (Refuses _) (too_deep short _ _ _ _) = absurd (over-limit limits source long short)

pub only-text : (limits source : List ℕ) (byte : ℕ) → IsShort limits source → StopsAt source byte → (other : Outcome) →
    ComesTo limits source other → other ≡ Refuses (broken source NotUtf8 byte)
only-text limits source byte short stops (Reads tokens tree) read = absurd (stops-not source byte stops read.text)
only-text limits source byte short stops (Refuses _) (too_long long) = absurd (over-limit limits source long short)
only-text limits source byte short stops (Refuses _) (no_text {byte = other} _ also) =
    ap (λ b. Refuses (broken source NotUtf8 b)) (stops-same source other byte also stops)
only-text limits source byte short stops (Refuses _) (no_tokens _ text _) = absurd (stops-not source byte stops text)
only-text limits source byte short stops (Refuses _) (no_module _ text _ _) = absurd (stops-not source byte stops text)
only-text limits source byte short stops (Refuses _) (too_deep _ text _ _ _) = absurd (stops-not source byte stops text)

pub only-tokens : (limits source : List ℕ) (refusal : Refusal) → IsShort limits source → Utf8 source →
    lexes.Answers source (Err (Refused refusal)) → (other : Outcome) → ComesTo limits source other → other ≡ Refuses refusal
only-tokens limits source refusal short text refused (Reads tokens tree) read = absurd (tokens-not source tokens refusal read.lexed refused)
only-tokens limits source refusal short text refused (Refuses _) (too_long long) = absurd (over-limit limits source long short)
only-tokens limits source refusal short text refused (Refuses _) (no_text {byte = byte} _ stops) = absurd (stops-not source byte stops text)
only-tokens limits source refusal short text refused (Refuses _) (no_tokens {refusal = other} _ _ also) =
    ap Refuses (refusal-same source other refusal also refused)
only-tokens limits source refusal short text refused (Refuses _) (no_module {tokens = tokens} _ _ lexed _) =
    absurd (tokens-not source tokens refusal lexed refused)
only-tokens limits source refusal short text refused (Refuses _) (too_deep {tokens = tokens} _ _ lexed _ _) =
    absurd (tokens-not source tokens refusal lexed refused)

-- tokens with a fault are no module, also where they are named twice
fault-none : (source : List ℕ) (tokens other : List Token) (number : ℕ) (tree : Tree) → lexes.AreTokens source tokens →
    lexes.AreTokens source other → IsFault (seen_by_grammar source tokens) (fault.Unexpected number) →
    Parses (seen_by_grammar source other) tree → ⊥
fault-none source tokens other number tree lexed also is_fault parses =
    fault-not (seen_by_grammar source tokens) number tree is_fault
    (subst (λ ts. Parses (seen_by_grammar source ts) tree) (tokens-same source other tokens also lexed) parses)

pub only-grammar : (limits source : List ℕ) (tokens : List Token) (number : ℕ) → IsShort limits source → Utf8 source →
    lexes.AreTokens source tokens → IsFault (seen_by_grammar source tokens) (fault.Unexpected number) → (other : Outcome) →
    ComesTo limits source other → other ≡ Refuses (broken source Unexpected (byte_of source tokens number))
only-grammar limits source tokens number short text lexed is_fault (Reads other tree) read =
    absurd (fault-none source tokens other number tree lexed read.lexed is_fault read.parsed)
only-grammar limits source tokens number short text lexed is_fault (Refuses _) (too_long long) = absurd (over-limit limits source long short)
only-grammar limits source tokens number short text lexed is_fault (Refuses _) (no_text {byte = byte} _ stops) = absurd (stops-not source byte stops text)
only-grammar limits source tokens number short text lexed is_fault (Refuses _) (no_tokens {refusal = refusal} _ _ refused) =
    absurd (tokens-not source tokens refusal lexed refused)
only-grammar limits source tokens number short text lexed is_fault (Refuses _) (no_module {tokens = other} {number = at} _ _ also is_other) =
    let same = tokens-same source other tokens also lexed in
    ap (λ ts. Refuses (broken source Unexpected (byte_of source ts at))) same
    ∙ ap (λ n. Refuses (broken source Unexpected (byte_of source tokens n)))
    (fault-same (seen_by_grammar source tokens) at number
    (subst (λ ts. IsFault (seen_by_grammar source ts) (fault.Unexpected at)) same is_other) is_fault)
only-grammar limits source tokens number short text lexed is_fault (Refuses _) (too_deep {tokens = other} {tree = tree} _ _ also parses _) =
    absurd (fault-none source tokens other number tree lexed also is_fault parses)

pub only-height : (limits source : List ℕ) (tokens : List Token) (tree : Tree) (byte : ℕ) → IsShort limits source → Utf8 source →
    lexes.AreTokens source tokens → Parses (seen_by_grammar source tokens) tree →
    ((other : Tree) → Parses (seen_by_grammar source tokens) other → other ≡ tree) →
    first_too_high (limit_of Height limits) tree ≡ Some byte → (other : Outcome) → ComesTo limits source other →
    other ≡ Refuses (broken source TooDeep byte)
only-height limits source tokens tree byte short text lexed parses one_tree high (Reads other deep) read =
    let same = tokens-same source other tokens read.lexed lexed in
    let same_tree = one_tree deep (subst (λ ts. Parses (seen_by_grammar source ts) deep) same read.parsed) in
    let low : first_too_high (limit_of Height limits) tree ≡ None =
    ap (first_too_high (limit_of Height limits)) (sym same_tree) ∙ read.low in
    cc
only-height limits source tokens tree byte short text lexed parses one_tree high (Refuses _) (too_long long) =
    absurd (over-limit limits source long short)
only-height limits source tokens tree byte short text lexed parses one_tree high (Refuses _) (no_text {byte = at} _ stops) =
    absurd (stops-not source at stops text)
only-height limits source tokens tree byte short text lexed parses one_tree high (Refuses _) (no_tokens {refusal = refusal} _ _ refused) =
    absurd (tokens-not source tokens refusal lexed refused)
only-height limits source tokens tree byte short text lexed parses one_tree high (Refuses _) (no_module {tokens = other} {number = number} _ _ also is_fault) =
    absurd (fault-none source other tokens number tree also lexed is_fault parses)
only-height limits source tokens tree byte short text lexed parses one_tree high (Refuses _) (too_deep {tokens = other} {tree = deep} {byte = at} _ _ also deep_parses deep_high) =
    let same = tokens-same source other tokens also lexed in
    let same_tree = one_tree deep (subst (λ ts. Parses (seen_by_grammar source ts) deep) same deep_parses) in
    let also_high : first_too_high (limit_of Height limits) tree ≡ Some at =
    ap (first_too_high (limit_of Height limits)) (sym same_tree) ∙ deep_high in
    let same_byte : at ≡ byte = cc in
    ap (λ b. Refuses (broken source TooDeep b)) same_byte

pub only-reads : (limits source : List ℕ) (tokens : List Token) (tree : Tree) → IsShort limits source → Utf8 source →
    lexes.AreTokens source tokens → Parses (seen_by_grammar source tokens) tree →
    ((other : Tree) → Parses (seen_by_grammar source tokens) other → other ≡ tree) →
    first_too_high (limit_of Height limits) tree ≡ None → (other : Outcome) → ComesTo limits source other → other ≡ Reads tokens tree
only-reads limits source tokens tree short text lexed parses one_tree low (Reads other deep) read =
    let same = tokens-same source other tokens read.lexed lexed in
    let same_tree = one_tree deep (subst (λ ts. Parses (seen_by_grammar source ts) deep) same read.parsed) in
    ap (λ ts. Reads ts deep) same ∙ ap (λ t. Reads tokens t) same_tree
only-reads limits source tokens tree short text lexed parses one_tree low (Refuses _) (too_long long) =
    absurd (over-limit limits source long short)
only-reads limits source tokens tree short text lexed parses one_tree low (Refuses _) (no_text {byte = at} _ stops) =
    absurd (stops-not source at stops text)
only-reads limits source tokens tree short text lexed parses one_tree low (Refuses _) (no_tokens {refusal = refusal} _ _ refused) =
    absurd (tokens-not source tokens refusal lexed refused)
only-reads limits source tokens tree short text lexed parses one_tree low (Refuses _) (no_module {tokens = other} {number = number} _ _ also is_fault) =
    absurd (fault-none source other tokens number tree also lexed is_fault parses)
only-reads limits source tokens tree short text lexed parses one_tree low (Refuses _) (too_deep {tokens = other} {tree = deep} {byte = at} _ _ also deep_parses deep_high) =
    let same = tokens-same source other tokens also lexed in
    let same_tree = one_tree deep (subst (λ ts. Parses (seen_by_grammar source ts) deep) same deep_parses) in
    let also_high : first_too_high (limit_of Height limits) tree ≡ Some at =
    ap (first_too_high (limit_of Height limits)) (sym same_tree) ∙ deep_high in
    cc
