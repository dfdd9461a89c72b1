-- What the phases answer, as the reading does.
use Rattle.std.proofs.Common.{◌≡◌, ℕ, ◌<◌, List, length, Result, Ok, Err, None, sym, subst}
use Rattle.ink_base.specs.declared.token.Token.{Token}
use Rattle.ink_base.specs.declared.refusal.Rule.TheVariants.{SourceTooLong, NotUtf8}
use Rattle.ink_base.specs.declared.refusal.JudgeFault.{JudgeFault}
use Rattle.ink_base.specs.declared.refusal.JudgeFault.TheVariants.{Refused, OutOfMemory}
use Rattle.ink_text.specs.Utf8.{Utf8, StopsAt}
use Rattle.ink_tokens.specs.Lexes as lexes
use Rattle.ink_reading.specs.declared.reading.Reading.{Reading}
use Rattle.ink_base.specs.declared.limits.Limit.TheVariants.{Source, Height}
use Rattle.ink_base.specs.Limits.{limit_of}
use Rattle.ink_grammar.specs.Tree.{Tree}
use Rattle.ink_grammar.specs.Views as view
use Rattle.ink_reading.specs.Phases.{broken, IsOnlyTree, JudgesGrammar, JudgesHeight}
use Rattle.ink_reading.specs.Reading.{Answers, IsShort, too_long, no_text, no_tokens, no_module, too_deep}
use Rattle.ink_heights.specs.Heights.{first_too_high}
use Rattle.ink_reading.proofs.OnlyLemmas.{only-length, only-text, only-tokens, only-grammar, only-height, only-reads}

-- the answer that is a fault
pub answers-fault : (limits source : List ℕ) (result : Result Reading JudgeFault) (fault : JudgeFault) →
    result ≡ Err fault → Answers limits source (Err fault) → Answers limits source result
answers-fault limits source result fault is answers = subst (λ r. Answers limits source r) (sym is) answers

pub answers-length : (limits source : List ℕ) (fault : JudgeFault) → limit_of Source limits < length source →
    fault ≡ Refused (broken source SourceTooLong (limit_of Source limits)) → Answers limits source (Err fault)
answers-length limits source fault long is =
    subst (λ f. Answers limits source (Err f)) (sym is)
    (record { comes = too_long long; only = only-length limits source long })

pub answers-text : (limits source : List ℕ) (fault : JudgeFault) → IsShort limits source →
    (byte : ℕ) × StopsAt source byte × (fault ≡ Refused (broken source NotUtf8 byte)) → Answers limits source (Err fault)
answers-text limits source fault short (byte, stops, is) =
    subst (λ f. Answers limits source (Err f)) (sym is)
    (record { comes = no_text short stops; only = only-text limits source byte short stops })

pub answers-tokens : (limits source : List ℕ) (fault : JudgeFault) → IsShort limits source → Utf8 source →
    lexes.Answers source (Err fault) → Answers limits source (Err fault)
answers-tokens limits source (Refused refusal) short text refused =
    record { comes = no_tokens short text refused; only = only-tokens limits source refusal short text refused }
answers-tokens limits source OutOfMemory short text refused = tt

pub answers-grammar : (limits source : List ℕ) (tokens seen : List Token) (fault : JudgeFault) → IsShort limits source → Utf8 source →
    lexes.AreTokens source tokens → seen ≡ tokens → JudgesGrammar source seen (Err fault) → Answers limits source (Err fault)
answers-grammar limits source tokens seen (Refused refusal) short text lexed is (number, fault, told) =
    let read = subst (λ ts. lexes.AreTokens source ts) (sym is) lexed in
    subst (λ r. Answers limits source (Err (Refused r))) (sym told)
    (record { comes = no_module short text read fault; only = only-grammar limits source seen number short text read fault })
answers-grammar limits source tokens seen OutOfMemory short text lexed is judges = tt

pub answers-height : (limits source : List ℕ) (tokens seen : List Token) (tree : Tree) (fault : JudgeFault) → IsShort limits source →
    Utf8 source → lexes.AreTokens source tokens → seen ≡ tokens → IsOnlyTree source seen tree →
    JudgesHeight source (limit_of Height limits) tree (Err fault) → Answers limits source (Err fault)
answers-height limits source tokens seen tree (Refused refusal) short text lexed is (parsed, one_tree) (byte, high, told) =
    let read = subst (λ ts. lexes.AreTokens source ts) (sym is) lexed in
    subst (λ r. Answers limits source (Err (Refused r))) (sym told)
    (record {
      comes = too_deep short text read parsed high;
      only = only-height limits source seen tree byte short text read parsed one_tree high;
    })
answers-height limits source tokens seen tree OutOfMemory short text lexed is parsed judges = tt

pub answers-read : (limits source : List ℕ) (seen : List Token) (reading : Reading) → IsShort limits source →
    Utf8 source → lexes.AreTokens source reading.tokens.items → seen ≡ reading.tokens.items → IsOnlyTree source seen (view.tree reading.«module») →
    first_too_high (limit_of Height limits) (view.tree reading.«module») ≡ None → Answers limits source (Ok reading)
answers-read limits source seen reading short text lexed is parsed low =
    let only : IsOnlyTree source reading.tokens.items (view.tree reading.«module») =
    subst (λ ts. IsOnlyTree source ts (view.tree reading.«module»)) is parsed in
    record {
      comes = record { short = short; text = text; lexed = lexed; parsed = only.0; low = low };
      only = only-reads limits source reading.tokens.items (view.tree reading.«module») short text lexed only.0 only.1 low;
    }
