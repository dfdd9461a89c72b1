-- What the parser answers, as the phase does.
use Rattle.std.proofs.Common.{◌≡◌, ℕ, List, Err, refl, sym, ap, subst, ◌∙◌}
use Rattle.ink_base.specs.declared.token.Token.{Token}
use Rattle.ink_base.specs.declared.refusal.Rule.TheVariants.{Unexpected}
use Rattle.ink_base.specs.declared.refusal.JudgeFault.{JudgeFault}
use Rattle.ink_base.specs.declared.refusal.JudgeFault.TheVariants.{Refused}
use Rattle.ink_grammar.specs.declared.token.Terminal as seen
use Rattle.ink_grammar.specs.declared.parser.ParseError.{ParseError}
use Rattle.ink_grammar.specs.declared.parser.ParseError.TheVariants as parse
use Rattle.ink_grammar.specs.Tree.{Tree}
use Rattle.ink_grammar.specs.Language.{Parses}
use Rattle.ink_grammar.specs.Faults.{IsFault}
use Rattle.ink_reading.specs.Phases.{broken, seen_by_grammar, byte_of, IsOnlyTree, JudgesGrammar}

pub refuses-grammar : (source : List ℕ) (tokens : List Token) (read : List seen.Terminal) (error : ParseError) (number byte : ℕ) (told : JudgeFault) →
    read ≡ seen_by_grammar source tokens → IsFault read error → error ≡ parse.Unexpected number →
    byte ≡ byte_of source tokens number → told ≡ Refused (broken source Unexpected byte) →
    JudgesGrammar source tokens (Err told)
refuses-grammar source tokens read error number byte told is_read is_fault is_error is_byte is_told =
    subst (λ t. JudgesGrammar source tokens (Err t)) (sym (is_told ∙ ap (λ b. Refused (broken source Unexpected b)) is_byte))
    (number, subst (λ ts. IsFault ts (parse.Unexpected number)) is_read (subst (λ e. IsFault read e) is_error is_fault), refl)

pub judges-module : (source : List ℕ) (tokens : List Token) (read : List seen.Terminal) (tree : Tree) →
    read ≡ seen_by_grammar source tokens → Parses read tree → ((other : Tree) → Parses read other → other ≡ tree) →
    IsOnlyTree source tokens tree
judges-module source tokens read tree is_read parsed only =
    (subst (λ ts. Parses ts tree) is_read parsed, λ other also. only other (subst (λ ts. Parses ts other) (sym is_read) also))
