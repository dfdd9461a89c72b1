-- Where a text stops and where a module is refused: one place alone.
use Rattle.std.proofs.Common.{◌≡◌, ℕ, ◌+◌, ◌<◌, ◌≤◌, nat_lt, ◌⊎◌, inl, inr, ⊎_elim, List, ◌++◌, length, take, drop, sym, ap, subst, ◌∙◌, arith, append_assoc}
use Rattle.std.proofs.lemmas.Bool.{ltb-true, ltb-false}
use Rattle.std.proofs.lemmas.List.{take-append-drop, take_all, take-take}
use Rattle.ink_text.specs.Utf8.{Utf8, StopsAt}
use Rattle.ink_grammar.specs.declared.token.Terminal.{Terminal}
use Rattle.ink_grammar.specs.declared.parser.ParseError.TheVariants.{Unexpected}
use Rattle.ink_grammar.specs.Tree.{Tree}
use Rattle.ink_grammar.specs.Language.{Parses, Begins}
use Rattle.ink_grammar.specs.Faults.{IsFault}
use Rattle.ink_grammar.proofs.Bools.{by_cases}

below_or_not : (a b : ℕ) → (a < b) ⊎ (b ≤ a)
below_or_not a b = by_cases (nat_lt a b) (λ e. inl (ltb-true a b e)) (λ e. inr (ltb-false a b e))

-- two numbers of which none is less are equal
pub same_number : (a b : ℕ) → (a < b → ⊥) → (b < a → ⊥) → a ≡ b
same_number a b not_less not_more =
    ⊎_elim (λ less. absurd (not_less less))
    (λ least. ⊎_elim (λ more. absurd (not_more more)) (λ most. omega arith) (below_or_not b a)) (below_or_not a b)

-- a source that stops being UTF-8 isn't UTF-8
pub stops-not : (source : List ℕ) (byte : ℕ) → StopsAt source byte → Utf8 source → ⊥
stops-not source byte stops text =
    stops.longest (length source) stops.inside (subst Utf8 (sym (take_all (length source) source (omega arith))) text)

pub stops-same : (source : List ℕ) (one other : ℕ) → StopsAt source one → StopsAt source other → one ≡ other
stops-same source one other stops_one stops_other =
    same_number one other (λ less. stops_one.longest other less stops_other.before)
    (λ more. stops_other.longest one more stops_one.before)

-- what begins a module does so for each of its tokens
begins-all : (tokens : List Terminal) (count : ℕ) (tree : Tree) → Parses tokens tree → Begins (take count tokens)
begins-all tokens count tree parses =
    (drop count tokens, tree, subst (λ ts. Parses ts tree) (sym (take-append-drop count tokens)) parses)

-- tokens with a fault are no module
pub fault-not : (tokens : List Terminal) (number : ℕ) (tree : Tree) → IsFault tokens (Unexpected number) → Parses tokens tree → ⊥
fault-not tokens number tree (inside, before, next, end) parses =
    ⊎_elim (λ less. next less (begins-all tokens (number + 1) tree parses))
    (λ most. let last : number ≡ length tokens = omega arith in end last tree parses) (below_or_not number (length tokens))

-- fewer of the tokens, and then the others
split : (tokens : List Terminal) (fewer count : ℕ) (more : List Terminal) → fewer ≤ count →
    take count tokens ++ more ≡ take fewer tokens ++ (drop fewer (take count tokens) ++ more)
split tokens fewer count more less =
    ap (λ ts. ts ++ more) (sym (take-append-drop fewer (take count tokens)))
    ∙ append_assoc (take fewer (take count tokens)) (drop fewer (take count tokens)) more
    ∙ ap (λ ts. ts ++ (drop fewer (take count tokens) ++ more)) (take-take fewer count tokens less)

-- what begins a module still does with fewer tokens
begins-fewer : (tokens : List Terminal) (fewer count : ℕ) → fewer ≤ count → Begins (take count tokens) → Begins (take fewer tokens)
begins-fewer tokens fewer count less (more, tree, parses) =
    (drop fewer (take count tokens) ++ more, tree, subst (λ ts. Parses ts tree) (split tokens fewer count more less) parses)

fault-before : (tokens : List Terminal) (one other : ℕ) → IsFault tokens (Unexpected one) → IsFault tokens (Unexpected other) →
    one < other → ⊥
fault-before tokens one other (inside, before, next, end) (inside_other, before_other, next_other, end_other) less =
    next (omega arith) (begins-fewer tokens (one + 1) other (omega arith) before_other)

pub fault-same : (tokens : List Terminal) (one other : ℕ) → IsFault tokens (Unexpected one) → IsFault tokens (Unexpected other) → one ≡ other
fault-same tokens one other fault_one fault_other =
    same_number one other (fault-before tokens one other fault_one fault_other) (fault-before tokens other one fault_other fault_one)
