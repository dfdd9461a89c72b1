-- The limits by their options, and the numbers among the words.
use Rattle.std.proofs.Common.{◌≡◌, ℕ, ◌^◌, ◌<◌, slice_index_or, lit≤, Result, Ok, sym, ap, ◌∙◌, subst, arith}
use Rattle.std.specs.Fmt.{decimal}
use Rattle.std.specs.Str.{IsUtf8}
use Rattle.std.specs.Str.Parse.{ParsesUnsigned}
use Rattle.std.proofs.lemmas.Str.{IsUtf8-from_ascii}
use Rattle.std.proofs.lemmas.Fmt.{IsAscii-decimal, parse-decimal, decimal_injective}
use Rattle.ink_base.specs.Limits.{all_limits, index_of, option_word, greatest_of}
use Rattle.ink_base.proofs.LimitLemmas.{limit_at, index_below}
use Rattle.ink_base.specs.declared.limits.Limit.{Limit}
use Rattle.ink_base.specs.declared.limits.Limit.TheVariants.{Source, Height, Frames, Objects, Serial, Array, Text, Processes, Mailbox, Futures, Events, Local, Slice, Workers}
use Rattle.ink_words.specs.Commands.{Word, IsNumber, IsWithin}

-- a word that is the option of none of them
pub no_option : (word : Word) → ((k : ℕ) → k < 14 → word ≡ option_word (slice_index_or all_limits k Source) → ⊥) → (limit : Limit) → word ≡ option_word limit → ⊥
no_option word none limit is = none (index_of limit) (index_below limit) (is ∙ ap option_word (sym (limit_at limit)))

-- a number up to one that fits 64 bits fits them too
pub fits : (greatest number : ℕ) → greatest < 2 ^ 64 → IsWithin greatest number → number < 2 ^ 64
fits greatest number below within = omega (arith, below, within.1)

-- digits are UTF-8
pub number_utf8 : (greatest number : ℕ) (word : Word) → greatest < 2 ^ 64 → IsNumber greatest number word → IsUtf8 word
number_utf8 greatest number word below is =
    subst IsUtf8 (sym is.1) (IsUtf8-from_ascii (decimal number) (IsAscii-decimal number (fits greatest number below is.0)))

-- and are read as their number
pub number_parsed : {E : Type 0} (greatest number : ℕ) (word : Word) (result : Result ℕ E) → greatest < 2 ^ 64 → IsNumber greatest number word
    → ParsesUnsigned 64 10 word result → result ≡ Ok number
number_parsed greatest number word result below is parses =
    parse-decimal 64 number word result (fits greatest number below is.0) (fits greatest number below is.0) is.1 parses

-- one word is one number
pub one_number : (greatest one other : ℕ) (word : Word) → greatest < 2 ^ 64 → IsNumber greatest one word → IsNumber greatest other word → one ≡ other
one_number greatest one other word below is is_other =
    decimal_injective one other (fits greatest one below is.0) (fits greatest other below is_other.0) (sym is.1 ∙ is_other.1)

-- the greatest number of each limit fits 64 bits
pub greatest_fits : (limit : Limit) → greatest_of limit < 2 ^ 64
greatest_fits Source = omega arith
greatest_fits Height = omega arith
greatest_fits Frames = omega arith
greatest_fits Objects = omega arith
greatest_fits Serial = omega arith
greatest_fits Array = omega arith
greatest_fits Text = omega arith
greatest_fits Processes = omega arith
greatest_fits Mailbox = omega arith
greatest_fits Futures = omega arith
greatest_fits Events = omega arith
greatest_fits Local = omega arith
greatest_fits Slice = omega arith
greatest_fits Workers = omega arith

-- the least number is one that each limit may have
pub least : (limit : Limit) → IsWithin (greatest_of limit) 1
least Source = (lit≤ tt, lit≤ tt)
least Height = (lit≤ tt, lit≤ tt)
least Frames = (lit≤ tt, lit≤ tt)
least Objects = (lit≤ tt, lit≤ tt)
least Serial = (lit≤ tt, lit≤ tt)
least Array = (lit≤ tt, lit≤ tt)
least Text = (lit≤ tt, lit≤ tt)
least Processes = (lit≤ tt, lit≤ tt)
least Mailbox = (lit≤ tt, lit≤ tt)
least Futures = (lit≤ tt, lit≤ tt)
least Events = (lit≤ tt, lit≤ tt)
least Local = (lit≤ tt, lit≤ tt)
least Slice = (lit≤ tt, lit≤ tt)
least Workers = (lit≤ tt, lit≤ tt)
