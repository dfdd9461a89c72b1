-- A number in four bytes, read and written byte by byte.
use Rattle.std.proofs.Common.{◌≡◌, ℕ, ◌+◌, ◌*◌, ◌/◌, ◌%◌, ◌<◌, ◌^◌, List, [], ◌∷◌, ◌++◌, drop, take, slice_get, ap, sym, ◌∙◌, append-nil, append_assoc, arith, Some}
use Rattle.std.proofs.lemmas.List.{take_more}
use Rattle.std.proofs.lemmas.Option.{slice_get_within, get_or_from_slice_get}
use Rattle.ink_journal.specs.File.{word, words}
use Rattle.ink_journal.specs.Reading.{begun, rest_from}
use Rattle.ink_journal.specs.declared.step.Digit.{Digit}
use Rattle.ink_journal.specs.declared.step.Digit.TheVariants as digit

-- the number that the bytes of a word up to this one are
abbrev pub full : Digit → ℕ → ℕ
full digit.First n = n / 2 ^ 24
full digit.Second n = n / 2 ^ 16
full digit.Third n = n / 2 ^ 8
full digit.Last n = n

-- the bytes of a word behind this one
abbrev pub rest_behind : Digit → ℕ → List ℕ
rest_behind digit.First n = drop 1 (word n)
rest_behind digit.Second n = drop 2 (word n)
rest_behind digit.Third n = drop 3 (word n)
rest_behind digit.Last n = []

pub head_of : {x y : ℕ} {xs ys : List ℕ} → x ∷ xs ≡ y ∷ ys → x ≡ y
head_of e = cc

pub tail_of : {x y : ℕ} {xs ys : List ℕ} → x ∷ xs ≡ y ∷ ys → xs ≡ ys
tail_of e = cc

pub reads : (place : Digit) (n number byte : ℕ) (bytes rest : List ℕ) → n < 2 ^ 32 → number ≡ begun place n
    → byte ∷ bytes ≡ rest_from place n ++ rest → (number * 256 + byte ≡ full place n) × (bytes ≡ rest_behind place n ++ rest)
reads digit.First n number byte bytes rest small is e = (omega (arith, small, is, head_of e), tail_of e)
reads digit.Second n number byte bytes rest small is e = (omega (arith, small, is, head_of e), tail_of e)
reads digit.Third n number byte bytes rest small is e = (omega (arith, small, is, head_of e), tail_of e)
reads digit.Last n number byte bytes rest small is e = (omega (arith, small, is, head_of e), tail_of e)

pub writes : (place : Digit) (n number byte : ℕ) (bytes rest : List ℕ) → n < 2 ^ 32 → byte < 256 → number * 256 + byte ≡ full place n
    → bytes ≡ rest_behind place n ++ rest → (number ≡ begun place n) × (byte ∷ bytes ≡ rest_from place n ++ rest)
writes digit.First n number byte bytes rest small fits is e =
    let here : byte ≡ n / 2 ^ 24 % 256 = omega (arith, small, fits, is) in (omega (arith, small, fits, is), cc)
writes digit.Second n number byte bytes rest small fits is e =
    let here : byte ≡ n / 2 ^ 16 % 256 = omega (arith, small, fits, is) in (omega (arith, small, fits, is), cc)
writes digit.Third n number byte bytes rest small fits is e =
    let here : byte ≡ n / 2 ^ 8 % 256 = omega (arith, small, fits, is) in (omega (arith, small, fits, is), cc)
writes digit.Last n number byte bytes rest small fits is e =
    let here : byte ≡ n % 256 = omega (arith, small, fits, is) in (omega (arith, small, fits, is), cc)

-- the words of one number more
pub words_more : (ns : List ℕ) (n : ℕ) → words (ns ++ n ∷ []) ≡ words ns ++ word n
words_more [] n = append-nil (word n)
words_more (m ∷ ms) n = ap (λ w. word m ++ w) (words_more ms n) ∙ sym (append_assoc (word m) (words ms) (word n))

-- the front of a list with one item more
pub took : (xs : List ℕ) (i x : ℕ) → slice_get xs i ≡ Some x → take (i + 1) xs ≡ take i xs ++ x ∷ []
took xs i x at = take_more xs i x (slice_get_within xs i x at) ∙ ap (λ y. take i xs ++ y ∷ []) (get_or_from_slice_get xs i x x at)
