-- Counts and entries, byte by byte.
use Rattle.std.proofs.Common.{zero, suc, ◌≡◌, ◌∙◌, ℕ, ◌+◌, ◌*◌, ◌/◌, ◌-◌, ◌<◌, ◌≤◌, ◌^◌, List, [], ◌∷◌, ◌++◌, length, replicate, refl, sym, ap, subst, arith, Option, None, Some, IfSome, IfNone}
use Rattle.std.specs.List.{AllByRecursion}
use Rattle.ink_journal.specs.File.{words, IsProcess}
use Rattle.ink_journal.specs.Reading.{Goes, IsOpen, Leads, begun, rest_from, worth, digit_behind}
use Rattle.ink_journal.specs.declared.step.Awaited.TheVariants as awaited
use Rattle.ink_journal.specs.declared.step.Digit.{Digit}
use Rattle.ink_journal.specs.declared.step.Digit.TheVariants as digit
use Rattle.ink_journal.proofs.Words.{full, rest_behind, reads, writes}

-- so many entries of process 1
abbrev ones : ℕ → List ℕ
ones n = replicate n 1

ones_are : (n : ℕ) → AllByRecursion IsProcess (ones n)
ones_are zero = tt
ones_are (suc n) = ((omega arith, omega arith), ones_are n)

ones_count : (n : ℕ) → length (ones n) ≡ n
ones_count zero = refl
ones_count (suc n) = ap suc (ones_count n)

-- with the next byte's number, the bytes so far are the number up to this one
full_is : (place next : Digit) (n : ℕ) → digit_behind place ≡ Some next → full place n ≡ begun next n
full_is digit.First next n e = cc
full_is digit.Second next n e = cc
full_is digit.Third next n e = cc
full_is digit.Last next n e = cc

rest_is : (place next : Digit) (n : ℕ) → digit_behind place ≡ Some next → rest_behind place n ≡ rest_from next n
rest_is digit.First next n e = cc
rest_is digit.Second next n e = cc
rest_is digit.Third next n e = cc
rest_is digit.Last next n e = cc

is_last : (place : Digit) → digit_behind place ≡ None → place ≡ digit.Last
is_last digit.First e = cc
is_last digit.Second e = cc
is_last digit.Third e = cc
is_last digit.Last e = refl

full_of : (place : Digit) (value : ℕ) → full place (value * worth place) ≡ value
full_of digit.First value = omega arith
full_of digit.Second value = omega arith
full_of digit.Third value = omega arith
full_of digit.Last value = omega arith

few_of : (place : Digit) (value most : ℕ) → value ≤ most / worth place → value * worth place ≤ most
few_of digit.First value most few = omega (arith, few)
few_of digit.Second value most few = omega (arith, few)
few_of digit.Third value most few = omega (arith, few)
few_of digit.Last value most few = omega (arith, few)

-- the entries from one that isn't begun on
pub entries_go : (most left : ℕ) (bytes entries : List ℕ) → AllByRecursion IsProcess entries → left ≡ length entries → bytes ≡ words entries
    → Goes most (awaited.Entry left digit.First 0) bytes entries
entries_go most left bytes [] are count is = (count, is)
entries_go most left bytes (entry ∷ entries) are count is = (count, are.0, are.1, refl, is)

pub entries_went : (most left : ℕ) (bytes entries : List ℕ) → Goes most (awaited.Entry left digit.First 0) bytes entries
    → AllByRecursion IsProcess entries × (left ≡ length entries) × (bytes ≡ words entries)
entries_went most left bytes [] g = (tt, g.0, g.1)
entries_went most left bytes (entry ∷ entries) g = ((g.1, g.2), g.0, g.4)

pub entries_open : (most left : ℕ) → IsOpen most (awaited.Entry left digit.First 0)
entries_open most left = (words (ones left), ones left, entries_go most left (words (ones left)) (ones left) (ones_are left) (sym (ones_count left)) refl)

none_left : (byte : ℕ) (bytes : List ℕ) → byte ∷ bytes ≡ [] → ⊥
none_left byte bytes e = cc

-- the number that the bytes up to the next one are
shown : (place : Digit) (n number byte value : ℕ) (bytes rest : List ℕ) → value ≡ number * 256 + byte → n < 2 ^ 32 → number ≡ begun place n
    → byte ∷ bytes ≡ rest_from place n ++ rest → (value ≡ full place n) × (bytes ≡ rest_behind place n ++ rest)
shown place n number byte value bytes rest is small so e = let both = reads place n number byte bytes rest small so e in (is ∙ both.0, both.1)

pub count_goes_on : (most : ℕ) (place next : Digit) (value : ℕ) → value ≤ most / worth place → digit_behind place ≡ Some next
    → IsOpen most (awaited.Count next value)
count_goes_on most place next value few behind =
    let n = value * worth place in
    let count : length (ones n) ≡ n = ones_count n in
    let is : value ≡ begun next (length (ones n)) = sym (full_of place value) ∙ full_is place next n behind ∙ ap (begun next) (sym count) in
    let within : length (ones n) ≤ most = omega (arith, count, few_of place value most few) in
    (rest_from next (length (ones n)) ++ words (ones n), ones n, ((within, ones_are n), is, refl))

not_last : (next : Digit) → digit_behind digit.Last ≡ Some next → ⊥
not_last next e = cc

full_at : (place next : Digit) (value : ℕ) → digit_behind place ≡ Some next → value ≡ begun next (value * worth place + 1)
full_at digit.First next value e = omega arith ∙ full_is digit.First next (value * 2 ^ 24 + 1) e
full_at digit.Second next value e = omega arith ∙ full_is digit.Second next (value * 2 ^ 16 + 1) e
full_at digit.Third next value e = omega arith ∙ full_is digit.Third next (value * 2 ^ 8 + 1) e
full_at digit.Last next value e = elim (not_last next e) [ ]

-- a process whose number begins so
number_of : (place next : Digit) (value : ℕ) → value ≤ 4294967295 / worth place → digit_behind place ≡ Some next
    → (n : ℕ) × IsProcess n × (value ≡ begun next n)
number_of digit.First next value few e = (value * 2 ^ 24 + 1, (omega (arith, few), omega (arith, few)), full_at digit.First next value e)
number_of digit.Second next value few e = (value * 2 ^ 16 + 1, (omega (arith, few), omega (arith, few)), full_at digit.Second next value e)
number_of digit.Third next value few e = (value * 2 ^ 8 + 1, (omega (arith, few), omega (arith, few)), full_at digit.Third next value e)
number_of digit.Last next value few e = elim (not_last next e) [ ]

entry_done : (most left number byte value : ℕ) → value ≡ number * 256 + byte → (bytes entries : List ℕ)
    → Goes most (awaited.Entry left digit.Last number) (byte ∷ bytes) entries
    → (more : List ℕ) × (entries ≡ value ∷ more) × Goes most (awaited.Entry (left - 1) digit.First 0) bytes more
entry_done most left number byte value is bytes [] g = elim (none_left byte bytes g.1) [ ]
entry_done most left number byte value is bytes (entry ∷ entries) g =
    let both = shown digit.Last entry number byte value bytes (words entries) is g.1.1 g.3 g.4 in
    let count : left - 1 ≡ length entries = omega (arith, g.0) in
    (entries, ap (λ n. n ∷ entries) (sym both.0), entries_go most (left - 1) bytes entries g.2 count both.1)

pub entry_open : (most left : ℕ) (place next : Digit) (value : ℕ) → value ≤ 4294967295 / worth place → digit_behind place ≡ Some next
    → (left ≡ 0 → ⊥) → IsOpen most (awaited.Entry left next value)
entry_open most left place next value few behind some =
    let count : left ≡ suc (length (ones (left - 1))) = omega (arith, some, ones_count (left - 1)) in
    let entry = number_of place next value few behind in
    (rest_from next entry.0 ++ words (ones (left - 1)), entry.0 ∷ ones (left - 1), (count, entry.1, ones_are (left - 1), entry.2, refl))

last_ends : (most left number byte value : ℕ) → byte < 256 → value ≡ number * 256 + byte → value ≤ 4294967295 / 1 → (value ≡ 0 → ⊥) → (left ≡ 0 → ⊥)
    → Leads most (awaited.Entry left digit.Last number) byte (awaited.Entry (left - 1) digit.First 0) (Some value)
last_ends most left number byte value fits is small some others = λ bytes entries. (
  λ g. entry_done most left number byte value is bytes entries g,
  λ b.
      let went = entries_went most (left - 1) bytes b.0 b.2 in
      let count : left ≡ suc (length b.0) = omega (arith, others, went.1) in
      let process : IsProcess value = (omega (arith, some), omega (arith, small)) in
      let both = writes digit.Last value number byte bytes (words b.0) process.1 fits (sym is) went.2 in
      subst (λ es. Goes most (awaited.Entry left digit.Last number) (byte ∷ bytes) es) (sym b.1) (count, process, went.0, both.0, both.1),
)

pub entry_ends : (most left : ℕ) (place : Digit) (number byte value : ℕ) → digit_behind place ≡ None → byte < 256 → value ≡ number * 256 + byte
    → value ≤ 4294967295 / worth place → (value ≡ 0 → ⊥) → (left ≡ 0 → ⊥)
    → Leads most (awaited.Entry left place number) byte (awaited.Entry (left - 1) digit.First 0) (Some value)
entry_ends most left place number byte value last =
    subst (λ d. byte < 256 → value ≡ number * 256 + byte → value ≤ 4294967295 / worth d → (value ≡ 0 → ⊥) → (left ≡ 0 → ⊥)
    → Leads most (awaited.Entry left d number) byte (awaited.Entry (left - 1) digit.First 0) (Some value)) (sym (is_last place last))
    (last_ends most left number byte value)

pub if_some : {A : Type 0} {P Q : A → Type 0} (result : Option A) → ((x : A) → P x → Q x) → IfSome result P → IfSome result Q
if_some None lifts holds = tt
if_some (Some x) lifts holds = lifts x holds

pub if_none : {A P Q : Type 0} (result : Option A) → (P → Q) → IfNone result P → IfNone result Q
if_none None lifts holds = lifts holds
if_none (Some x) lifts holds = tt
