-- The well-formed sequences are what std encodes characters as.
use Rattle.std.proofs.Common.{◌≡◌, ℕ, ◌+◌, ◌-◌, ◌*◌, ◌/◌, ◌%◌, ◌<◌, ◌≤◌, true, List, [], ◌∷◌, ◌++◌, length, take, drop, IsUtf8, inl, inr, refl, sym, ap, ◌∙◌, subst, arith}
use Rattle.std.proofs.Math.Seq.{take-add, take-append_seam}
use Rattle.std.proofs.lemmas.Bool.{and_parts, cases_lt}
use Rattle.std.proofs.lemmas.Bool.Decides.{nat_tests}
use Rattle.std.proofs.lemmas.Str.{IsUtf8-append, IsUtf8-nil, IsUtf8-encode, encode_ascii}
use Rattle.std.specs.List.{AllByRecursion, concat}
use Rattle.std.specs.Str.{IsValidUpTo}
use lib.Utf8.{scalar, scalars, encode, encodes, low_scalar, scalar_cases}
use Rattle.ink_text.specs.Utf8.{IsLater, BeginsThree, BeginsFour, IsSequence, Utf8, StopsAt}

encode_two : (c : ℕ) → 128 ≤ c → c < 2048 → encode c ≡ (192 + c / 64) ∷ (128 + c % 64) ∷ []
unfolding encode
encode_two c low high = grind (arith, nat_tests)

encode_three : (c : ℕ) → 2048 ≤ c → c < 65536 → encode c ≡ (224 + c / 4096) ∷ (128 + (c / 64) % 64) ∷ (128 + c % 64) ∷ []
unfolding encode
encode_three c low high = grind (arith, nat_tests)

encode_four : (c : ℕ) → 65536 ≤ c → encode c ≡ (240 + c / 262144) ∷ (128 + (c / 4096) % 64) ∷ (128 + (c / 64) % 64) ∷ (128 + c % 64) ∷ []
unfolding encode
encode_four c low = grind (arith, nat_tests)

high_scalar : (c : ℕ) → 57344 ≤ c → c < 1114112 → scalar c ≡ true
high_scalar c low high = grind (arith, nat_tests)

-- the sequence of a character of three bytes
three_bytes : (c : ℕ) → 2048 ≤ c → c < 65536 → scalar c ≡ true → IsSequence ((224 + c / 4096) ∷ (128 + (c / 64) % 64) ∷ (128 + c % 64) ∷ [])
three_bytes c low high is =
    let later : IsLater (128 + c % 64) = (omega arith, omega arith) in
    elim (cases_lt c 4096) [
      | inl small ↦ (inl (omega arith, (omega arith, omega arith)), later)
      | inr big ↦ elim (cases_lt c 53248) [
        | inl below ↦ (inr (inl ((omega arith, omega arith), (omega arith, omega arith))), later)
        | inr from ↦ elim (scalar_cases c is) [
          | inl before ↦ (inr (inr (inl (omega arith, (omega arith, omega arith)))), later)
          | inr behind ↦ (inr (inr (inr ((omega arith, omega arith), (omega arith, omega arith)))), later)
        ]
      ]
    ]

-- the sequence of a character of four bytes
four_bytes : (c : ℕ) → 65536 ≤ c → c < 1114112 → IsSequence ((240 + c / 262144) ∷ (128 + (c / 4096) % 64) ∷ (128 + (c / 64) % 64) ∷ (128 + c % 64) ∷ [])
four_bytes c low high =
    let third : IsLater (128 + (c / 64) % 64) = (omega arith, omega arith) in
    let fourth : IsLater (128 + c % 64) = (omega arith, omega arith) in
    elim (cases_lt c 262144) [
      | inl small ↦ (inl (omega arith, (omega arith, omega arith)), third, fourth)
      | inr big ↦ elim (cases_lt c 1048576) [
        | inl below ↦ (inr (inl ((omega arith, omega arith), (omega arith, omega arith))), third, fourth)
        | inr from ↦ (inr (inr (omega arith, (omega arith, omega arith))), third, fourth)
      ]
    ]

-- a character is below the number of all
scalar_below : (c : ℕ) → scalar c ≡ true → c < 1114112
scalar_below c is = elim (scalar_cases c is) [ inl before ↦ omega arith | inr behind ↦ behind.1 ]

-- what a character is encoded as is a sequence
sequence_of : (c : ℕ) → scalar c ≡ true → IsSequence (encode c)
sequence_of c is = elim (cases_lt c 128) [
  | inl one ↦ rw (encode_ascii c one) one
  | inr past_one ↦ elim (cases_lt c 2048) [
    | inl two ↦ rw (encode_two c past_one two) ((omega arith, omega arith), (omega arith, omega arith))
    | inr past_two ↦ elim (cases_lt c 65536) [
      | inl three ↦ rw (encode_three c past_two three) (three_bytes c past_two three is)
      | inr past_three ↦ rw (encode_four c past_three) (four_bytes c past_three (scalar_below c is))
    ]
  ]
]

-- the bytes are what one character is encoded as
abbrev IsCharacter : List ℕ → Type 0
IsCharacter bytes = (c : ℕ) × (scalar c ≡ true) × (encode c ≡ bytes)

character_of_two : (a b : ℕ) → 194 ≤ a → a ≤ 223 → 128 ≤ b → b ≤ 191 → IsCharacter (a ∷ b ∷ [])
character_of_two a b low high later last =
    let c : ℕ = (a - 192) * 64 + (b - 128) in
    let first : 192 + c / 64 ≡ a = omega arith in
    let second : 128 + c % 64 ≡ b = omega arith in
    let made = encode_two c (omega arith) (omega arith) in
    (c, low_scalar c (omega arith), cc (made, first, second))

character_of_three : (a b d c : ℕ) → c ≡ (a - 224) * 4096 + (b - 128) * 64 + (d - 128) → 224 ≤ a → a ≤ 239 → 128 ≤ b → b ≤ 191 → IsLater d → 2048 ≤ c → scalar c ≡ true → IsCharacter (a ∷ b ∷ d ∷ [])
character_of_three a b d c is low high later last third big ok =
    let e1 : 224 + c / 4096 ≡ a = omega arith in
    let e2 : 128 + (c / 64) % 64 ≡ b = omega arith in
    let e3 : 128 + c % 64 ≡ d = omega arith in
    let made = encode_three c big (omega arith) in
    (c, ok, cc (made, e1, e2, e3))

character_of_four : (a b d e c : ℕ) → c ≡ (a - 240) * 262144 + (b - 128) * 4096 + (d - 128) * 64 + (e - 128) → 240 ≤ a → 128 ≤ b → b ≤ 191 → IsLater d → IsLater e → 65536 ≤ c → c < 1114112 → IsCharacter (a ∷ b ∷ d ∷ e ∷ [])
character_of_four a b d e c is low later last third fourth big small =
    let e1 : 240 + c / 262144 ≡ a = omega arith in
    let e2 : 128 + (c / 4096) % 64 ≡ b = omega arith in
    let e3 : 128 + (c / 64) % 64 ≡ d = omega arith in
    let e4 : 128 + c % 64 ≡ e = omega arith in
    let made = encode_four c big in
    (c, high_scalar c (omega arith) small, cc (made, e1, e2, e3, e4))

abbrev code_of_three : ℕ → ℕ → ℕ → ℕ
code_of_three a b d = (a - 224) * 4096 + (b - 128) * 64 + (d - 128)

three_read : (a b d : ℕ) → BeginsThree a b → IsLater d → IsCharacter (a ∷ b ∷ d ∷ [])
three_read a b d begins third = elim begins [
  | inl h ↦ character_of_three a b d (code_of_three a b d) refl (omega arith) (omega arith) (omega arith) (omega arith) third (omega arith) (low_scalar (code_of_three a b d) (omega arith))
  | inr (inl h) ↦ character_of_three a b d (code_of_three a b d) refl (omega arith) (omega arith) (omega arith) (omega arith) third (omega arith) (low_scalar (code_of_three a b d) (omega arith))
  | inr (inr (inl h)) ↦ character_of_three a b d (code_of_three a b d) refl (omega arith) (omega arith) (omega arith) (omega arith) third (omega arith) (low_scalar (code_of_three a b d) (omega arith))
  | inr (inr (inr h)) ↦ character_of_three a b d (code_of_three a b d) refl (omega arith) (omega arith) (omega arith) (omega arith) third (omega arith) (high_scalar (code_of_three a b d) (omega arith) (omega arith))
]

abbrev code_of_four : ℕ → ℕ → ℕ → ℕ → ℕ
code_of_four a b d e = (a - 240) * 262144 + (b - 128) * 4096 + (d - 128) * 64 + (e - 128)

four_read : (a b d e : ℕ) → BeginsFour a b → IsLater d → IsLater e → IsCharacter (a ∷ b ∷ d ∷ e ∷ [])
four_read a b d e begins third fourth = elim begins [
  | inl h ↦ character_of_four a b d e (code_of_four a b d e) refl (omega arith) (omega arith) (omega arith) third fourth (omega arith) (omega arith)
  | inr (inl h) ↦ character_of_four a b d e (code_of_four a b d e) refl (omega arith) (omega arith) (omega arith) third fourth (omega arith) (omega arith)
  | inr (inr h) ↦ character_of_four a b d e (code_of_four a b d e) refl (omega arith) (omega arith) (omega arith) third fourth (omega arith) (omega arith)
]

-- a sequence is what one character is encoded as
character_of : (bytes : List ℕ) → IsSequence bytes → IsCharacter bytes
character_of [] is = absurd is
character_of (a ∷ []) is = (a, low_scalar a (omega (arith, is)), encode_ascii a is)
character_of (a ∷ b ∷ []) is = character_of_two a b is.0.0 is.0.1 is.1.0 is.1.1
character_of (a ∷ b ∷ c ∷ []) is = three_read a b c is.0 is.1
character_of (a ∷ b ∷ c ∷ d ∷ []) is = four_read a b c d is.0 is.1 is.2
character_of (a ∷ b ∷ c ∷ d ∷ e ∷ more) is = absurd is

sequence_utf8 : (bytes : List ℕ) → IsSequence bytes → IsUtf8 bytes
sequence_utf8 bytes is = let found = character_of bytes is in subst IsUtf8 found.2 (IsUtf8-encode found.0 found.1)

encodes_sequences : (cs : List ℕ) → scalars cs ≡ true → Utf8 (encodes cs)
encodes_sequences [] is = ([], tt, refl)
encodes_sequences (c ∷ cs) is =
    let parts = and_parts _ _ is in
    let rest = encodes_sequences cs parts.1 in
    (encode c ∷ rest.0, (sequence_of c parts.0, rest.1), ap (λ l. encode c ++ l) rest.2)

joined_utf8 : (sequences : List (List ℕ)) → AllByRecursion IsSequence sequences → IsUtf8 (concat sequences)
joined_utf8 [] all = IsUtf8-nil
joined_utf8 (bytes ∷ more) all = IsUtf8-append bytes (concat more) (sequence_utf8 bytes all.0) (joined_utf8 more all.1)

-- bytes that are the UTF-8 of characters are sequences
pub Utf8-from_IsUtf8 : (bytes : List ℕ) → IsUtf8 bytes → Utf8 bytes
Utf8-from_IsUtf8 bytes is = subst Utf8 is.1.1 (encodes_sequences is.0 is.1.0)

-- and sequences are the UTF-8 of characters
pub IsUtf8-from_Utf8 : (bytes : List ℕ) → Utf8 bytes → IsUtf8 bytes
IsUtf8-from_Utf8 bytes is = subst IsUtf8 is.2 (joined_utf8 is.0 is.1)

some_length : (bytes : List ℕ) → IsSequence bytes → 0 < length bytes
some_length [] is = absurd is
some_length (a ∷ more) is = omega arith

-- the first bytes that are a sequence more
take_past : (bytes sequence rest : List ℕ) (n : ℕ) → drop n bytes ≡ sequence ++ rest → take (n + length sequence) bytes ≡ take n bytes ++ sequence
take_past bytes sequence rest n is =
    take-add n (length sequence) bytes ∙ ap (λ l. take n bytes ++ take (length sequence) l) is ∙ ap (λ l. take n bytes ++ l) (take-append_seam sequence rest)

-- the longest front that is UTF-8 ends where the bytes stop being sequences
pub StopsAt-from_IsValidUpTo : (bytes : List ℕ) (n : ℕ) → IsValidUpTo bytes n → StopsAt bytes n
StopsAt-from_IsValidUpTo bytes n valid = record {
  inside = valid.short;
  before = Utf8-from_IsUtf8 (take n bytes) valid.front;
  broken = λ sequence rest is same.
      let past : n < n + length sequence = omega (arith, some_length sequence is) in
      valid.longest (n + length sequence) past
      (subst IsUtf8 (sym (take_past bytes sequence rest n same)) (IsUtf8-append (take n bytes) sequence valid.front (sequence_utf8 sequence is)));
  longest = λ more past is. valid.longest more past (IsUtf8-from_Utf8 (take more bytes) is);
}
