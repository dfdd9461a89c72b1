-- How far a part of a text runs.
use Rattle.std.proofs.Common.{◌≡◌, ℕ, zero, suc, ◌+◌, ◌≤◌, Bool, true, false, cond, ◌||◌, ◌==◌, List, [], ◌∷◌, length, take, drop, refl, arith, sym, ap, ◌∙◌, subst}
use Rattle.ink_tokens.specs.Bytes.{is_escaped}
use Rattle.ink_tokens.specs.Part.{part_length, begins_opening}
use Rattle.ink_tokens.proofs.Choices.{chosen-keeps, one_more, two_more}

-- a part is within the bytes
pub part-within : (quote : ℕ) (bytes : List ℕ) → part_length quote bytes ≤ length bytes
unfolding part_length
part-within quote [] = omega arith
part-within quote (last ∷ []) = chosen-keeps (λ n. n ≤ 1) _ 0 1 (omega arith) (omega arith)
part-within quote (byte ∷ next ∷ rest) =
    let one = part-within quote rest in
    let other = part-within quote (next ∷ rest) in
    chosen-keeps (λ n. n ≤ length (byte ∷ next ∷ rest)) (byte == quote || begins_opening (byte ∷ next ∷ rest)) 0 _ (omega arith)
    (chosen-keeps (λ n. n ≤ length (byte ∷ next ∷ rest)) (byte == 92) _ (1 + part_length quote (next ∷ rest))
    (chosen-keeps (λ n. n ≤ length (byte ∷ next ∷ rest)) (is_escaped next) (2 + part_length quote rest) 0 (omega (arith, one)) (omega arith))
    (omega (arith, other)))

-- behind a part no part stands
abbrev Stops : ℕ → List ℕ → ℕ → Type 0
Stops quote bytes n = part_length quote (drop n bytes) ≡ 0

-- a byte that is no unit
none-chosen : (quote : ℕ) (bytes : List ℕ) (b : Bool) (n : ℕ) → (b ≡ true → Stops quote bytes 0) → (b ≡ false → Stops quote bytes n) → Stops quote bytes (cond b 0 n)
none-chosen quote bytes true n first second = first refl
none-chosen quote bytes false n first second = second refl

either-chosen : (quote : ℕ) (bytes : List ℕ) (b : Bool) (m n : ℕ) → (b ≡ true → Stops quote bytes m) → (b ≡ false → Stops quote bytes n) → Stops quote bytes (cond b m n)
either-chosen quote bytes true m n first second = first refl
either-chosen quote bytes false m n first second = second refl

-- where a test passes, its choice
cond-true : (b : Bool) (m n : ℕ) → b ≡ true → cond b m n ≡ m
cond-true true m n is = refl
cond-true false m n is = cc

cond-false : (b : Bool) (m n : ℕ) → b ≡ false → cond b m n ≡ n
cond-false true m n is = cc
cond-false false m n is = refl

pub part-stops : (quote : ℕ) (bytes : List ℕ) → part_length quote (drop (part_length quote bytes) bytes) ≡ 0
unfolding part_length
part-stops quote [] = refl
part-stops quote (last ∷ []) =
    either-chosen quote (last ∷ []) (last == quote || last == 92) 0 1 (λ is. cond-true _ 0 1 is) (λ is. refl)
part-stops quote (byte ∷ next ∷ rest) =
    let bytes = byte ∷ next ∷ rest in
    either-chosen quote bytes (byte == quote || begins_opening bytes) 0 _ (λ is. cond-true _ 0 _ is)
    (λ plain. either-chosen quote bytes (byte == 92) _ (1 + part_length quote (next ∷ rest))
    (λ escape. either-chosen quote bytes (is_escaped next) (2 + part_length quote rest) 0
    (λ known. subst (λ n. part_length quote (drop n bytes) ≡ 0) (two_more (part_length quote rest)) (part-stops quote rest))
    (λ unknown. cond-false _ 0 _ plain ∙ cond-true (byte == 92) _ _ escape ∙ cond-false (is_escaped next) _ 0 unknown))
    (λ other. subst (λ n. part_length quote (drop n bytes) ≡ 0) (one_more (part_length quote (next ∷ rest))) (part-stops quote (next ∷ rest))))

-- what is chosen by a test
chosen-so : (P : ℕ → Type 0) (b : Bool) (m n : ℕ) → (b ≡ true → P m) → (b ≡ false → P n) → P (cond b m n)
chosen-so P true m n first second = first refl
chosen-so P false m n first second = second refl

-- one of two tests fails
first-fails : (a b : Bool) → (a || b) ≡ false → a ≡ false
first-fails true b is = is
first-fails false b is = refl

neither : (a b : Bool) → a ≡ false → b ≡ false → (a || b) ≡ false
neither true b first second = first
neither false b first second = second

-- it is a part alone
abbrev Alone : ℕ → List ℕ → ℕ → Type 0
Alone quote bytes n = part_length quote (take n bytes) ≡ n

-- a character before a part
before-alone : (quote byte next k : ℕ) (rest : List ℕ) → (byte == quote || begins_opening (byte ∷ next ∷ rest)) ≡ false → (byte == 92) ≡ false →
    Alone quote (next ∷ rest) k → Alone quote (byte ∷ next ∷ rest) (suc k)
unfolding part_length
before-alone quote byte next zero rest plain other alone =
    cond-false _ 0 1 (neither (byte == quote) (byte == 92) (first-fails (byte == quote) _ plain) other)
before-alone quote byte next (suc k) rest plain other alone =
    cond-false _ 0 _ plain ∙ cond-false (byte == 92) _ _ other ∙ ap (λ n. 1 + n) alone ∙ sym (one_more (suc k))

-- an escape before a part
escape-alone : (quote byte next k : ℕ) (rest : List ℕ) → (byte == quote || begins_opening (byte ∷ next ∷ rest)) ≡ false → (byte == 92) ≡ true →
    is_escaped next ≡ true → Alone quote rest k → Alone quote (byte ∷ next ∷ rest) (suc (suc k))
unfolding part_length
escape-alone quote byte next k rest plain escape known alone =
    cond-false _ 0 _ plain ∙ cond-true (byte == 92) _ _ escape ∙ cond-true (is_escaped next) _ 0 known
    ∙ ap (λ n. 2 + n) alone ∙ sym (two_more k)

-- a part alone is a part
pub part-alone : (quote : ℕ) (bytes : List ℕ) → part_length quote (take (part_length quote bytes) bytes) ≡ part_length quote bytes
unfolding part_length
part-alone quote [] = refl
part-alone quote (last ∷ []) =
    chosen-so (Alone quote (last ∷ [])) (last == quote || last == 92) 0 1 (λ is. refl) (λ is. cond-false _ 0 1 is)
part-alone quote (byte ∷ next ∷ rest) =
    let bytes = byte ∷ next ∷ rest in
    chosen-so (Alone quote bytes) (byte == quote || begins_opening bytes) 0 _ (λ is. refl)
    (λ plain. chosen-so (Alone quote bytes) (byte == 92) _ (1 + part_length quote (next ∷ rest))
    (λ escape. chosen-so (Alone quote bytes) (is_escaped next) (2 + part_length quote rest) 0
    (λ known. subst (Alone quote bytes) (two_more (part_length quote rest))
    (escape-alone quote byte next (part_length quote rest) rest plain escape known (part-alone quote rest)))
    (λ unknown. refl))
    (λ other. subst (Alone quote bytes) (one_more (part_length quote (next ∷ rest)))
    (before-alone quote byte next (part_length quote (next ∷ rest)) rest plain other (part-alone quote (next ∷ rest)))))
