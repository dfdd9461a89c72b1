-- Where lines begin, and the line and the column of a byte.
use Rattle.std.proofs.Common.{◌≡◌, ℕ, ◌+◌, ◌-◌, ◌<◌, ◌≤◌, zero, suc, List, [], ◌∷◌, ◌++◌, length, take, drop, get_or, Bool, true, false, if◌then◌else◌, count_by, refl, sym, ap, subst, ◌∙◌, arith, add-zero, length-append, length-drop, length-take, zero-add}
use Rattle.std.specs.Prelude.{not}
use Rattle.std.specs.List.{AllByRecursion, suffix_len, after_last}
use Rattle.std.proofs.lemmas.List.{take-append-drop, get_or_append_left, get_or-append-add, append-nil}
use Rattle.std.proofs.lemmas.List.Elements.{All-from_recursion}
use Rattle.std.proofs.lemmas.List.Sums.{suffix_len-take_no, suffix_len-take_yes, suffix_len-le-length, count_by-le-length, sum_by-cons}
use Rattle.std.proofs.Math.Seq.{take-suc}
use Rattle.ink_text.specs.Place.{is_line_feed, line_behind, column_behind}
use Rattle.ink_tables.specs.Lines.{starts_behind, line_starts, IsSplitAt}

step_append : (is_feed : Bool) (at : ℕ) (starts more both : List ℕ) → both ≡ starts ++ more →
    (if is_feed then at ∷ both else both) ≡ (if is_feed then at ∷ starts else starts) ++ more
step_append true at starts more both h = ap (λ s. at ∷ s) h
step_append false at starts more both h = h

starts_append : (at : ℕ) (before behind : List ℕ) → starts_behind at (before ++ behind) ≡ starts_behind at before ++ starts_behind (at + length before) behind
starts_append at [] behind = ap (λ n. starts_behind n behind) (sym (add-zero at))
starts_append at (byte ∷ before) behind =
    let further : suc at + length before ≡ at + suc (length before) = omega arith in
    step_append (is_line_feed byte) (suc at) _ _ _ (starts_append (suc at) before behind ∙ ap (λ n. starts_behind (suc at) before ++ starts_behind n behind) further)

starts_append_first : (before behind : List ℕ) → starts_behind 0 (before ++ behind) ≡ starts_behind 0 before ++ starts_behind (length before) behind
starts_append_first before behind = starts_append 0 before behind ∙ ap (λ n. starts_behind 0 before ++ starts_behind n behind) (zero-add (length before))

step_count : (is_feed : Bool) (at feeds : ℕ) (starts : List ℕ) → length starts ≡ feeds →
    length (if is_feed then at ∷ starts else starts) ≡ (if is_feed then 1 else 0) + feeds
step_count true at feeds starts h = omega (arith, h)
step_count false at feeds starts h = omega (arith, h)

-- a start for each line feed
starts_count : (at : ℕ) (bytes : List ℕ) → length (starts_behind at bytes) ≡ count_by is_line_feed bytes
starts_count at [] = refl
starts_count at (byte ∷ bytes) = step_count (is_line_feed byte) (suc at) _ _ (starts_count (suc at) bytes) ∙ sym (sum_by-cons (λ b. if is_line_feed b then 1 else 0) byte bytes)

step_all : (P : ℕ → Type 0) (is_feed : Bool) (at : ℕ) (starts : List ℕ) → P at → AllByRecursion P starts → AllByRecursion P (if is_feed then at ∷ starts else starts)
step_all P true at starts h all = (h, all)
step_all P false at starts h all = all

at_most : (at most : ℕ) (bytes : List ℕ) → at + length bytes ≤ most → AllByRecursion (λ start. start ≤ most) (starts_behind at bytes)
at_most at most [] h = tt
at_most at most (byte ∷ bytes) h = step_all (λ start. start ≤ most) (is_line_feed byte) (suc at) _ (omega arith) (at_most (suc at) most bytes (omega arith))

above : (at most : ℕ) (bytes : List ℕ) → most ≤ at → AllByRecursion (λ start. most < start) (starts_behind at bytes)
above at most [] h = tt
above at most (byte ∷ bytes) h = step_all (λ start. most < start) (is_line_feed byte) (suc at) _ (omega arith) (above (suc at) most bytes (omega arith))

-- the last of a list
last_or : ℕ → List ℕ → ℕ
last_or other [] = other
last_or other (x ∷ xs) = last_or x xs

last_or-push : (other x : ℕ) (xs : List ℕ) → last_or other (xs ++ x ∷ []) ≡ x
unfolding last_or
last_or-push other x [] = refl
last_or-push other x (y ∷ xs) = last_or-push y x xs

last_or-at : (other d : ℕ) (xs : List ℕ) → get_or (other ∷ xs) (length xs) d ≡ last_or other xs
unfolding last_or
last_or-at other d [] = refl
last_or-at other d (x ∷ xs) = last_or-at x d xs

is_other : ℕ → Bool
is_other byte = not (is_line_feed byte)

-- the bytes since the last line begins
since : (feeds : Bool) (bytes : List ℕ) (k last column : ℕ) → k < length bytes → is_line_feed (get_or bytes k 0) ≡ feeds →
    last_or 0 (starts_behind 0 (take k bytes)) + suffix_len (λ b. not (is_line_feed b)) (take k bytes) ≡ k →
    last_or 0 (starts_behind 0 (take (suc k) bytes)) + suffix_len (λ b. not (is_line_feed b)) (take (suc k) bytes) ≡ suc k
unfolding last_or
since true bytes k last column inside is h =
    let here : suc k - 1 ≡ k = omega arith in
    let more : take (suc k) bytes ≡ take k bytes ++ get_or bytes k 0 ∷ [] = take-suc bytes k 0 inside in
    let starts : starts_behind 0 (take (suc k) bytes) ≡ starts_behind 0 (take k bytes) ++ suc (length (take k bytes)) ∷ [] =
    ap (starts_behind 0) more ∙ starts_append_first (take k bytes) (get_or bytes k 0 ∷ [])
    ∙ ap (λ (b : Bool). starts_behind 0 (take k bytes) ++ (if b then suc (length (take k bytes)) ∷ [] else [])) is in
    let last : last_or 0 (starts_behind 0 (take (suc k) bytes)) ≡ suc (length (take k bytes)) = ap (last_or 0) starts ∙ last_or-push 0 _ (starts_behind 0 (take k bytes)) in
    let none : suffix_len (λ b. not (is_line_feed b)) (take (suc k) bytes) ≡ 0 = suffix_len-take_no (λ b. not (is_line_feed b)) bytes (suc k) 0 (omega arith) (omega arith) (ap (λ n. not (is_line_feed (get_or bytes n 0))) here ∙ ap not is) in
    omega (arith, last, none, length-take k bytes)
since false bytes k last column inside is h =
    let here : suc k - 1 ≡ k = omega arith in
    let more : take (suc k) bytes ≡ take k bytes ++ get_or bytes k 0 ∷ [] = take-suc bytes k 0 inside in
    let starts : starts_behind 0 (take (suc k) bytes) ≡ starts_behind 0 (take k bytes) =
    ap (starts_behind 0) more ∙ starts_append_first (take k bytes) (get_or bytes k 0 ∷ [])
    ∙ ap (λ (b : Bool). starts_behind 0 (take k bytes) ++ (if b then suc (length (take k bytes)) ∷ [] else [])) is ∙ append-nil _ in
    let last : last_or 0 (starts_behind 0 (take (suc k) bytes)) ≡ last_or 0 (starts_behind 0 (take k bytes)) = ap (last_or 0) starts in
    let one : suffix_len (λ b. not (is_line_feed b)) (take (suc k) bytes) ≡ 1 + suffix_len (λ b. not (is_line_feed b)) (take k bytes) =
    suffix_len-take_yes (λ b. not (is_line_feed b)) bytes (suc k) 0 (omega arith) (omega arith) (ap (λ n. not (is_line_feed (get_or bytes n 0))) here ∙ ap not is)
    ∙ ap (λ n. 1 + suffix_len (λ b. not (is_line_feed b)) (take n bytes)) here in
    omega (arith, last, one, h)

last_start : (bytes : List ℕ) (k : ℕ) → k ≤ length bytes → last_or 0 (starts_behind 0 (take k bytes)) + suffix_len (λ b. not (is_line_feed b)) (take k bytes) ≡ k
unfolding last_or
last_start bytes zero h = refl
last_start bytes (suc k) h = since (is_line_feed (get_or bytes k 0)) bytes k 0 0 (omega arith) refl (last_start bytes k (omega arith))

split : (most : ℕ) (xs ys : List ℕ) → AllByRecursion (λ x. x ≤ most) xs → AllByRecursion (λ y. most < y) ys → IsSplitAt most (xs ++ ys) (length xs)
split most xs ys all none = record {
  within = omega (arith, length-append xs ys);
  up_to = λ i h. let g : get_or xs i 0 ≤ most = All-from_recursion (λ x. x ≤ most) xs all i 0 h in omega (arith, g, get_or_append_left xs ys 0 i h);
  above = λ i h g.
      let from : length xs + (i - length xs) ≡ i = omega arith in
      let k : most < get_or ys (i - length xs) 0 = All-from_recursion (λ y. most < y) ys none (i - length xs) 0 (omega (arith, length-append xs ys)) in
      omega (arith, k, ap (λ n. get_or (xs ++ ys) n 0) from, get_or-append-add xs ys (i - length xs) 0);
}

-- the lines up to a byte, and those behind it
pub lines_split : (source : List ℕ) (byte : ℕ) → byte ≤ length source → IsSplitAt byte (line_starts source) (line_behind (take byte source))
lines_split source byte h =
    let before = take byte source in
    let len : length before ≡ byte = omega (arith, length-take byte source) in
    let whole : line_starts source ≡ (0 ∷ starts_behind 0 before) ++ starts_behind byte (drop byte source) =
    ap line_starts (sym (take-append-drop byte source)) ∙ ap (λ s. 0 ∷ s) (starts_append_first before (drop byte source) ∙ ap (λ n. starts_behind 0 before ++ starts_behind n (drop byte source)) len) in
    let count : length (0 ∷ starts_behind 0 before) ≡ line_behind before = omega (arith, starts_count 0 before) in
    let front : AllByRecursion (λ start. start ≤ byte) (0 ∷ starts_behind 0 before) = (omega arith, at_most 0 byte before (omega arith)) in
    let made = split byte (0 ∷ starts_behind 0 before) (starts_behind byte (drop byte source)) front (above byte byte (drop byte source) (omega arith)) in
    let P : List ℕ → Type 0 = λ xs. IsSplitAt byte xs (line_behind before) in
    let Q : ℕ → Type 0 = λ n. IsSplitAt byte ((0 ∷ starts_behind 0 before) ++ starts_behind byte (drop byte source)) n in
    subst P (sym whole) (subst Q count made)

pub few_lines : (source : List ℕ) (byte : ℕ) → byte ≤ length source → line_behind (take byte source) ≤ byte + 1
few_lines source byte h = omega (arith, count_by-le-length is_line_feed (take byte source), length-take byte source)

-- the column, by the byte at which the line begins
pub column_is : (source : List ℕ) (byte line : ℕ) → byte ≤ length source → line ≡ line_behind (take byte source) →
    get_or (line_starts source) (line - 1) 0 + column_behind (take byte source) ≡ byte + 1
column_is source byte line h is =
    let before = take byte source in
    let starts = starts_behind 0 before in
    let more = starts_behind (0 + length before) (drop byte source) in
    let whole : line_starts source ≡ (0 ∷ starts) ++ more = ap line_starts (sym (take-append-drop byte source)) ∙ ap (λ s. 0 ∷ s) (starts_append 0 before (drop byte source)) in
    let index : line - 1 ≡ length starts = omega (arith, is, starts_count 0 before) in
    let start : get_or (line_starts source) (line - 1) 0 ≡ last_or 0 starts =
    ap (λ xs. get_or xs (line - 1) 0) whole ∙ ap (λ n. get_or ((0 ∷ starts) ++ more) n 0) index
    ∙ get_or_append_left (0 ∷ starts) more 0 (length starts) (omega arith) ∙ last_or-at 0 0 starts in
    let after : length (after_last is_line_feed before) ≡ suffix_len (λ b. not (is_line_feed b)) before =
    length-drop (length before - suffix_len (λ b. not (is_line_feed b)) before) before ∙ omega (arith, suffix_len-le-length (λ b. not (is_line_feed b)) before) in
    omega (arith, start, after, last_start source byte h)
