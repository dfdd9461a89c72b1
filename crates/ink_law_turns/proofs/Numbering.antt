-- Lists by number: what stands where after one was replaced or put behind the others.
use Rattle.std.proofs.Common.{◌≡◌, ◌≢◌, ℕ, zero, suc, ◌+◌, ◌-◌, false, eqb, cond, Option, None, Some, List, [], ◌∷◌, ◌++◌, length, map, set, refl, ap, sym, ◌∙◌, subst, inl, inr, ◌⊎◌, arith}
use Rattle.std.specs.Option.{option_map}
use Rattle.std.specs.List.{slice_get}
use Rattle.std.proofs.lemmas.List.{length-set, map-set}
use Rattle.std.proofs.lemmas.Bool.{cases_eq}
use Rattle.std.proofs.lemmas.Option.{slice_get-map}
use Rattle.ink_base.specs.Numbered.{numbered, set_numbered}

module _ {X : Type 0} where
  pub slice_get-set_same : (xs : List X) (i : ℕ) (x y : X) → slice_get xs i ≡ Some y → slice_get (set xs i x) i ≡ Some x
  slice_get-set_same [] i x y there = absurd (cc)
  slice_get-set_same (z ∷ xs) zero x y there = refl
  slice_get-set_same (z ∷ xs) (suc i) x y there = slice_get-set_same xs i x y there

  pub slice_get-set_other : (xs : List X) (i j : ℕ) (x : X) → j ≢ i → slice_get (set xs i x) j ≡ slice_get xs j
  slice_get-set_other [] i j x other = refl
  slice_get-set_other (z ∷ xs) zero zero x other = absurd (other refl)
  slice_get-set_other (z ∷ xs) zero (suc j) x other = refl
  slice_get-set_other (z ∷ xs) (suc i) zero x other = refl
  slice_get-set_other (z ∷ xs) (suc i) (suc j) x other = slice_get-set_other xs i j x (λ same. other (ap suc same))

  pub slice_get-append : (xs ys : List X) (i : ℕ) (y : X) → slice_get xs i ≡ Some y → slice_get (xs ++ ys) i ≡ Some y
  slice_get-append [] ys i y there = absurd (cc)
  slice_get-append (x ∷ xs) ys zero y there = there
  slice_get-append (x ∷ xs) ys (suc i) y there = slice_get-append xs ys i y there

  pub slice_get-append_last : (xs : List X) (y : X) → slice_get (xs ++ y ∷ []) (length xs) ≡ Some y
  slice_get-append_last [] y = refl
  slice_get-append_last (x ∷ xs) y = slice_get-append_last xs y

  pub numbered-suc : (xs : List X) (k : ℕ) → numbered xs (suc k) ≡ slice_get xs k
  numbered-suc xs k =
      let positive : eqb (suc k) 0 ≡ false = grind arith in
      let below : suc k - 1 ≡ k = omega arith in
      ap (λ b. cond b None (slice_get xs (suc k - 1))) positive ∙ ap (slice_get xs) below

  pub set_numbered-suc : (xs : List X) (k : ℕ) (x : X) → set_numbered xs (suc k) x ≡ set xs k x
  set_numbered-suc xs k x =
      let positive : eqb (suc k) 0 ≡ false = grind arith in
      let below : suc k - 1 ≡ k = omega arith in
      ap (λ b. cond b xs (set xs (suc k - 1) x)) positive ∙ ap (λ i. set xs i x) below

  -- the one that was replaced is the new one
  pub numbered-set_same : (xs : List X) (number : ℕ) (x y : X) → numbered xs number ≡ Some y → numbered (set_numbered xs number x) number ≡ Some x
  numbered-set_same xs zero x y there = absurd (cc)
  numbered-set_same xs (suc k) x y there =
      ap (λ zs. numbered zs (suc k)) (set_numbered-suc xs k x)
      ∙ numbered-suc (set xs k x) k
      ∙ slice_get-set_same xs k x y (sym (numbered-suc xs k) ∙ there)

  -- and all others stay
  pub numbered-set_other : (xs : List X) (number other : ℕ) (x : X) → other ≢ number → numbered (set_numbered xs number x) other ≡ numbered xs other
  numbered-set_other xs zero other x differ = refl
  numbered-set_other xs (suc k) zero x differ = refl
  numbered-set_other xs (suc k) (suc j) x differ =
      ap (λ zs. numbered zs (suc j)) (set_numbered-suc xs k x)
      ∙ numbered-suc (set xs k x) j
      ∙ slice_get-set_other xs k j x (λ same. differ (ap suc same))
      ∙ sym (numbered-suc xs j)

  -- those that are there keep their numbers where more are made
  pub numbered-append : (xs ys : List X) (number : ℕ) (y : X) → numbered xs number ≡ Some y → numbered (xs ++ ys) number ≡ Some y
  numbered-append xs ys zero y there = absurd (cc)
  numbered-append xs ys (suc k) y there = numbered-suc (xs ++ ys) k ∙ slice_get-append xs ys k y (sym (numbered-suc xs k) ∙ there)

  -- the next one that is made has the next number
  pub numbered-append_last : (xs : List X) (y : X) → numbered (xs ++ y ∷ []) (length xs + 1) ≡ Some y
  numbered-append_last xs y =
      let next : length xs + 1 ≡ suc (length xs) = omega arith in
      ap (numbered (xs ++ y ∷ [])) next ∙ numbered-suc (xs ++ y ∷ []) (length xs) ∙ slice_get-append_last xs y

pub none_some : {X : Type 0} (x : X) → None ≡ Some x → ⊥
none_some x e = cc

pub some_is : {X : Type 0} (x y : X) → Some x ≡ Some y → x ≡ y
some_is x y e = cc

module _ {X : Type 0} where
  pub length-set_numbered : (xs : List X) (number : ℕ) (x : X) → length (set_numbered xs number x) ≡ length xs
  length-set_numbered xs zero x = refl
  length-set_numbered xs (suc k) x = ap length (set_numbered-suc xs k x) ∙ length-set xs k x

  -- the one that was replaced is the new one, whatever stood there
  pub numbered-set_found : (xs : List X) (number : ℕ) (x y : X) → numbered (set_numbered xs number x) number ≡ Some y → y ≡ x
  numbered-set_found xs zero x y there = absurd (none_some y there)
  numbered-set_found xs (suc k) x y there = set_found xs k x y (sym (numbered-suc (set xs k x) k) ∙ (ap (λ zs. numbered zs (suc k)) (sym (set_numbered-suc xs k x)) ∙ there))
    where
      set_found : (xs : List X) (i : ℕ) (x y : X) → slice_get (set xs i x) i ≡ Some y → y ≡ x
      set_found [] i x y there = absurd (none_some y there)
      set_found (z ∷ xs) zero x y there = sym (some_is x y there)
      set_found (z ∷ xs) (suc i) x y there = set_found xs i x y there

  slice_get-append_cases : (xs : List X) (y z : X) (i : ℕ) → slice_get (xs ++ y ∷ []) i ≡ Some z → (slice_get xs i ≡ Some z) ⊎ ((i ≡ length xs) × (y ≡ z))
  slice_get-append_cases [] y z zero there = inr (refl, some_is y z there)
  slice_get-append_cases [] y z (suc i) there = absurd (none_some z there)
  slice_get-append_cases (x ∷ xs) y z zero there = inl there
  slice_get-append_cases (x ∷ xs) y z (suc i) there = elim (slice_get-append_cases xs y z i there) [ inl h ↦ inl h | inr h ↦ inr (ap suc h.0, h.1) ]

  -- of one more, each is one of those before, or the new one
  pub numbered-append_cases : (xs : List X) (y z : X) (number : ℕ) → numbered (xs ++ y ∷ []) number ≡ Some z → (numbered xs number ≡ Some z) ⊎ ((number ≡ length xs + 1) × (y ≡ z))
  numbered-append_cases xs y z zero there = absurd (none_some z there)
  numbered-append_cases xs y z (suc k) there =
      elim (slice_get-append_cases xs y z k (sym (numbered-suc (xs ++ y ∷ []) k) ∙ there)) [
        | inl h ↦ inl (numbered-suc xs k ∙ h)
        | inr h ↦ inr (let e : suc k ≡ length xs + 1 = omega (arith, h.0) in e, h.1)
      ]

pub numbered-map : {X Y : Type 0} (f : X → Y) (xs : List X) (number : ℕ) → numbered (map f xs) number ≡ option_map f (numbered xs number)
numbered-map f xs zero = refl
numbered-map f xs (suc k) = numbered-suc (map f xs) k ∙ (slice_get-map f xs k ∙ ap (option_map f) (sym (numbered-suc xs k)))

-- a fact of two lists at one number, where each has one new thing at a number
pub at_set_both : {X Y : Type 0} (F : Option X → Option Y → Type 0) (xs : List X) (ys : List Y) (number other : ℕ) (x x' : X) (y y' : Y) → numbered xs number ≡ Some x' → numbered ys number ≡ Some y' → (other ≡ number → F (Some x) (Some y)) → (other ≢ number → F (numbered xs other) (numbered ys other)) → F (numbered (set_numbered xs number x) other) (numbered (set_numbered ys number y) other)
at_set_both {X} {Y} F xs ys number other x x' y y' a b same differ =
    elim (cases_eq other number) [
      | inl e ↦ subst (λ (i : ℕ). F (numbered (set_numbered xs number x) i) (numbered (set_numbered ys number y) i)) (sym e)
          (subst (λ (o : Option X). F o (numbered (set_numbered ys number y) number)) (sym (numbered-set_same xs number x x' a))
          (subst (λ (o : Option Y). F (Some x) o) (sym (numbered-set_same ys number y y' b)) (same e)))
      | inr n ↦ subst (λ (o : Option X). F o (numbered (set_numbered ys number y) other)) (sym (numbered-set_other xs number other x n))
          (subst (λ (o : Option Y). F (numbered xs other) o) (sym (numbered-set_other ys number other y n)) (differ n))
    ]

-- of lists of one length, one has a thing where the other has one
pub numbered_level : {X Y : Type 0} (xs : List X) (ys : List Y) (number : ℕ) (x : X) → length xs ≡ length ys → numbered xs number ≡ Some x → (y : Y) × (numbered ys number ≡ Some y)
numbered_level xs ys zero x level there = absurd (none_some x there)
numbered_level {X} {Y} xs ys (suc k) x level there =
    let y = at xs ys k x level (sym (numbered-suc xs k) ∙ there) in
    (y.0, numbered-suc ys k ∙ y.1)
  where
    at : (xs : List X) (ys : List Y) (i : ℕ) (x : X) → length xs ≡ length ys → slice_get xs i ≡ Some x → (y : Y) × (slice_get ys i ≡ Some y)
    at [] ys i x level there = absurd (none_some x there)
    at (a ∷ xs) [] i x level there = absurd (omega (arith, level))
    at (a ∷ xs) (b ∷ ys) zero x level there = (b, refl)
    at (a ∷ xs) (b ∷ ys) (suc i) x level there = at xs ys i x (omega (arith, level)) there

pub set_numbered-same : {X : Type 0} (xs : List X) (number : ℕ) (x : X) → numbered xs number ≡ Some x → set_numbered xs number x ≡ xs
set_numbered-same xs zero x there = refl
set_numbered-same {X} xs (suc k) x there = set_numbered-suc xs k x ∙ at xs k x (sym (numbered-suc xs k) ∙ there)
  where
    at : (xs : List X) (i : ℕ) (x : X) → slice_get xs i ≡ Some x → set xs i x ≡ xs
    at [] i x there = absurd (none_some x there)
    at (y ∷ ys) zero x there = ap (λ z. z ∷ ys) (sym (some_is y x there))
    at (y ∷ ys) (suc i) x there = ap (λ zs. y ∷ zs) (at ys i x there)

pub map_set_numbered : {X Y : Type 0} (f : X → Y) (xs : List X) (number : ℕ) (x : X) → map f (set_numbered xs number x) ≡ set_numbered (map f xs) number (f x)
map_set_numbered f xs zero x = refl
map_set_numbered f xs (suc k) x = ap (map f) (set_numbered-suc xs k x) ∙ (map-set f xs k x ∙ sym (set_numbered-suc (map f xs) k (f x)))
