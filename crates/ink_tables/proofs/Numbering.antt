-- The first place of a list that passes a test.
use Rattle.std.proofs.Common.{◌≡◌, ℕ, ◌+◌, suc, List, [], ◌∷◌, ◌++◌, map, length, Bool, true, false, cond, Option, Some, None, refl, sym, ap, ◌∙◌, arith, add-zero, ◌||◌, if◌then◌else◌}
use Rattle.std.specs.List.{position, position_from, list_any}
use Rattle.std.proofs.lemmas.Iterator.Adapters.{position_from-zero}
use Rattle.std.proofs.lemmas.List.{map-append, length-map}

-- tests of what a function makes
position_map : {A B : Type 0} (p : B → Bool) (f : A → B) (at : ℕ) (xs : List A) → position_from p at (map f xs) ≡ position_from (λ x. p (f x)) at xs
position_map p f at [] = refl
position_map p f at (x ∷ xs) = ap (λ rest. cond (p (f x)) (Some at) rest) (position_map p f (at + 1) xs)

-- the place that a set finds
pub found_at : {A B : Type 0} (p : B → Bool) (f : A → B) (xs : List A) (found : Option ℕ) → found ≡ position (λ x. p (f x)) xs → found ≡ position_from p 0 (map f xs)
found_at p f xs found h = h ∙ position_from-zero (λ x. p (f x)) xs ∙ sym (position_map p f 0 xs)

not_yet : (b : Bool) (at : ℕ) (rest : Option ℕ) (any : Bool) → cond b (Some at) rest ≡ None → (rest ≡ None → any ≡ false) → (b || any) ≡ false
not_yet true at rest any h more = cc
not_yet false at rest any h more = more h

none_passes : {A : Type 0} (p : A → Bool) (at : ℕ) (xs : List A) → position_from p at xs ≡ None → list_any p xs ≡ false
none_passes p at [] h = refl
none_passes p at (x ∷ xs) h = not_yet (p x) at _ _ h (none_passes p (at + 1) xs)

found_now : (b : Bool) (at number : ℕ) (rest : Option ℕ) (any : Bool) → cond b (Some at) rest ≡ Some number → (rest ≡ Some number → any ≡ true) → (b || any) ≡ true
found_now true at number rest any h more = refl
found_now false at number rest any h more = more h

one_passes : {A : Type 0} (p : A → Bool) (at number : ℕ) (xs : List A) → position_from p at xs ≡ Some number → list_any p xs ≡ true
one_passes p at number [] h = cc
one_passes p at number (x ∷ xs) h = found_now (p x) at number _ _ h (one_passes p (at + 1) number xs)

pushed_now : (b : Bool) (at : ℕ) (rest more : Option ℕ) (last : ℕ) → cond b (Some at) rest ≡ None → (rest ≡ None → more ≡ Some last) → cond b (Some at) more ≡ Some last
pushed_now true at rest more last h next = cc
pushed_now false at rest more last h next = next h

-- a new one behind those that fail
pushed_at : {A : Type 0} (p : A → Bool) (at : ℕ) (xs : List A) (x : A) → position_from p at xs ≡ None → p x ≡ true → position_from p at (xs ++ x ∷ []) ≡ Some (at + length xs)
pushed_at p at [] x h t = ap (λ b. cond b (Some at) None) t ∙ ap Some (sym (add-zero at))
pushed_at p at (y ∷ ys) x h t =
    let last : at + 1 + length ys ≡ at + suc (length ys) = omega arith in
    pushed_now (p y) at _ _ _ h (λ e. pushed_at p (at + 1) ys x e t ∙ ap Some last)

-- what has a number stands there already
pub stays : {A : Type 0} (p : A → Bool) (xs ys : List A) (number : ℕ) → position_from p 0 xs ≡ Some number → xs ≡ (if list_any p xs then xs else ys)
stays p xs ys number h = ap (λ b. if b then xs else ys) (sym (one_passes p 0 number xs h))

-- what has none stands behind the others
pub grows : {A : Type 0} (p : A → Bool) (xs ys : List A) → position_from p 0 xs ≡ None → ys ≡ (if list_any p xs then xs else ys)
grows p xs ys h = ap (λ b. if b then xs else ys) (sym (none_passes p 0 xs h))

list_any_map : {A B : Type 0} (p : B → Bool) (f : A → B) (xs : List A) → list_any p (map f xs) ≡ list_any (λ x. p (f x)) xs
list_any_map p f [] = refl
list_any_map p f (x ∷ xs) = ap (λ b. p (f x) || b) (list_any_map p f xs)

-- a key that a set takes
pub record IsTaken {A B : Type 0} (p : B → Bool) (f : A → B) (xs ys : List A) (b : B) (number : ℕ) : Type 0 where
  pub grown : map f ys ≡ (if list_any p (map f xs) then map f xs else map f xs ++ b ∷ [])
  pub numbered : position_from p 0 (map f ys) ≡ Some number

pub taken : {A B : Type 0} (p : B → Bool) (f : A → B) (xs ys : List A) (x : A) (b : B) (number : ℕ) → p b ≡ true → f x ≡ b → number ≡ length xs →
    position_from p 0 (map f xs) ≡ None → ys ≡ (if list_any (λ y. p (f y)) xs then xs else xs ++ x ∷ []) → IsTaken p f xs ys b number
taken p f xs ys x b number self is last fresh h =
    let none : list_any (λ y. p (f y)) xs ≡ false = sym (list_any_map p f xs) ∙ none_passes p 0 (map f xs) fresh in
    let pushed : ys ≡ xs ++ x ∷ [] = h ∙ ap (λ c. if c then xs else xs ++ x ∷ []) none in
    let mapped : map f ys ≡ map f xs ++ b ∷ [] = ap (map f) pushed ∙ map-append f xs (x ∷ []) ∙ ap (λ c. map f xs ++ c ∷ []) is in
    let place : 0 + length (map f xs) ≡ number = omega (arith, length-map xs f, last) in
    record {
      grown = mapped ∙ grows p (map f xs) (map f xs ++ b ∷ []) fresh;
      numbered = ap (position_from p 0) mapped ∙ pushed_at p 0 (map f xs) b fresh self ∙ ap Some place;
    }

-- a key that a set takes as it is
pub record IsTakenItself {A : Type 0} (p : A → Bool) (xs ys : List A) (x : A) (number : ℕ) : Type 0 where
  pub grown : ys ≡ (if list_any p xs then xs else xs ++ x ∷ [])
  pub numbered : position_from p 0 ys ≡ Some number

pub taken_itself : {A : Type 0} (p : A → Bool) (xs ys : List A) (x : A) (number : ℕ) → p x ≡ true → number ≡ length xs →
    position_from p 0 xs ≡ None → ys ≡ (if list_any p xs then xs else xs ++ x ∷ []) → IsTakenItself p xs ys x number
taken_itself p xs ys x number self last fresh h =
    let pushed : ys ≡ xs ++ x ∷ [] = h ∙ ap (λ c. if c then xs else xs ++ x ∷ []) (none_passes p 0 xs fresh) in
    let place : 0 + length xs ≡ number = omega (arith, last) in
    record {
      grown = h;
      numbered = ap (position_from p 0) pushed ∙ pushed_at p 0 xs x fresh self ∙ ap Some place;
    }
