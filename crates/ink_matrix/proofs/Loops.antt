-- Loops that look for one of some items.
use Rattle.std.proofs.Common.{◌≡◌, ℕ, zero, suc, Option, ◌+◌, ◌<◌, Bool, true, false, ◌&&◌, ◌||◌, List, [], ◌∷◌, length, get_or, take, map, refl, sym, ap, ◌∙◌, subst, arith}
use Rattle.ink_matrix.specs.Rows.{Shape, Row, some_of, is_any, is_whole}

or_true : (a b : Bool) → a ≡ true → b || a ≡ true
or_true a true p = refl
or_true a false p = p

whole_step : (a b c : Bool) → a && b ≡ true → (b ≡ true → c ≡ true) → a && c ≡ true
whole_step true b c p f = f p
whole_step false b c p f = p

and_false : (a b : Bool) → b ≡ false → a && b ≡ false
and_false true b p = p
and_false false b p = refl

module _ {A : Type 0} {B : Type 0} where
  -- one is found
  pub some_found : (g : A → B) (f : B → Bool) (xs : List A) (i : ℕ) (x : A) → i < length xs → x ≡ get_or xs i x → f (g x) ≡ true → some_of f (map g xs) ≡ true
  some_found g f (y ∷ xs) zero x h e b = let s : x ≡ y = e in ap (λ r. f (g r) || some_of f (map g xs)) (sym s) ∙ ap (λ r. r || some_of f (map g xs)) b
  some_found g f (y ∷ xs) (suc i) x h e b = or_true (some_of f (map g xs)) (f (g y)) (some_found g f xs i x (omega arith) e b)
  some_found g f [] i x h e b = absurd (omega arith)

-- rows with `_` at each column
module _ (a : Option ℕ → List Shape) where
  pub whole_more : (xs : Row) (i : ℕ) (d : Option ℕ) → i < length xs → is_whole a (take i xs) ≡ true → some_of is_any (a (get_or xs i d)) ≡ true → is_whole a (take (i + 1) xs) ≡ true
  whole_more [] i d h p q = absurd (omega arith)
  whole_more (y ∷ xs) zero d h p q = ap (λ r. r && true) q
  whole_more (y ∷ xs) (suc i) d h p q =
      let e : suc (i + 1) ≡ suc i + 1 = omega arith in
      subst (λ n. is_whole a (take n (y ∷ xs)) ≡ true) e (whole_step (some_of is_any (a y)) (is_whole a (take i xs)) (is_whole a (take (i + 1) xs)) p (λ r. whole_more xs i d (omega arith) r q))

  pub whole_not : (xs : Row) (i : ℕ) (d : Option ℕ) → i < length xs → some_of is_any (a (get_or xs i d)) ≡ false → is_whole a xs ≡ false
  whole_not [] i d h q = absurd (omega arith)
  whole_not (y ∷ xs) zero d h q = ap (λ r. r && is_whole a xs) q
  whole_not (y ∷ xs) (suc i) d h q = and_false (some_of is_any (a y)) (is_whole a xs) (whole_not xs i d (omega arith) q)
