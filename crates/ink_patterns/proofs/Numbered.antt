-- Trees that are numbered one behind the other.
use Rattle.std.proofs.Common.{◌≡◌, ℕ, suc, List, [], ◌∷◌, ◌++◌, map, refl, sym, ap, ◌∙◌}
use Rattle.std.proofs.lemmas.List.{map-append}
use Rattle.ink_forms.specs.Trees.{Written, AndWritten, Pat, AndPat, OneField, AndField, written_list, pats, field_pats}
use Rattle.ink_forms.specs.Numbers.{number_written, number_written_list, number_pat, number_pats, number_field_pats}
use Rattle.ink_patterns.specs.Makes.{number_each, number_field}

-- one more behind them
module _ {X : Type 0} (f : X → ℕ → X × ℕ) (x : X) where
  pub each_more : (xs : List X) (n : ℕ) →
      (let q = number_each f xs n in (number_each f (xs ++ x ∷ []) n).0 ≡ q.0 ++ (f x q.1).0 ∷ [])
  each_more [] n = refl
  each_more (y ∷ ys) n = let r = f y n in ap (λ zs. r.0 ∷ zs) (each_more ys r.1)

  pub each_next : (xs : List X) (n : ℕ) → (let q = number_each f xs n in (number_each f (xs ++ x ∷ []) n).1 ≡ (f x q.1).1)
  each_next [] n = refl
  each_next (y ∷ ys) n = let r = f y n in each_next ys r.1

-- the number behind one more
pub next_more : {X : Type 0} (f : X → ℕ → X × ℕ) (t : X) (ts : List X) (n m k : ℕ) → m ≡ (number_each f ts n).1 → k ≡ (f t m).1 → k ≡ (number_each f (ts ++ t ∷ []) n).1
next_more f t ts n m k h i = i ∙ ap (λ l. (f t l).1) h ∙ sym (each_next f t ts n)

-- what is shown of what is made, one item more
module _ {X Y : Type 0} (f : X → ℕ → X × ℕ) (v w : Y → X) (t : X) (y : Y) where
  pub shown_more : (ts : List X) (ys : List Y) (n m : ℕ) → map v ys ≡ (number_each f ts n).0 → m ≡ (number_each f ts n).1 → w y ≡ (f t m).0 → map w ys ≡ map v ys →
      map w (ys ++ y ∷ []) ≡ (number_each f (ts ++ t ∷ []) n).0
  shown_more ts ys n m h i j k =
      let q = number_each f ts n in
      map-append w ys (y ∷ [])
      ∙ ap (λ zs. zs ++ w y ∷ []) (k ∙ h)
      ∙ ap (λ z. q.0 ++ z ∷ []) (j ∙ ap (λ l. (f t l).0) i)
      ∙ sym (each_more f t ts n)

-- lists of trees are numbered so
pub written_each : (ts : List Written) (n : ℕ) → (let q = number_each number_written ts n in (number_written_list (written_list ts) n).0 ≡ written_list q.0)
unfolding number_written
written_each [] n = refl
written_each (t ∷ ts) n = let r = number_written t n in ap (AndWritten r.0) (written_each ts r.1)

pub written_next : (ts : List Written) (n : ℕ) → (let q = number_each number_written ts n in (number_written_list (written_list ts) n).1 ≡ q.1)
unfolding number_written
written_next [] n = refl
written_next (t ∷ ts) n = let r = number_written t n in written_next ts r.1

pub pats_each : (ts : List Pat) (n : ℕ) → (let q = number_each number_pat ts n in (number_pats (pats ts) n).0 ≡ pats q.0)
unfolding number_pat
pats_each [] n = refl
pats_each (t ∷ ts) n = let r = number_pat t n in ap (AndPat r.0) (pats_each ts r.1)

pub pats_next : (ts : List Pat) (n : ℕ) → (let q = number_each number_pat ts n in (number_pats (pats ts) n).1 ≡ q.1)
unfolding number_pat
pats_next [] n = refl
pats_next (t ∷ ts) n = let r = number_pat t n in pats_next ts r.1

pub fields_each : (ts : List OneField) (n : ℕ) → (let q = number_each number_field ts n in (number_field_pats (field_pats ts) n).0 ≡ field_pats q.0)
unfolding number_pat
fields_each [] n = refl
fields_each (t ∷ ts) n = let r = number_pat t.pattern n in ap (AndField t.field r.0) (fields_each ts r.1)

pub fields_next : (ts : List OneField) (n : ℕ) → (let q = number_each number_field ts n in (number_field_pats (field_pats ts) n).1 ≡ q.1)
unfolding number_pat
fields_next [] n = refl
fields_next (t ∷ ts) n = let r = number_pat t.pattern n in fields_next ts r.1
