-- A node over what was made just before it.
use Rattle.std.proofs.Common.{◌≡◌, ℕ, ◌+◌, ◌<◌, suc, List, [], ◌∷◌, ◌++◌, map, All, refl, sym, ap, ◌∙◌, arith}
use Rattle.std.proofs.lemmas.List.Elements.{recursion_from_All}
use Rattle.ink_forms.specs.declared.arena.Arena.{Arena}
use Rattle.ink_forms.specs.declared.list.Children.{Children}
use Rattle.ink_forms.specs.declared.pattern.FieldPattern.{FieldPattern}
use Rattle.ink_forms.specs.declared.word.Made.{Made}
use Rattle.ink_forms.specs.declared.written.Prefix.{Prefix}
use Rattle.ink_forms.specs.Trees.{Spot, Written, WrittenList, Named, Prefixed, Tuple, Pat, Pats, FieldPats, Constructor, Either, Fields, OneField, written_list, pats, field_pats}
use Rattle.ink_forms.specs.Numbers.{number_written, number_written_list, number_pat, number_pats, number_field_pats, put}
use Rattle.ink_forms.specs.Built.{spot}
use Rattle.ink_forms.specs.Views as view
use Rattle.ink_forms.specs.Views.{Keeps}
use Rattle.ink_forms.proofs.Grown.{map_same}
use Rattle.ink_forms.proofs.Kept.{field_kept}
use Rattle.ink_patterns.specs.Makes.{here, number_each, number_field, IsType, IsPat, AreTypes, ArePats, AreFields, IsTypeOver, IsTypeOverAll, IsPatOverAll, IsPatOverFields}
use Rattle.ink_patterns.proofs.Numbered.{shown_more, next_more, written_each, written_next, pats_each, pats_next, fields_each, fields_next}

-- what is shown of these items stays
pub all_same : {X Y : Type 0} (v w : Y → X) (P : Y → Type 0) → ((y : Y) → P y → w y ≡ v y) → (ys : List Y) → All P ys → map w ys ≡ map v ys
all_same v w P h ys b = map_same w v P h ys (recursion_from_All P ys b)

-- one more of a list
module _ (first old new : Arena) (keeps : Keeps old new) where
  pub types_more : (ts : List Written) (t : Written) (ns : List ℕ) (n : ℕ) → All (view.IsBefore (view.count old)) ns → AreTypes ts first old ns → IsType t old new n →
      AreTypes (ts ++ t ∷ []) first new (ns ++ n ∷ [])
  types_more ts t ns n b h i = record {
    made = shown_more number_written (view.written old) (view.written new) t n ts ns (view.count first) (view.count old) h.made h.next i.made
        (all_same (view.written old) (view.written new) (view.IsBefore (view.count old)) keeps.trees.written ns b);
    next = next_more number_written t ts (view.count first) (view.count old) (view.count new) h.next i.next;
  }

  pub pats_more : (ts : List Pat) (t : Pat) (ns : List ℕ) (n : ℕ) → All (view.IsBefore (view.count old)) ns → ArePats ts first old ns → IsPat t old new n →
      ArePats (ts ++ t ∷ []) first new (ns ++ n ∷ [])
  pats_more ts t ns n b h i = record {
    made = shown_more number_pat (view.pat old) (view.pat new) t n ts ns (view.count first) (view.count old) h.made h.next i.made
        (all_same (view.pat old) (view.pat new) (view.IsBefore (view.count old)) keeps.trees.pat ns b);
    next = next_more number_pat t ts (view.count first) (view.count old) (view.count new) h.next i.next;
  }

  pub fields_more : (ts : List OneField) (t : OneField) (xs : List FieldPattern) (x : FieldPattern) → All (view.IsFieldBefore (view.count old)) xs → AreFields ts first old xs →
      x.field ≡ t.field → IsPat t.pattern old new x.pattern → AreFields (ts ++ t ∷ []) first new (xs ++ x ∷ [])
  fields_more ts t xs x b h e i = record {
    made = shown_more number_field (view.field old) (view.field new) t x ts xs (view.count first) (view.count old) h.made h.next
        (ap (λ f. record { field = f; pattern = view.pat new x.pattern }) e ∙ ap (λ p. record { field = t.field; pattern = p }) i.made)
        (all_same (view.field old) (view.field new) (view.IsFieldBefore (view.count old)) (field_kept old new keeps) xs b);
    next = next_more number_field t ts (view.count first) (view.count old) (view.count new) h.next i.next;
  }

-- a node over a list
module _ (old mid new : Arena) (n start : ℕ) (keeps : Keeps old mid) (same : view.count mid ≡ view.count old) (number : n ≡ view.count mid) (next : view.count new ≡ view.count mid + 1) where
  spot_made : (k : ℕ) → view.count old ≡ k → spot n start start ≡ put k (here start)
  spot_made k e = ap (λ m. spot m start start) (number ∙ same ∙ e)

  next_made : (k : ℕ) → view.count old ≡ k → view.count new ≡ suc k
  next_made k e = omega (arith, next, same, e)

  module _ (ns : List ℕ) (c : Children) (before : All (view.IsBefore (view.count old)) ns) (listed : view.list mid c ≡ ns) where
    types_over : (shape : Spot → WrittenList → Written) →
        ((s : Spot) (ts : WrittenList) (k : ℕ) → (let q = number_written_list ts k in (number_written (shape s ts) k).0 ≡ shape (put q.1 s) q.0)) →
        ((s : Spot) (ts : WrittenList) (k : ℕ) → (let q = number_written_list ts k in (number_written (shape s ts) k).1 ≡ suc q.1)) →
        view.written new n ≡ shape (spot n start start) (view.written_list mid (view.list mid c)) →
        IsTypeOverAll ns (λ ts. shape (here start) (written_list ts)) old new n
    types_over shape f g made ts first h =
        let k = view.count first in
        let q = number_each number_written ts k in
        let e : view.count old ≡ (number_written_list (written_list ts) k).1 = h.next ∙ sym (written_next ts k) in
        record {
          made = made
              ∙ ap (λ ms. shape (spot n start start) (view.written_list mid ms)) listed
              ∙ ap (λ us. shape (spot n start start) (written_list us)) (all_same (view.written old) (view.written mid) (view.IsBefore (view.count old)) keeps.trees.written ns before ∙ h.made)
              ∙ ap (shape (spot n start start)) (sym (written_each ts k))
              ∙ ap (λ s. shape s (number_written_list (written_list ts) k).0) (spot_made (number_written_list (written_list ts) k).1 e)
              ∙ sym (f (here start) (written_list ts) k);
          next = next_made (number_written_list (written_list ts) k).1 e ∙ sym (g (here start) (written_list ts) k);
        }

    pub named_made : (x : ℕ) → view.written new n ≡ Named (spot n start start) x (view.written_list mid (view.list mid c)) → IsTypeOverAll ns (λ ts. Named (here start) x (written_list ts)) old new n
    unfolding number_written
    named_made x = types_over (λ s ts. Named s x ts) (λ s ts k. refl) (λ s ts k. refl)

    pub tuple_made : view.written new n ≡ Tuple (spot n start start) (view.written_list mid (view.list mid c)) → IsTypeOverAll ns (λ ts. Tuple (here start) (written_list ts)) old new n
    unfolding number_written
    tuple_made = types_over (λ s ts. Tuple s ts) (λ s ts k. refl) (λ s ts k. refl)

    pats_over : (shape : Spot → Pats → Pat) →
        ((s : Spot) (ts : Pats) (k : ℕ) → (let q = number_pats ts k in (number_pat (shape s ts) k).0 ≡ shape (put q.1 s) q.0)) →
        ((s : Spot) (ts : Pats) (k : ℕ) → (let q = number_pats ts k in (number_pat (shape s ts) k).1 ≡ suc q.1)) →
        view.pat new n ≡ shape (spot n start start) (view.pats mid (view.list mid c)) →
        IsPatOverAll ns (λ ts. shape (here start) (pats ts)) old new n
    pats_over shape f g made ts first h =
        let k = view.count first in
        let e : view.count old ≡ (number_pats (pats ts) k).1 = h.next ∙ sym (pats_next ts k) in
        record {
          made = made
              ∙ ap (λ ms. shape (spot n start start) (view.pats mid ms)) listed
              ∙ ap (λ us. shape (spot n start start) (pats us)) (all_same (view.pat old) (view.pat mid) (view.IsBefore (view.count old)) keeps.trees.pat ns before ∙ h.made)
              ∙ ap (shape (spot n start start)) (sym (pats_each ts k))
              ∙ ap (λ s. shape s (number_pats (pats ts) k).0) (spot_made (number_pats (pats ts) k).1 e)
              ∙ sym (f (here start) (pats ts) k);
          next = next_made (number_pats (pats ts) k).1 e ∙ sym (g (here start) (pats ts) k);
        }

    pub constructor_made : (x : Made) → view.pat new n ≡ Constructor (spot n start start) x (view.pats mid (view.list mid c)) → IsPatOverAll ns (λ ts. Constructor (here start) x (pats ts)) old new n
    unfolding number_pat
    constructor_made x = pats_over (λ s ts. Constructor s x ts) (λ s ts k. refl) (λ s ts k. refl)

    pub either_made : view.pat new n ≡ Either (spot n start start) (view.pats mid (view.list mid c)) → IsPatOverAll ns (λ ts. Either (here start) (pats ts)) old new n
    unfolding number_pat
    either_made = pats_over (λ s ts. Either s ts) (λ s ts k. refl) (λ s ts k. refl)

  pub fields_made : (xs : List FieldPattern) (c : Children) → All (view.IsFieldBefore (view.count old)) xs → view.field_list mid c ≡ xs →
      view.pat new n ≡ Fields (spot n start start) (view.fields mid (view.field_list mid c)) → IsPatOverFields xs (λ ts. Fields (here start) (field_pats ts)) old new n
  unfolding number_pat
  fields_made xs c before listed made ts first h =
      let k = view.count first in
      let q = number_field_pats (field_pats ts) k in
      let e : view.count old ≡ q.1 = h.next ∙ sym (fields_next ts k) in
      record {
        made = made
            ∙ ap (λ ms. Fields (spot n start start) (view.fields mid ms)) listed
            ∙ ap (λ us. Fields (spot n start start) (field_pats us)) (all_same (view.field old) (view.field mid) (view.IsFieldBefore (view.count old)) (field_kept old mid keeps) xs before ∙ h.made)
            ∙ ap (Fields (spot n start start)) (sym (fields_each ts k))
            ∙ ap (λ s. Fields s q.0) (spot_made q.1 e);
        next = next_made q.1 e;
      }

-- a type behind a word
pub prefixed_made : (old new : Arena) (n start part : ℕ) (x : Prefix) → n ≡ view.count old → view.count new ≡ view.count old + 1 →
    view.written new n ≡ Prefixed (spot n start start) x (view.written old part) → IsTypeOver part (λ t. Prefixed (here start) x t) old new n
unfolding number_written
prefixed_made old new n start part x number next made t first h =
    let q = number_written t (view.count first) in
    record {
      made = made ∙ ap (λ m. Prefixed (spot m start start) x (view.written old part)) (number ∙ h.next) ∙ ap (Prefixed (put q.1 (here start)) x) h.made;
      next = let e : view.count old ≡ q.1 = h.next in omega (arith, next, e);
    }
