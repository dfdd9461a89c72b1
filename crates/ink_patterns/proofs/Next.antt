-- One turn of a loop over the nodes of a list.
use Rattle.std.proofs.Common.{◌≡◌, ℕ, ◌+◌, ◌<◌, List, [], ◌∷◌, ◌++◌, length, map, take, get_or, All, refl, sym, subst}
use Rattle.std.proofs.lemmas.List.{map_more}
use Rattle.ink_forms.specs.declared.arena.Arena.{Arena}
use Rattle.ink_forms.specs.declared.pattern.FieldPattern.{FieldPattern}
use Rattle.ink_forms.specs.Trees.{Written, Pat, OneField}
use Rattle.ink_forms.specs.Views as view
use Rattle.ink_forms.specs.Views.{Keeps}
use Rattle.ink_lexicon.specs.declared.surface.Surface.{Surface}
use Rattle.ink_patterns.specs.declared.pattern_form.FieldPart.{FieldPart}
use Rattle.ink_patterns.specs.Makes.{IsType, IsPat, AreTypes, ArePats, AreFields}
use Rattle.ink_patterns.specs.Types.{types_at, written_at}
use Rattle.ink_patterns.specs.Patterns.{patterns_at, pattern_at, field_at}
use Rattle.ink_patterns.proofs.Made.{types_more, pats_more, fields_more}

module _ (first old new : Arena) (keeps : Keeps old new) (x : Surface) (items : List ℕ) (i d : ℕ) (h : i < length items) where
  pub types_next : (ns ms : List ℕ) (n : ℕ) → All (view.IsBefore (view.count old)) ns → AreTypes (types_at x (take i items)) first old ns → IsType (written_at x (get_or items i d)) old new n → ms ≡ ns ++ n ∷ [] →
      AreTypes (types_at x (take (i + 1) items)) first new ms
  types_next ns ms n b a t e =
      subst (λ (ks : List ℕ). AreTypes (types_at x (take (i + 1) items)) first new ks) (sym e)
      (subst (λ (ts : List Written). AreTypes ts first new (ns ++ n ∷ [])) (sym (map_more (written_at x) items i d h)) (types_more first old new keeps (types_at x (take i items)) (written_at x (get_or items i d)) ns n b a t))

  pub pats_next : (ns ms : List ℕ) (n : ℕ) → All (view.IsBefore (view.count old)) ns → ArePats (patterns_at x (take i items)) first old ns → IsPat (pattern_at x (get_or items i d)) old new n → ms ≡ ns ++ n ∷ [] →
      ArePats (patterns_at x (take (i + 1) items)) first new ms
  pats_next ns ms n b a t e =
      subst (λ (ks : List ℕ). ArePats (patterns_at x (take (i + 1) items)) first new ks) (sym e)
      (subst (λ (ts : List Pat). ArePats ts first new (ns ++ n ∷ [])) (sym (map_more (pattern_at x) items i d h)) (pats_more first old new keeps (patterns_at x (take i items)) (pattern_at x (get_or items i d)) ns n b a t))

pub fields_next : (first old new : Arena) → Keeps old new → (x : Surface) (items : List FieldPart) (i : ℕ) (d : FieldPart) → i < length items → (xs ys : List FieldPattern) (n : ℕ) →
    All (view.IsFieldBefore (view.count old)) xs → AreFields (map (field_at x) (take i items)) first old xs → IsPat (pattern_at x (get_or items i d).part) old new n →
    ys ≡ xs ++ record { field = (get_or items i d).field; pattern = n } ∷ [] → AreFields (map (field_at x) (take (i + 1) items)) first new ys
fields_next first old new keeps x items i d h xs ys n b a t e =
    let item = get_or items i d in
    let y : FieldPattern = record { field = item.field; pattern = n } in
    subst (λ (ks : List FieldPattern). AreFields (map (field_at x) (take (i + 1) items)) first new ks) (sym e)
    (subst (λ (ts : List OneField). AreFields ts first new (xs ++ y ∷ [])) (sym (map_more (field_at x) items i d h)) (fields_more first old new keeps (map (field_at x) (take i items)) (field_at x item) xs y b a refl t))
