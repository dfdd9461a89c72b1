-- Types that are the same, and types that have one number.
use Rattle.std.proofs.Common.{◌≡◌, ◌↔◌, ℕ, List, Bool, true, false, Option, Some, None, refl, sym, ap, ◌∙◌, eqb, eq-eqb, ◌&&◌, inl, inr}
use Rattle.std.specs.Prelude.{slice_get}
use Rattle.std.proofs.lemmas.Bool.{eqb-true, cases_Bool, false_from_ne_true}
use Rattle.ink_types.specs.declared.kind.TheConstants.{NEVER}
use Rattle.ink_types.specs.declared.term.Key.{Key}
use Rattle.ink_types.specs.TypeTerms.{TypeTerm, TypeTerms, Parameter, Of, Ref, Mut, Uni, NoTerms, AndTerm, never, same_type, same_types, is_never, is_empty}
use Rattle.ink_types.specs.Table.{Item, IsType, IsList, type_or, type_in, items_of, HoldsType, IsTable}

both : (a b : Bool) → (a && b) ≡ true → (a ≡ true) × (b ≡ true)
both true b e = (refl, e)
both false b e = cc

and_both : (a b : Bool) → a ≡ true → b ≡ true → (a && b) ≡ true
and_both true b g h = h
and_both false b g h = cc

mutual
  unfolding same_type same_types

  pub same_true : (t u : TypeTerm) → same_type t u ≡ true → t ≡ u
  same_true (Parameter m) (Parameter n) e = ap Parameter (eqb-true m n e)
  same_true (Of k ts) (Of j us) e =
      let p = both (eqb k j) (same_types ts us) e in
      let q : k ≡ j = eqb-true k j p.0 in
      let r : ts ≡ us = same_all_true ts us p.1 in
      cc
  same_true (Ref t) (Ref u) e = ap Ref (same_true t u e)
  same_true (Mut t) (Mut u) e = ap Mut (same_true t u e)
  same_true (Uni t) (Uni u) e = ap Uni (same_true t u e)
  same_true _ _ e = cc

  same_all_true : (ts us : TypeTerms) → same_types ts us ≡ true → ts ≡ us
  same_all_true NoTerms NoTerms e = refl
  same_all_true (AndTerm t ts) (AndTerm u us) e =
      let p = both (same_type t u) (same_types ts us) e in
      let q : t ≡ u = same_true t u p.0 in
      let r : ts ≡ us = same_all_true ts us p.1 in
      cc
  same_all_true _ _ e = cc

mutual
  unfolding same_type same_types

  pub same_refl : (t : TypeTerm) → same_type t t ≡ true
  same_refl (Parameter n) = eq-eqb n n refl
  same_refl (Of k ts) = and_both (eqb k k) (same_types ts ts) (eq-eqb k k refl) (same_all_refl ts)
  same_refl (Ref t) = same_refl t
  same_refl (Mut t) = same_refl t
  same_refl (Uni t) = same_refl t

  same_all_refl : (ts : TypeTerms) → same_types ts ts ≡ true
  same_all_refl NoTerms = refl
  same_all_refl (AndTerm t ts) = and_both (same_type t t) (same_types ts ts) (same_refl t) (same_all_refl ts)

-- the test tells whether two types are equal
pub same_tells : (b : Bool) (t u : TypeTerm) → b ≡ same_type t u → (b ≡ true) ↔ (t ≡ u)
same_tells b t u e = (λ h. same_true t u (sym e ∙ h), λ h. e ∙ ap (same_type t) (sym h) ∙ same_refl t)

no_terms : (ts : TypeTerms) → is_empty ts ≡ true → ts ≡ NoTerms
no_terms NoTerms e = refl
no_terms (AndTerm t ts) e = cc

never_is : (t : TypeTerm) → is_never t ≡ true → t ≡ never
never_is (Of k ts) e =
    let p = both (eqb k NEVER) (is_empty ts) e in
    let q : k ≡ NEVER = eqb-true k NEVER p.0 in
    let r : ts ≡ NoTerms = no_terms ts p.1 in
    cc
never_is (Parameter n) e = cc
never_is (Ref t) e = cc
never_is (Mut t) e = cc
never_is (Uni t) e = cc

-- a type that isn't Never stands at its number
stands_there : (o : Option Item) → is_never (type_or o) ≡ false → o ≡ Some (IsType (type_or o))
stands_there (Some (IsType t)) e = refl
stands_there (Some (IsList ts)) e = cc
stands_there None e = cc

-- a type that is there has one number
pub one_number : (ks : List Key) (xs : List Item) (t u : ℕ) → items_of ks ≡ xs → IsTable ks → HoldsType xs t → HoldsType xs u → type_in xs t ≡ type_in xs u → t ≡ u
one_number ks xs t u v h a b e = h.apart t u (IsType (type_in xs u)) (rw v (a ∙ ap (λ x. Some (IsType x)) e)) (rw v b)

-- two numbers are of one type only where both are of Never
pub apart_by_number : (ks : List Key) (xs : List Item) (t u : ℕ) → items_of ks ≡ xs → IsTable ks → (t ≡ u → ⊥) →
    (is_never (type_in xs t) && is_never (type_in xs u)) ≡ same_type (type_in xs t) (type_in xs u)
apart_by_number ks xs t u v h apart =
    let T = type_in xs t in
    let U = type_in xs u in
    elim (cases_Bool (is_never T)) [
      | inl a ↦ elim (cases_Bool (is_never U)) [
        | inl b ↦ let p : T ≡ never = never_is T a in let q : U ≡ never = never_is U b in
            and_both (is_never T) (is_never U) a b ∙ sym (ap (λ x. same_type T x) (q ∙ sym p) ∙ same_refl T)
        | inr b ↦ differ T U (and_right (is_never T) (is_never U) b) (λ e. let q : is_never U ≡ true = ap is_never (sym e) ∙ a in absurd_bool (is_never U) q b)
      ]
      | inr a ↦ differ T U (and_left (is_never T) (is_never U) a) (λ e.
          let b : is_never U ≡ false = ap is_never (sym e) ∙ a in
          apart (h.apart t u (IsType U) (rw v (stands_there (slice_get xs t) a ∙ ap (λ x. Some (IsType x)) e)) (rw v (stands_there (slice_get xs u) b))))
    ]
  where
    absurd_bool : (b : Bool) → b ≡ true → b ≡ false → ⊥
    absurd_bool b g h = let e : true ≡ false = sym g ∙ h in cc

    and_left : (a b : Bool) → a ≡ false → (a && b) ≡ false
    and_left true b e = cc
    and_left false b e = refl

    and_right : (a b : Bool) → b ≡ false → (a && b) ≡ false
    and_right true b e = e
    and_right false b e = refl

    differ : {b : Bool} (t u : TypeTerm) → b ≡ false → (t ≡ u → ⊥) → b ≡ same_type t u
    differ t u e other = e ∙ sym (false_from_ne_true (same_type t u) (λ s. other (same_true t u s)))
