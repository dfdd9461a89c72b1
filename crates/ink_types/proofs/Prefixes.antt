-- The algebra of prefixes: what a prefix makes of a type, and the type from which it made one.
use Rattle.std.proofs.Common.{◌≡◌, ℕ, List, Bool, true, false, Option, Some, None, refl, sym, ap, ◌∙◌, ◌⊎◌, inl, inr, eqb, eq-eqb, if◌then◌else◌}
use Rattle.std.proofs.lemmas.Bool.{eqb-true, cases_Bool}
use Rattle.std.proofs.lemmas.Option.{cond_some}
use Rattle.ink_types.specs.declared.matching.Under.{Under}
use Rattle.ink_types.specs.declared.matching.Under.TheVariants as under
use Rattle.ink_types.specs.TypeTerms.{TypeTerm, TypeTerms, Parameter, Of, Ref, Mut, Uni, same_type, is_value_kind, is_borrow, ref_of, mut_of, uni_of}
use Rattle.ink_types.specs.Matching.{below, is_below, then_mut, bare, type_below, arguments_if, arguments_below, is_unique_itself, unique_part, unique_if, unique_below}
use Rattle.ink_types.proofs.Same.{same_true, same_refl}

module _ (kinds : List Bool) where
  ref_value : (k : ℕ) (ts : TypeTerms) → is_value_kind kinds k ≡ true → ref_of kinds (Of k ts) ≡ Of k ts
  unfolding ref_of
  ref_value k ts e = ap (λ b. if b then Of k ts else Ref (Of k ts)) e

  ref_plain : (k : ℕ) (ts : TypeTerms) → is_value_kind kinds k ≡ false → ref_of kinds (Of k ts) ≡ Ref (Of k ts)
  unfolding ref_of
  ref_plain k ts e = ap (λ b. if b then Of k ts else Ref (Of k ts)) e

  mut_value : (k : ℕ) (ts : TypeTerms) → is_value_kind kinds k ≡ true → mut_of kinds (Of k ts) ≡ Of k ts
  unfolding mut_of
  mut_value k ts e = ap (λ b. if b then Of k ts else Mut (Of k ts)) e

  mut_plain : (k : ℕ) (ts : TypeTerms) → is_value_kind kinds k ≡ false → mut_of kinds (Of k ts) ≡ Mut (Of k ts)
  unfolding mut_of
  mut_plain k ts e = ap (λ b. if b then Of k ts else Mut (Of k ts)) e

  ref_ref : (t : TypeTerm) → ref_of kinds (ref_of kinds t) ≡ ref_of kinds t
  unfolding ref_of
  ref_ref (Of k ts) = elim (cases_Bool (is_value_kind kinds k)) [
    | inl e ↦ ap (ref_of kinds) (ref_value k ts e)
    | inr e ↦ ap (ref_of kinds) (ref_plain k ts e) ∙ sym (ref_plain k ts e)
  ]
  ref_ref (Parameter n) = refl
  ref_ref (Ref t) = refl
  ref_ref (Mut t) = refl
  ref_ref (Uni t) = refl

  pub ref_mut : (t : TypeTerm) → ref_of kinds (mut_of kinds t) ≡ ref_of kinds t
  unfolding ref_of mut_of
  ref_mut (Of k ts) = elim (cases_Bool (is_value_kind kinds k)) [
    | inl e ↦ ap (ref_of kinds) (mut_value k ts e)
    | inr e ↦ ap (ref_of kinds) (mut_plain k ts e) ∙ sym (ref_plain k ts e)
  ]
  ref_mut (Parameter n) = refl
  ref_mut (Ref t) = refl
  ref_mut (Mut t) = refl
  ref_mut (Uni t) = refl

  mut_ref : (t : TypeTerm) → mut_of kinds (ref_of kinds t) ≡ ref_of kinds t
  unfolding ref_of mut_of
  mut_ref (Of k ts) = elim (cases_Bool (is_value_kind kinds k)) [
    | inl e ↦ ap (mut_of kinds) (ref_value k ts e) ∙ mut_value k ts e ∙ sym (ref_value k ts e)
    | inr e ↦ ap (mut_of kinds) (ref_plain k ts e) ∙ sym (ref_plain k ts e)
  ]
  mut_ref (Parameter n) = refl
  mut_ref (Ref t) = refl
  mut_ref (Mut t) = refl
  mut_ref (Uni t) = refl

  mut_mut : (t : TypeTerm) → mut_of kinds (mut_of kinds t) ≡ mut_of kinds t
  unfolding mut_of
  mut_mut (Of k ts) = elim (cases_Bool (is_value_kind kinds k)) [
    | inl e ↦ ap (mut_of kinds) (mut_value k ts e)
    | inr e ↦ ap (mut_of kinds) (mut_plain k ts e) ∙ sym (mut_plain k ts e)
  ]
  mut_mut (Parameter n) = refl
  mut_mut (Ref t) = refl
  mut_mut (Mut t) = refl
  mut_mut (Uni t) = refl

  pub below_ref : (u : Under) (t : TypeTerm) → below kinds u (ref_of kinds t) ≡ ref_of kinds t
  below_ref under.Nothing t = refl
  below_ref under.Ref t = ref_ref t
  below_ref under.Mut t = mut_ref t

  pub below_mut : (u : Under) (t : TypeTerm) → below kinds u (mut_of kinds t) ≡ below kinds (then_mut u) t
  below_mut under.Nothing t = refl
  below_mut under.Ref t = ref_mut t
  below_mut under.Mut t = mut_mut t

  below_below : (u : Under) (t : TypeTerm) → below kinds u (below kinds u t) ≡ below kinds u t
  below_below under.Nothing t = refl
  below_below under.Ref t = ref_ref t
  below_below under.Mut t = mut_mut t

  -- what a prefix made of a type that isn't a borrow has that type behind it
  bare_below : (u : Under) (t : TypeTerm) → is_borrow t ≡ false → bare u (below kinds u t) ≡ t
  unfolding ref_of mut_of
  bare_below under.Nothing t h = refl
  bare_below under.Ref (Of k ts) h = elim (cases_Bool (is_value_kind kinds k)) [
    | inl e ↦ ap (bare under.Ref) (ref_value k ts e)
    | inr e ↦ ap (bare under.Ref) (ref_plain k ts e)
  ]
  bare_below under.Ref (Parameter n) h = refl
  bare_below under.Ref (Uni t) h = refl
  bare_below under.Ref (Ref t) h = cc
  bare_below under.Ref (Mut t) h = cc
  bare_below under.Mut (Of k ts) h = elim (cases_Bool (is_value_kind kinds k)) [
    | inl e ↦ ap (bare under.Mut) (mut_value k ts e)
    | inr e ↦ ap (bare under.Mut) (mut_plain k ts e)
  ]
  bare_below under.Mut (Parameter n) h = refl
  bare_below under.Mut (Uni t) h = refl
  bare_below under.Mut (Ref t) h = cc
  bare_below under.Mut (Mut t) h = cc

  pick_some : (b c : Bool) (x y t : TypeTerm) → (if b then Some x else (if c then Some y else None)) ≡ Some t → ((b ≡ true) × (x ≡ t)) ⊎ ((c ≡ true) × (y ≡ t))
  pick_some true c x y t e = inl (refl, cc)
  pick_some false true x y t e = inr (refl, cc)
  pick_some false false x y t e = cc

  pick_none : (b c : Bool) (x y : TypeTerm) → (if b then Some x else (if c then Some y else None)) ≡ None → c ≡ true → ⊥
  pick_none true c x y e h = cc
  pick_none false true x y e h = cc
  pick_none false false x y e h = cc

  -- a type that was given makes the other
  pub type_given : (u : Under) (a t : TypeTerm) → type_below kinds u a ≡ Some t → below kinds u t ≡ a
  unfolding type_below
  type_given u a t e = elim (pick_some (is_below kinds u (bare u a) a) (is_below kinds u a a) (bare u a) a t e) [
    | inl p ↦ ap (below kinds u) (sym p.1) ∙ same_true (below kinds u (bare u a)) a p.0
    | inr p ↦ ap (below kinds u) (sym p.1) ∙ same_true (below kinds u a) a p.0
  ]

  -- and one that isn't a borrow is given
  pub type_bare : (u : Under) (t : TypeTerm) → is_borrow t ≡ false → type_below kinds u (below kinds u t) ≡ Some t
  unfolding type_below
  type_bare u t h =
      let a = below kinds u t in
      let x : bare u a ≡ t = bare_below u t h in
      let y : is_below kinds u (bare u a) a ≡ true = ap (λ z. same_type (below kinds u z) a) x ∙ same_refl a in
      ap (λ b. if b then Some (bare u a) else (if is_below kinds u a a then Some a else None)) y ∙ ap Some x

  -- where a type makes the other, some type is given
  pub type_there : (u : Under) (x : TypeTerm) → type_below kinds u (below kinds u x) ≡ None → ⊥
  unfolding type_below
  type_there u x e =
      let a = below kinds u x in
      let y : is_below kinds u a a ≡ true = ap (λ z. same_type z a) (below_below u x) ∙ same_refl a in
      pick_none (is_below kinds u (bare u a) a) (is_below kinds u a a) (bare u a) a e y

  kind_of : (k : ℕ) (ts : TypeTerms) (o : Option TypeTerm) → arguments_if k o ≡ Some ts → o ≡ Some (Of k ts)
  kind_of k ts None e = cc
  kind_of k ts (Some (Of j us)) e =
      let p = cond_some (eqb j k) us ts e in
      let q : j ≡ k = eqb-true j k p.0 in
      let r : us ≡ ts = p.1 in
      cc
  kind_of k ts (Some (Parameter n)) e = cc
  kind_of k ts (Some (Ref t)) e = cc
  kind_of k ts (Some (Mut t)) e = cc
  kind_of k ts (Some (Uni t)) e = cc

  pub kind_made : (u : Under) (k : ℕ) (a : TypeTerm) (ts : TypeTerms) → arguments_below kinds u k a ≡ Some ts → below kinds u (Of k ts) ≡ a
  kind_made u k a ts e = type_given u a (Of k ts) (kind_of k ts (type_below kinds u a) e)

  pub kind_given : (u : Under) (k : ℕ) (a : TypeTerm) (ts : TypeTerms) → below kinds u (Of k ts) ≡ a → arguments_below kinds u k a ≡ Some ts
  kind_given u k a ts e =
      ap (λ x. arguments_if k (type_below kinds u x)) (sym e) ∙ ap (arguments_if k) (type_bare u (Of k ts) refl) ∙ ap (λ b. if b then Some ts else None) (eq-eqb k k refl)

  -- `uni` of a type is the type itself, or it stands behind the word
  uni_itself : (t : TypeTerm) → is_unique_itself kinds t ≡ true → uni_of kinds t ≡ t
  unfolding uni_of
  uni_itself (Of k ts) e = ap (λ b. if b then Of k ts else Uni (Of k ts)) e
  uni_itself (Parameter n) e = cc
  uni_itself (Ref t) e = cc
  uni_itself (Mut t) e = cc
  uni_itself (Uni t) e = cc

  uni_plain : (t : TypeTerm) → is_unique_itself kinds t ≡ false → uni_of kinds t ≡ Uni t
  unfolding uni_of
  uni_plain (Of k ts) e = ap (λ b. if b then Of k ts else Uni (Of k ts)) e
  uni_plain (Parameter n) e = refl
  uni_plain (Ref t) e = refl
  uni_plain (Mut t) e = refl
  uni_plain (Uni t) e = refl

  itself_bare : (t : TypeTerm) → is_unique_itself kinds t ≡ true → is_borrow t ≡ false
  itself_bare (Of k ts) e = refl
  itself_bare (Parameter n) e = refl
  itself_bare (Ref t) e = cc
  itself_bare (Mut t) e = cc
  itself_bare (Uni t) e = refl

  itself_part : (t : TypeTerm) → is_unique_itself kinds t ≡ true → unique_part kinds t ≡ Some t
  itself_part (Of k ts) e = ap (λ b. if b then Some (Of k ts) else None) e
  itself_part (Parameter n) e = cc
  itself_part (Ref t) e = cc
  itself_part (Mut t) e = cc
  itself_part (Uni t) e = cc

  uni_bare : (t : TypeTerm) → is_borrow (uni_of kinds t) ≡ false
  uni_bare t = elim (cases_Bool (is_unique_itself kinds t)) [
    | inl e ↦ ap is_borrow (uni_itself t e) ∙ itself_bare t e
    | inr e ↦ ap is_borrow (uni_plain t e)
  ]

  not_some : (b : Bool) (x w : TypeTerm) → (if b then None else Some x) ≡ Some w → (b ≡ false) × (x ≡ w)
  not_some true x w e = cc
  not_some false x w e = (refl, cc)

  part_made : (t w : TypeTerm) → unique_part kinds t ≡ Some w → uni_of kinds w ≡ t
  part_made (Uni t) w e =
      let p = not_some (is_unique_itself kinds t) t w e in
      ap (uni_of kinds) (sym p.1) ∙ uni_plain t p.0
  part_made (Of k ts) w e =
      let p = cond_some (is_unique_itself kinds (Of k ts)) (Of k ts) w e in
      ap (uni_of kinds) (sym p.1) ∙ uni_itself (Of k ts) p.0
  part_made (Parameter n) w e = cc
  part_made (Ref t) w e = cc
  part_made (Mut t) w e = cc

  part_given : (w : TypeTerm) → unique_part kinds (uni_of kinds w) ≡ Some w
  part_given w = elim (cases_Bool (is_unique_itself kinds w)) [
    | inl e ↦ ap (unique_part kinds) (uni_itself w e) ∙ itself_part w e
    | inr e ↦ ap (unique_part kinds) (uni_plain w e) ∙ ap (λ b. if b then None else Some w) e
  ]

  unique_of : (w : TypeTerm) (o : Option TypeTerm) → unique_if kinds o ≡ Some w → o ≡ Some (uni_of kinds w)
  unique_of w None e = cc
  unique_of w (Some t) e = ap Some (sym (part_made t w e))

  pub unique_made : (u : Under) (a w : TypeTerm) → unique_below kinds u a ≡ Some w → below kinds u (uni_of kinds w) ≡ a
  unique_made u a w e = type_given u a (uni_of kinds w) (unique_of w (type_below kinds u a) e)

  pub unique_given : (u : Under) (a w : TypeTerm) → below kinds u (uni_of kinds w) ≡ a → unique_below kinds u a ≡ Some w
  unique_given u a w e =
      ap (λ x. unique_if kinds (type_below kinds u x)) (sym e) ∙ ap (unique_if kinds) (type_bare u (uni_of kinds w) (uni_bare w)) ∙ part_given w
