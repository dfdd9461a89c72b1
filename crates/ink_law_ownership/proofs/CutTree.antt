-- What a cut took is the tree of its values, so that a process can start with it.
use Rattle.std.proofs.Common.{◌≡◌, ℕ, zero, suc, Bool, true, false, cond, Option, Some, None, Result, Ok, List, [], ◌∷◌, ◌++◌, refl, sym, ap, ◌∙◌, subst, arith, inl, inr, ◌⊎◌}
use Rattle.std.specs.Prelude.{◌≢◌, Contains, IsSome}
use Rattle.std.specs.Option.{option_map_or}
use Rattle.std.specs.FinMap.{get, insert, empty, len, get-empty, get-insert}
use Rattle.std.proofs.lemmas.List.Elements.{Contains-append_cases}
use Rattle.std.proofs.lemmas.Option.{none-some}
use Rattle.ink_base.specs.declared.ident.ObjectId.{ObjectId}
use Rattle.ink_base.specs.declared.object.Object.{Object}
use Rattle.ink_base.specs.declared.value.Value.{Value}
use Rattle.ink_base.specs.declared.value.Value.TheVariants as v
use Rattle.ink_base.specs.Ident.{id_cmp}
use Rattle.ink_base.specs.Objects.{Objects, fields_in}
use Rattle.ink_base.specs.Tree.{InTree, owned, below}
use Rattle.ink_base.proofs.IdentLemmas.{id_cmp_total}
use Rattle.ink_code.specs.declared.wrong.Wrong.{Wrong}
use Rattle.ink_code.specs.Owned.{AreOwnedOnce}
use Rattle.ink_code.specs.Process.{state_name}
use Rattle.ink_code.specs.Runs.{with_state}
use Rattle.ink_code.specs.Trees.{Parcel, Parted, first_owned, take_first, take_if, none_owned, parted_by, parted_of}
use Rattle.ink_code.proofs.TreeLemmas.{first_is_first, in_wider}
use Rattle.ink_heap.proofs.ObjectsLemmas.{is_same, is_same-one, is_same-itself}
use Rattle.ink_parcel.proofs.CutLemmas.{AreParted, taken_one, not_taken, AreParted-one, at_most_one, right_of, cut_owned_once}
use Rattle.ink_parcel.proofs.MovesLemmas.{owns_none}
use Rattle.ink_parcel.proofs.OwnedLemmas.{times_owned_in-insert, times_there-insert, times_there-empty}
use Rattle.ink_proc.specs.Starts.{CanStart}
use Rattle.ink_law_ownership.specs.Leaves.{IsTree}

-- a walk over values took objects of their tree, and those that were taken before stay
record TakesTree (values : List Value) (old new : Parted) : Type 0 where
  kept : (id : ObjectId) (object : Object) → get old.taken id ≡ Some object → get new.taken id ≡ Some object
  tree : (id : ObjectId) → IsSome (get new.taken id) → IsSome (get old.taken id) ⊎ InTree (fields_in new.taken) values id

TakesTree-none : (values : List Value) (old new : Parted) → old ≡ new → TakesTree values old new
TakesTree-none values old new same =
    subst (λ (parts : Parted). TakesTree values old parts) same (record { kept = λ id object has. has; tree = λ id there. inl there })

module _ (values rest : List Value) (first : ObjectId) (object : Object) (old new : Parted) (apart : AreParted old) (is : first_owned values ≡ Some (first, rest)) (has : get old.left first ≡ Some object) (t : TakesTree (rest ++ object.fields) (taken_one first object old) new) where
  found : (id : ObjectId) → get (insert old.taken first object) id ≡ cond (is_same id first) (Some object) (get old.taken id)
  found id = get-insert id_cmp_total old.taken first object id

  kept_at : (id : ObjectId) (had : Object) (test : Bool) → is_same id first ≡ test → get old.taken id ≡ Some had → cond test (Some object) (get old.taken id) ≡ Some had
  kept_at id had true same was =
      absurd (none-some had (sym (not_taken first object old apart has) ∙ ap (get old.taken) (sym (is_same-one id first same)) ∙ was))
  kept_at id had false same was = was

  now_first : get new.taken first ≡ Some object
  now_first =
      t.kept first object (found first ∙ ap (λ test. cond test (Some object) (get old.taken first)) (is_same-itself first))

  fields_first : fields_in new.taken first ≡ object.fields
  fields_first = ap (λ f. option_map_or (λ (o : Object). o.fields) f []) now_first

  root : InTree (fields_in new.taken) values first
  root = owned first (first_is_first values first rest is).0

  wider : (x : ObjectId) → Contains (rest ++ object.fields) (v.Own x) → InTree (fields_in new.taken) values x
  wider x h =
      elim (Contains-append_cases rest object.fields (v.Own x) h) [
        | inl in_rest ↦ owned x ((first_is_first values first rest is).1 (v.Own x) in_rest)
        | inr in_fields ↦ below first x root (subst (λ fields. Contains fields (v.Own x)) (sym fields_first) in_fields)
      ]

  was_at : (id : ObjectId) (test : Bool) → is_same id first ≡ test → IsSome (cond test (Some object) (get old.taken id)) → IsSome (get old.taken id) ⊎ InTree (fields_in new.taken) values id
  was_at id true same there = inr (subst (InTree (fields_in new.taken) values) (sym (is_same-one id first same)) root)
  was_at id false same there = inl there

  told : (id : ObjectId) → IsSome (get (insert old.taken first object) id) ⊎ InTree (fields_in new.taken) (rest ++ object.fields) id → IsSome (get old.taken id) ⊎ InTree (fields_in new.taken) values id
  told id (inl there) = was_at id (is_same id first) refl (subst IsSome (found id) there)
  told id (inr tree) = inr (in_wider (fields_in new.taken) values (rest ++ object.fields) id wider tree)

  TakesTree-one : TakesTree values old new
  TakesTree-one = record {
    kept = λ id had was. t.kept id had (found id ∙ kept_at id had (is_same id first) refl was);
    tree = λ id there. told id (t.tree id there);
  }

abbrev Goes : (List Value → Parted → Result Parted Wrong) → Parted → Type 0
Goes further new = (values : List Value) (parts : Parted) → AreParted parts → further values parts ≡ Ok new → TakesTree values parts new

takes_if : (values rest : List Value) (id : ObjectId) (old new : Parted) (further : List Value → Parted → Result Parted Wrong) (found : Option Object) → get old.left id ≡ found → AreParted old → first_owned values ≡ Some (id, rest) → Goes further new → take_if found id rest old further ≡ Ok new → TakesTree values old new
takes_if values rest id old new further None has apart is goes took = absurd (cc)
takes_if values rest id old new further (Some object) has apart is goes took =
    TakesTree-one values rest id object old new apart is has (goes (rest ++ object.fields) (taken_one id object old) (AreParted-one id object old apart has) took)

takes_first : (values : List Value) (old new : Parted) (further : List Value → Parted → Result Parted Wrong) (found : Option (ObjectId × List Value)) → first_owned values ≡ found → AreParted old → Goes further new → take_first found old further ≡ Ok new → TakesTree values old new
takes_first values old new further None is apart goes took = TakesTree-none values old new (right_of old new took)
takes_first values old new further (Some (id, rest)) is apart goes took =
    takes_if values rest id old new further (get old.left id) refl apart is goes took

takes_none : (values : List Value) (old new : Parted) (found : Option (ObjectId × List Value)) → none_owned found old ≡ Ok new → TakesTree values old new
takes_none values old new None took = TakesTree-none values old new (right_of old new took)
takes_none values old new (Some first) took = absurd (cc)

takes : (most : ℕ) (values : List Value) (old new : Parted) → AreParted old → parted_by most values old ≡ Ok new → TakesTree values old new
unfolding parted_by
takes zero values old new apart took = takes_none values old new (first_owned values) took
takes (suc most) values old new apart took =
    takes_first values old new (λ more parts. parted_by most more parts) (first_owned values) refl apart (λ more parts parted went. takes most more parts new parted went) took

not_in_empty : (id : ObjectId) → IsSome (get (empty {K = ObjectId} {X = Object} {R = id_cmp}) id) → ⊥
not_in_empty id there = let none = subst IsSome (get-empty id_cmp id) there in absurd (cc)

one_of : (id : ObjectId) (A : Type 0) → IsSome (get (empty {K = ObjectId} {X = Object} {R = id_cmp}) id) ⊎ A → A
one_of id A (inl there) = absurd (not_in_empty id there)
one_of id A (inr a) = a

-- each object that a cut took is in the tree of its values
cut_tree : (values : List Value) (objects : Objects) (parts : Parted) → parted_of values objects ≡ Ok parts → (id : ObjectId) → IsSome (get parts.taken id) → InTree (fields_in parts.taken) values id
unfolding parted_of
cut_tree values objects parts took id there =
    let t = takes (len objects) values (record { left = objects; taken = empty }) parts (λ n.
    let none = times_there-empty n in
    let once = at_most_one (get objects n) in
    omega arith) took in
    one_of id (InTree (fields_in parts.taken) values id) (t.tree id there)

pub cut_is_tree : (values : List Value) (objects : Objects) (parts : Parted) → parted_of values objects ≡ Ok parts → IsTree (record { values = values; objects = parts.taken })
cut_is_tree values objects parts took = record {
  owned = cut_owned_once values objects parts took;
  tree = cut_tree values objects parts took;
}

-- a process can start with a tree in which no object has its number
module _ (number kind : ℕ) (parcel : Parcel) (whole : IsTree parcel) (others : (id : ObjectId) → IsSome (get parcel.objects id) → id.process ≢ number) where
  abbrev all : Objects
  all = with_state number kind parcel

  abbrev state : Object
  state = record { kind = kind; tag = 0; fields = parcel.values; count = 0 }

  found_in : (id : ObjectId) → get all id ≡ cond (is_same id (state_name number)) (Some state) (get parcel.objects id)
  found_in id = get-insert id_cmp_total parcel.objects (state_name number) state id

  no_state : get parcel.objects (state_name number) ≡ None
  no_state = none_of (get parcel.objects (state_name number)) (others (state_name number))
    where
      none_of : (found : Option Object) → (IsSome found → (state_name number).process ≢ number) → found ≡ None
      none_of None never = refl
      none_of (Some object) never = absurd (never refl refl)

  state_fields : fields_in all (state_name number) ≡ parcel.values
  state_fields =
      ap (λ f. option_map_or (λ (o : Object). o.fields) f []) (found_in (state_name number) ∙ ap (λ test. cond test (Some state) (get parcel.objects (state_name number))) (is_same-itself (state_name number)))

  other_fields : (id : ObjectId) → is_same id (state_name number) ≡ false → fields_in all id ≡ fields_in parcel.objects id
  other_fields id other =
      ap (λ f. option_map_or (λ (o : Object). o.fields) f []) (found_in id ∙ ap (λ test. cond test (Some state) (get parcel.objects id)) other)

  alone_at : (id : ObjectId) (test : Bool) → is_same id (state_name number) ≡ test → IsSome (cond test (Some state) (get parcel.objects id)) → id.process ≡ number → id ≡ state_name number
  alone_at id true same there here = is_same-one id (state_name number) same
  alone_at id false same there here = absurd (others id there here)

  below_at : (above id : ObjectId) (test : Bool) → is_same above (state_name number) ≡ test → InTree (fields_in all) (fields_in all (state_name number)) above → Contains (fields_in parcel.objects above) (v.Own id) → InTree (fields_in all) (fields_in all (state_name number)) id
  below_at above id true same tree h =
      let none : fields_in parcel.objects above ≡ [] =
      ap (λ f. option_map_or (λ (o : Object). o.fields) f []) (ap (get parcel.objects) (is_same-one above (state_name number) same) ∙ no_state) in
      absurd (owns_none (fields_in parcel.objects above) id none h)
  below_at above id false other tree h =
      below above id tree (subst (λ fields. Contains fields (v.Own id)) (sym (other_fields above other)) h)

  in_all : {id : ObjectId} → InTree (fields_in parcel.objects) parcel.values id → InTree (fields_in all) (fields_in all (state_name number)) id
  in_all (owned id h) = owned id (subst (λ fields. Contains fields (v.Own id)) (sym state_fields) h)
  in_all (below above id tree h) = below_at above id (is_same above (state_name number)) refl (in_all tree) h

  below_state : (id : ObjectId) (test : Bool) → is_same id (state_name number) ≡ test → IsSome (cond test (Some state) (get parcel.objects id)) → id ≢ state_name number → InTree (fields_in all) (fields_in all (state_name number)) id
  below_state id true same there other = absurd (other (is_same-one id (state_name number) same))
  below_state id false same there other = in_all (whole.tree id there)

  owned_once : AreOwnedOnce (v.Own (state_name number) ∷ []) all
  owned_once n =
      let fields = times_owned_in-insert n (state_name number) state parcel.objects no_state in
      let there = times_there-insert n (state_name number) state parcel.objects no_state in
      let cut = whole.owned n in
      omega arith

  pub tree_starts : CanStart number (state_name number) all
  tree_starts = record {
    named = refl;
    alone = λ id there here. alone_at id (is_same id (state_name number)) refl (subst IsSome (found_in id) there) here;
    below = λ id there other. below_state id (is_same id (state_name number)) refl (subst IsSome (found_in id) there) other;
    owned = owned_once;
  }
