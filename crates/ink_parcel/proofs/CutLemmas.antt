-- A cut takes each object once, so that what it took is owned once.
use Rattle.std.proofs.Common.{◌≡◌, ℕ, zero, suc, ◌+◌, ◌≤◌, Option, Some, None, Result, Ok, List, ◌++◌, refl, ap, ◌∙◌, subst, arith}
use Rattle.std.specs.Option.{is_some}
use Rattle.std.specs.FinMap.{get, insert, remove, empty, len}
use Rattle.ink_base.specs.declared.ident.ObjectId.{ObjectId}
use Rattle.ink_base.specs.declared.object.Object.{Object}
use Rattle.ink_base.specs.declared.value.Value.{Value}
use Rattle.ink_base.specs.Objects.{Objects}
use Rattle.ink_code.specs.declared.wrong.Wrong.{Wrong}
use Rattle.ink_code.specs.Owned.{one_if, times_owned_by, times_owned_in, times_there, AreOwnedOnce}
use Rattle.ink_code.specs.Trees.{Parted, first_owned, take_first, take_if, none_owned, parted_by, parted_of}
use Rattle.ink_heap.proofs.ObjectsLemmas.{is_same}
use Rattle.ink_parcel.proofs.OwnedLemmas.{owned_first, times_owned_by-first, times_owned_by-append, times_owned_in-insert, times_owned_in-remove, times_owned_in-empty, times_there-insert, times_there-remove, times_there-empty, times_there-some, times_there-none}

-- no object stands in both parts
abbrev pub AreParted : Parted → Type 0
AreParted parts = (n : ObjectId) → times_there n parts.left + times_there n parts.taken ≤ 1

-- a walk over values took objects out: as often as an object was taken, it is owned by the values or by what was taken
pub record Takes (values : List Value) (old new : Parted) : Type 0 where
  pub owned : (n : ObjectId) → times_owned_in n new.taken + times_owned_by n values + times_there n old.taken ≡ times_there n new.taken + times_owned_in n old.taken
  pub fields : (n : ObjectId) → times_owned_in n new.left + times_owned_in n new.taken ≡ times_owned_in n old.left + times_owned_in n old.taken
  pub there : (n : ObjectId) → times_there n new.left + times_there n new.taken ≡ times_there n old.left + times_there n old.taken

Takes-none : (values : List Value) (old new : Parted) → first_owned values ≡ None → old ≡ new → Takes values old new
Takes-none values old new none same =
    let nothing : (n : ObjectId) → times_owned_by n values ≡ 0 =
    λ n. times_owned_by-first n values ∙ ap (λ found. owned_first n found) none in
    subst (λ (parts : Parted). Takes values old parts) same (record {
      owned = λ n. let no = nothing n in omega arith;
      fields = λ n. refl;
      there = λ n. refl;
    })

-- the parts after one object was taken
abbrev pub taken_one : ObjectId → Object → Parted → Parted
taken_one id object parts = record { left = remove parts.left id; taken = insert parts.taken id object }

pub not_taken : (id : ObjectId) (object : Object) (parts : Parted) → AreParted parts → get parts.left id ≡ Some object → get parts.taken id ≡ None
not_taken id object parts apart has =
    let one = times_there-some id object parts.left has in
    let both = apart id in
    times_there-none id parts.taken (omega arith)

pub AreParted-one : (id : ObjectId) (object : Object) (parts : Parted) → AreParted parts → get parts.left id ≡ Some object → AreParted (taken_one id object parts)
AreParted-one id object parts apart has n =
    let less = times_there-remove n id object parts.left has in
    let more = times_there-insert n id object parts.taken (not_taken id object parts apart has) in
    let both = apart n in
    omega arith

Takes-one : (values rest : List Value) (id : ObjectId) (object : Object) (old new : Parted) → AreParted old → first_owned values ≡ Some (id, rest) → get old.left id ≡ Some object → Takes (rest ++ object.fields) (taken_one id object old) new → Takes values old new
Takes-one values rest id object old new apart is has t =
    let none = not_taken id object old apart has in record {
      owned = λ n.
          let all : times_owned_by n values ≡ one_if (is_same n id) + times_owned_by n rest =
          times_owned_by-first n values ∙ ap (λ found. owned_first n found) is in
          let both = times_owned_by-append n rest object.fields in
          let more = times_owned_in-insert n id object old.taken none in
          let there = times_there-insert n id object old.taken none in
          let sum = t.owned n in
          omega arith;
      fields = λ n.
          let less = times_owned_in-remove n id object old.left has in
          let more = times_owned_in-insert n id object old.taken none in
          let sum = t.fields n in
          omega arith;
      there = λ n.
          let less = times_there-remove n id object old.left has in
          let more = times_there-insert n id object old.taken none in
          let sum = t.there n in
          omega arith;
    }

abbrev Goes : (List Value → Parted → Result Parted Wrong) → Parted → Type 0
Goes further new = (values : List Value) (parts : Parted) → AreParted parts → further values parts ≡ Ok new → Takes values parts new

abbrev pub right : Parted → Result Parted Wrong
right parts = Ok parts

pub right_of : (a b : Parted) → right a ≡ Ok b → a ≡ b
right_of a b is = cc

takes_if : (values rest : List Value) (id : ObjectId) (old new : Parted) (further : List Value → Parted → Result Parted Wrong) (found : Option Object) → get old.left id ≡ found → AreParted old → first_owned values ≡ Some (id, rest) → Goes further new → take_if found id rest old further ≡ Ok new → Takes values old new
takes_if values rest id old new further None has apart is goes took = absurd (cc)
takes_if values rest id old new further (Some object) has apart is goes took =
    Takes-one values rest id object old new apart is has (goes (rest ++ object.fields) (taken_one id object old) (AreParted-one id object old apart has) took)

takes_first : (values : List Value) (old new : Parted) (further : List Value → Parted → Result Parted Wrong) (found : Option (ObjectId × List Value)) → first_owned values ≡ found → AreParted old → Goes further new → take_first found old further ≡ Ok new → Takes values old new
takes_first values old new further None is apart goes took = Takes-none values old new is (right_of old new took)
takes_first values old new further (Some (id, rest)) is apart goes took =
    takes_if values rest id old new further (get old.left id) refl apart is goes took

takes_none : (values : List Value) (old new : Parted) (found : Option (ObjectId × List Value)) → first_owned values ≡ found → none_owned found old ≡ Ok new → Takes values old new
takes_none values old new None is took = Takes-none values old new is (right_of old new took)
takes_none values old new (Some first) is took = absurd (cc)

takes : (most : ℕ) (values : List Value) (old new : Parted) → AreParted old → parted_by most values old ≡ Ok new → Takes values old new
unfolding parted_by
takes zero values old new apart took = takes_none values old new (first_owned values) refl took
takes (suc most) values old new apart took =
    takes_first values old new (λ more parts. parted_by most more parts) (first_owned values) refl apart (λ more parts parted went. takes most more parts new parted went) took

pub at_most_one : (found : Option Object) → one_if (is_some found) ≤ 1
at_most_one None = omega arith
at_most_one (Some object) = omega arith

-- what a cut took out of some objects
pub takes_of : (values : List Value) (objects : Objects) (parts : Parted) → parted_of values objects ≡ Ok parts → Takes values (record { left = objects; taken = empty }) parts
unfolding parted_of
takes_of values objects parts took =
    takes (len objects) values (record { left = objects; taken = empty }) parts (λ n.
    let none = times_there-empty n in
    let once = at_most_one (get objects n) in
    omega arith) took

-- each object that a cut took is owned once, by the values or by what was taken
pub cut_owned_once : (values : List Value) (objects : Objects) (parts : Parted) → parted_of values objects ≡ Ok parts → AreOwnedOnce values parts.taken
cut_owned_once values objects parts took n =
    let t = takes_of values objects parts took in
    let sum = t.owned n in
    let none = times_there-empty n in
    let nothing = times_owned_in-empty n in
    omega arith

-- and so is each that is left, by the other values, where each was owned once before
pub left_owned_once : (values others : List Value) (objects : Objects) (parts : Parted) → parted_of values objects ≡ Ok parts → AreOwnedOnce (values ++ others) objects → AreOwnedOnce others parts.left
left_owned_once values others objects parts took once n =
    let t = takes_of values objects parts took in
    let all = times_owned_by-append n values others in
    let was = once n in
    let cut = cut_owned_once values objects parts took n in
    let fields = t.fields n in
    let there = t.there n in
    let none = times_there-empty n in
    let nothing = times_owned_in-empty n in
    omega arith
