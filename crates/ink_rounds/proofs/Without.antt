-- Lists of which some places were emptied.
use Rattle.std.proofs.Common.{◌≡◌, ◌≢◌, ℕ, zero, suc, ◌≤◌, ◌<◌, Bool, true, false, cond, Option, None, Some, List, [], ◌∷◌, ◌++◌, length, map, set, refl, sym, ap, ◌∙◌, subst, inl, inr, arith}
use Rattle.std.specs.Prelude.{◌==◌}
use Rattle.std.specs.Option.{option_map}
use Rattle.std.proofs.lemmas.Bool.{cases_eq}
use Rattle.std.proofs.lemmas.List.{map-append, map-set, set-set, set_comm, set-append_left}
use Rattle.ink_base.specs.Actions.{Action, Send, SetFuture, BreakFuture, Spawn}
use Rattle.ink_base.specs.Numbered.{numbered, set_numbered}
use Rattle.ink_code.specs.Process.{Process}
use Rattle.ink_code.specs.Rounds as machine
use Rattle.ink_code.specs.Trees.{Parcel}
use Rattle.ink_law_turns.proofs.Numbering.{length-set_numbered, numbered-map, numbered-set_other, numbered-set_found, set_numbered-suc}
use Rattle.ink_rounds.specs.Machine.{AreOthers, Gone, put_at_each, statuses_without, status_of}
use Rattle.ink_worlds.specs.State.{woken, woken_at, woken_from_get, woken_from_take}
use Rattle.ink_worlds.specs.declared.status.Status.{Status}
use Rattle.ink_worlds.specs.declared.status.Status.TheVariants.{Ready, Out, Held}

module _ {X : Type 0} where
  pub set_twice : (xs : List X) (i : ℕ) (x y : X) → set_numbered (set_numbered xs i x) i y ≡ set_numbered xs i y
  set_twice xs zero x y = refl
  set_twice xs (suc k) x y =
      ap (λ (zs : List X). set_numbered zs (suc k) y) (set_numbered-suc xs k x)
      ∙ (set_numbered-suc (set xs k x) k y ∙ (set-set xs k x y ∙ sym (set_numbered-suc xs k y)))

  pub set_apart : (xs : List X) (i j : ℕ) (x y : X) → i ≢ j → set_numbered (set_numbered xs i x) j y ≡ set_numbered (set_numbered xs j y) i x
  set_apart xs zero j x y differ = refl
  set_apart xs (suc k) zero x y differ = refl
  set_apart xs (suc k) (suc l) x y differ =
      ap (λ (zs : List X). set_numbered zs (suc l) y) (set_numbered-suc xs k x)
      ∙ (set_numbered-suc (set xs k x) l y
      ∙ (set_comm xs k l x y (λ same. differ (ap suc same))
      ∙ (sym (set_numbered-suc (set xs l y) k x)
      ∙ ap (λ (zs : List X). set_numbered zs (suc k) x) (sym (set_numbered-suc xs l y)))))

  pub set_before : (xs ys : List X) (i : ℕ) (x : X) → i ≤ length xs → set_numbered (xs ++ ys) i x ≡ set_numbered xs i x ++ ys
  set_before xs ys zero x low = refl
  set_before xs ys (suc k) x low =
      let under : k < length xs = omega (arith, low) in
      set_numbered-suc (xs ++ ys) k x
      ∙ (set-append_left xs ys k x under
      ∙ ap (λ (zs : List X). zs ++ ys) (sym (set_numbered-suc xs k x)))

  module _ (put : ℕ × Process → X) where
    pub put_set : (gone : Gone) (xs : List X) (i last : ℕ) (x : X) → AreOthers i last gone → set_numbered (put_at_each put gone xs) i x ≡ put_at_each put gone (set_numbered xs i x)
    put_set [] xs i last x others = refl
    put_set (g ∷ gone) xs i last x others =
        put_set gone (set_numbered xs g.0 (put g)) i last x others.2
        ∙ ap (λ (zs : List X). put_at_each put gone zs) (set_apart xs g.0 i (put g) x (λ same. others.0 (sym same)))

    pub put_back : (g : ℕ × Process) (gone : Gone) (xs : List X) (last : ℕ) (x : X) → AreOthers g.0 last gone → set_numbered (put_at_each put (g ∷ gone) xs) g.0 x ≡ put_at_each put gone (set_numbered xs g.0 x)
    put_back g gone xs last x others =
        put_set gone (set_numbered xs g.0 (put g)) g.0 last x others
        ∙ ap (λ (zs : List X). put_at_each put gone zs) (set_twice xs g.0 (put g) x)

    pub length_put : (gone : Gone) (xs : List X) → length (put_at_each put gone xs) ≡ length xs
    length_put [] xs = refl
    length_put (g ∷ gone) xs = length_put gone (set_numbered xs g.0 (put g)) ∙ length-set_numbered xs g.0 (put g)

    pub put_before : (gone : Gone) (xs ys : List X) (i last : ℕ) → AreOthers i last gone → last ≤ length xs → put_at_each put gone (xs ++ ys) ≡ put_at_each put gone xs ++ ys
    put_before [] xs ys i last others low = refl
    put_before (g ∷ gone) xs ys i last others low =
        let here : g.0 ≤ length xs = omega (arith, others.1, low) in
        let same : length (set_numbered xs g.0 (put g)) ≡ length xs = length-set_numbered xs g.0 (put g) in
        let still : last ≤ length (set_numbered xs g.0 (put g)) = omega (arith, same, low) in
        ap (λ (zs : List X). put_at_each put gone zs) (set_before xs ys g.0 (put g) here)
        ∙ put_before gone (set_numbered xs g.0 (put g)) ys i last others.2 still

pub set_mapped : {X Y : Type 0} (f : X → Y) (xs : List X) (i : ℕ) (x : X) → map f (set_numbered xs i x) ≡ set_numbered (map f xs) i (f x)
set_mapped f xs zero x = refl
set_mapped {X} {Y} f xs (suc k) x =
    ap (λ (zs : List X). map f zs) (set_numbered-suc xs k x) ∙ (map-set f xs k x ∙ sym (set_numbered-suc (map f xs) k (f x)))

-- what is lent isn't woken
woken_lent : (o : Option Status) (ss : List Status) (n : ℕ) (out : Status) → woken_from_take out ≡ out → ((y : Status) → o ≡ Some y → y ≡ out) → woken_at o (set_numbered ss n out) n ≡ set_numbered ss n out
woken_lent None ss n out calm is = refl
woken_lent (Some y) ss n out calm is =
    ap (λ (s : Status). set_numbered (set_numbered ss n out) n s) (ap woken_from_take (is y refl) ∙ calm) ∙ set_twice ss n out out

set_woken : (o : Option Status) (ss : List Status) (n : ℕ) (out : Status) → set_numbered (woken_at o ss n) n out ≡ set_numbered ss n out
set_woken None ss n out = refl
set_woken (Some y) ss n out = set_twice ss n (woken_from_take y) out

woken_other : (o : Option Status) (ss : List Status) (to n : ℕ) (out : Status) → n ≢ to → woken_at o (set_numbered ss n out) to ≡ set_numbered (woken_at o ss to) n out
woken_other None ss to n out differ = refl
woken_other (Some y) ss to n out differ = set_apart ss n to out (woken_from_take y) differ

module _ {V : Type 0} where
  woken_put : (made : Action V) (ss : List Status) (n seat ran : ℕ) → n ≤ length ss → woken made (set_numbered ss n (Out seat ran)) ≡ set_numbered (woken made ss) n (Out seat ran)
  woken_put (Send to method values) ss n seat ran low =
      let out : Status = Out seat ran in
      elim (cases_eq n to) [
        | inl same ↦ subst (λ (i : ℕ). woken_at (numbered (set_numbered ss n out) i) (set_numbered ss n out) i ≡ set_numbered (woken_at (numbered ss i) ss i) n out) same
            (woken_lent (numbered (set_numbered ss n out) n) ss n out refl (λ y at. numbered-set_found ss n out y at)
            ∙ sym (set_woken (numbered ss n) ss n out))
        | inr differ ↦ ap (λ (o : Option Status). woken_at o (set_numbered ss n out) to) (numbered-set_other ss n to out (λ same. differ (sym same)))
            ∙ woken_other (numbered ss to) ss to n out differ
      ]
  woken_put (SetFuture future value) ss n seat ran low = set_mapped (woken_from_get future) ss n (Out seat ran)
  woken_put (BreakFuture future) ss n seat ran low = set_mapped (woken_from_get future) ss n (Out seat ran)
  woken_put (Spawn kind given) ss n seat ran low = sym (set_before ss (Ready ∷ []) n (Out seat ran) low)
  woken_put other ss n seat ran low = refl

  pub woken_without : (made : Action V) (gone : Gone) (ss : List Status) (i last : ℕ) → AreOthers i last gone → last ≤ length ss → woken made (statuses_without gone ss) ≡ statuses_without gone (woken made ss)
  woken_without made [] ss i last others low = refl
  woken_without made (g ∷ gone) ss i last others low =
      let out : Status = Out g.0 g.1.ran in
      let here : g.0 ≤ length ss = omega (arith, others.1, low) in
      let same : length (set_numbered ss g.0 out) ≡ length ss = length-set_numbered ss g.0 out in
      let still : last ≤ length (set_numbered ss g.0 out) = omega (arith, same, low) in
      woken_without made gone (set_numbered ss g.0 out) i last others.2 still
      ∙ ap (λ (zs : List Status). statuses_without gone zs) (woken_put made ss g.0 g.0 g.1.ran here)

-- the statuses of the machine are woken as those that are kept
taken_as : (s : machine.Status) → status_of (machine.woken_from_take s) ≡ woken_from_take (status_of s)
taken_as machine.Ready = refl
taken_as machine.Idle = refl
taken_as (machine.Held future) = refl
taken_as machine.Stopped = refl

got_if : (b : Bool) (future : ℕ) → status_of (cond b machine.Ready (machine.Held future)) ≡ cond b Ready (Held future)
got_if true future = refl
got_if false future = refl

got_as : (made : ℕ) (s : machine.Status) → status_of (machine.woken_from_get made s) ≡ woken_from_get made (status_of s)
got_as made machine.Ready = refl
got_as made machine.Idle = refl
got_as made (machine.Held future) = got_if (future == made) future
got_as made machine.Stopped = refl

all_got_as : (made : ℕ) (ss : List machine.Status) → map status_of (map (machine.woken_from_get made) ss) ≡ map (woken_from_get made) (map status_of ss)
all_got_as made [] = refl
all_got_as made (s ∷ ss) =
    ap (λ (x : Status). x ∷ map status_of (map (machine.woken_from_get made) ss)) (got_as made s)
    ∙ ap (λ (xs : List Status). woken_from_get made (status_of s) ∷ xs) (all_got_as made ss)

woken_at_as : (o : Option machine.Status) (ss : List machine.Status) (to : ℕ) → map status_of (machine.woken_at o ss to) ≡ woken_at (option_map status_of o) (map status_of ss) to
woken_at_as None ss to = refl
woken_at_as (Some s) ss to =
    set_mapped status_of ss to (machine.woken_from_take s) ∙ ap (λ (x : Status). set_numbered (map status_of ss) to x) (taken_as s)

pub woken_as : (made : Action Parcel) (ss : List machine.Status) → map status_of (machine.woken made ss) ≡ woken made (map status_of ss)
woken_as (Send to method values) ss =
    woken_at_as (numbered ss to) ss to ∙ ap (λ (o : Option Status). woken_at o (map status_of ss) to) (sym (numbered-map status_of ss to))
woken_as (SetFuture future value) ss = all_got_as future ss
woken_as (BreakFuture future) ss = all_got_as future ss
woken_as (Spawn kind given) ss = map-append status_of ss (machine.Ready ∷ [])
woken_as other ss = refl
