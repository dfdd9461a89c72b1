-- What a sink got, line by line.
use Rattle.std.proofs.Common.{◌≡◌, ℕ, ◌+◌, ◌<◌, ◌≤◌, suc, List, [], ◌∷◌, ◌++◌, length, take, Option, None, Some, Result, Ok, Err, refl, ap, sym, ◌∙◌, append-nil, length-append, arith, subst}
use Rattle.std.specs.Result.{OnErr}
use Rattle.std.proofs.lemmas.List.{take-append-le}
use Rattle.ink_devices.specs.Outside.{CountsFault, CutsWrite, appended}
use Rattle.ink_devices.proofs.Appended.{appended-appended}
use Rattle.ink_run.specs.Sinks.{Cuts, Gets, SinkState}

pub appended-nothing : (sink : Option (List ℕ)) → sink ≡ appended sink []
appended-nothing None = refl
appended-nothing (Some bytes) = ap Some (sym (append-nil bytes))

pub gets_nothing : (sink : SinkState) → Gets sink sink []
gets_nothing sink = record { contents = appended-nothing sink.contents; faults = refl }

-- two pieces, one behind the other
pub gets_both : (old mid new : SinkState) (front back : List ℕ) → mid.contents ≡ appended old.contents front → mid.faults ≡ old.faults → new.contents ≡ appended mid.contents back → new.faults ≡ mid.faults → Gets old new (front ++ back)
gets_both old mid new front back one faults other stays = record {
  contents = other ∙ ap (λ (s : Option (List ℕ)). appended s back) one ∙ appended-appended old.contents front back;
  faults = stays ∙ faults;
}

-- a cut within the first of two pieces is one within both
pub cut_front : (old new : SinkState) (front back : List ℕ) → CutsWrite old.contents new.contents front → CountsFault old.faults new.faults → Cuts old new (front ++ back)
cut_front old new front back part failed = record {
  part = (part.0, omega (arith, part.1, length-append front back), part.2 ∙ ap (appended old.contents) (sym (take_front front back part.0 part.1)));
  failed = failed;
}
  where
    take_front : (front back : List ℕ) (n : ℕ) → n < length front → take n (front ++ back) ≡ take n front
    take_front front back n fits = let le : n ≤ length front = omega arith in rw take-append-le

take_both : (front back : List ℕ) (n : ℕ) → take (length front + n) (front ++ back) ≡ front ++ take n back
take_both [] back n = let e : 0 + n ≡ n = omega arith in ap (λ (k : ℕ). take k back) e
take_both (x ∷ front) back n =
    let e : suc (length front) + n ≡ suc (length front + n) = omega arith in
    ap (λ (k : ℕ). take k (x ∷ (front ++ back))) e ∙ ap (λ (ys : List ℕ). x ∷ ys) (take_both front back n)

pub count_fault : (old mid new : ℕ) → mid ≡ old → CountsFault mid new → CountsFault old new
count_fault old mid new same counts = subst (λ (n : ℕ). CountsFault n new) same counts

-- so is a cut within the second
pub cut_back : (old mid new : SinkState) (front back : List ℕ) → mid.contents ≡ appended old.contents front → mid.faults ≡ old.faults → CutsWrite mid.contents new.contents back → CountsFault mid.faults new.faults → Cuts old new (front ++ back)
cut_back old mid new front back one faults part failed = record {
  part = (length front + part.0, omega (arith, part.1, length-append front back), part.2 ∙ ap (λ (s : Option (List ℕ)). appended s (take part.0 back)) one ∙ appended-appended old.contents front (take part.0 back) ∙ ap (appended old.contents) (sym (take_both front back part.0)));
  failed = count_fault old.faults mid.faults new.faults faults failed;
}

pub on_err : {A B P : Type 0} (result : Result A B) → P → OnErr result P
on_err (Ok x) p = tt
on_err (Err why) p = p
