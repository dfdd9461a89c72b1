-- Sinks from one state to another.
use Rattle.std.proofs.Common.{◌≡◌, ℕ, ◌<◌, ◌≤◌, ◌⊎◌, inl, inr, List, [], ◌++◌, length, take, Option, None, Some, refl, sym, ap, ◌∙◌, arith, append-nil}
use Rattle.std.proofs.Math.Seq.{take-length}
use Rattle.ink_devices.specs.Outside.{greatest_count, CountsFault, appended, CutsWrite}
use Rattle.ink_devices.proofs.Appended.{appended-appended}
use Rattle.ink_causes.specs.Devices.{Change, SinkState, HasFailed, Gets, Cuts}
use Rattle.ink_causes.specs.Telling.{TriesLine, IsFront, Replaces}

-- a sink from one state to another
abbrev pub from_to : SinkState → SinkState → Change SinkState
from_to before after = record { before = before; after = after }

pub appended-nothing : (sink : Option (List ℕ)) → sink ≡ appended sink []
appended-nothing None = refl
appended-nothing (Some bytes) = ap Some (sym (append-nil bytes))

pub gets_nothing : (sink : SinkState) → Gets (from_to sink sink) []
gets_nothing sink = record { contents = appended-nothing sink.contents; faults = refl }

pub gets_more : (old mid new : SinkState) (front back : List ℕ) → Gets (from_to old mid) front → Gets (from_to mid new) back
    → Gets (from_to old new) (front ++ back)
gets_more old mid new front back first second = record {
  contents = second.contents ∙ ap (λ s. appended s back) first.contents ∙ appended-appended old.contents front back;
  faults = second.faults ∙ first.faults;
}

-- a fault below the greatest count shows

pub counted : (old new : ℕ) → old < greatest_count → CountsFault old new → old < new
counted old new below counts = elim counts [ inl rose ↦ rose | inr stood ↦ absurd (omega (arith, below, stood.0)) ]

pub tries_once : (line : List ℕ) (sink : Change SinkState) → sink.before.faults < greatest_count → TriesLine line sink
    → Gets sink line ⊎ Cuts sink line
tries_once line sink below tries = elim tries [
  | inl whole ↦ inl whole
  | inr part ↦ inr (record { part = part.0; failed = counted sink.before.faults sink.after.faults below part.1 })
]

-- what a line that was tried brought: a front of it
pub tried_front : (line : List ℕ) (sink : Change SinkState) → TriesLine line sink
    → (front : List ℕ) × IsFront front line × (sink.after.contents ≡ appended sink.before.contents front)
tried_front line sink tries = elim tries [
  | inl whole ↦ (line, (length line, sym (take-length line)), whole.contents)
  | inr part ↦ (take part.0.0 line, (part.0.0, refl), part.0.2)
]

-- a text that failed, and then a line that was tried
pub replaces : (old mid new : SinkState) (text line : List ℕ) → old.faults < greatest_count → CutsWrite old.contents mid.contents text
    → CountsFault old.faults mid.faults → mid.faults ≤ new.faults → TriesLine line (from_to mid new) → Replaces (from_to old new) text line
replaces old mid new text line below cuts counts stays tries =
    let rose : old.faults < mid.faults = counted old.faults mid.faults below counts in
    let last : (front : List ℕ) × IsFront front line × (new.contents ≡ appended mid.contents front) = tried_front line (from_to mid new) tries in
    record {
      failed = omega (arith, rose, stays);
      part = take cuts.0 text;
      is-part = (cuts.0, cuts.1, refl);
      front = last.0;
      is-front = last.1;
      contents = last.2 ∙ ap (λ s. appended s last.0) cuts.2 ∙ appended-appended old.contents (take cuts.0 text) last.0;
    }

-- a sink that got a whole text, or nothing, didn't fail

pub whole_or_failed : (sink : Change SinkState) (text : List ℕ) → Gets sink text → HasFailed sink → ⊥
whole_or_failed sink text gets failed = let e : sink.after.faults ≡ sink.before.faults = gets.faults in omega (arith, e, failed)

pub idle_or_failed : (sink : Change SinkState) → sink.after ≡ sink.before → HasFailed sink → ⊥
idle_or_failed sink same failed = let e : sink.after.faults ≡ sink.before.faults = ap (λ (s : SinkState). s.faults) same in omega (arith, e, failed)
