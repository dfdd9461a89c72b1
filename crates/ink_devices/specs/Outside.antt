use Rattle.std.specs.Prelude.{◌≡◌, ◌≢◌, ℕ, ◌+◌, ◌-◌, ◌^◌, ◌<◌, ◌⊎◌, ⊤, min, List, ◌++◌, length, take, Option, None, Some, Result, Ok, Err, option_map}
use Rattle.ink_devices.specs.declared.faults.Faults.{Faults}
use Rattle.ink_devices.specs.declared.outside.FileFault.{FileFault}
use Rattle.ink_devices.specs.declared.outside.FileFault.TheVariants as fault

-- what stands under each name, where something does
abbrev pub Directory : Type 0
Directory = List ℕ → Option (List ℕ)

-- the count from which on further faults aren't counted
abbrev pub greatest_count : ℕ
greatest_count = 2 ^ 64 - 1

-- one more, up to that count
abbrev pub one_more : ℕ → ℕ
one_more count = min (count + 1) greatest_count

-- no call failed
abbrev pub no_faults : Faults
no_faults = record { count = 0; name = None }

-- a fault was counted, or the count stood at its greatest before
abbrev pub CountsFault : ℕ → ℕ → Type 0
CountsFault old new = (old < new) ⊎ ((old ≡ greatest_count) × (new ≡ old))

-- what an answer leaves of the faults of its kind: only `Failed` comes of a fault, and tells it with the name
abbrev pub TellsFault : {T : Type 0} → Result T FileFault → List ℕ → Faults → Faults → Type 0
TellsFault (Ok x) name old new = new ≡ old
TellsFault (Err fault.OutOfMemory) name old new = new ≡ old
TellsFault (Err fault.Failed) name old new = CountsFault old.count new.count × (new.name ≡ Some name)

-- the first bytes, at most so many, of what stands under the name, where the directory is told
abbrev pub Reads : Option Directory → List ℕ → ℕ → List ℕ → Type 0
Reads None name most bytes = ⊤
Reads (Some files) name most bytes = option_map (take most) (files name) ≡ Some bytes

-- what stands under the other names stays
abbrev pub KeepsOthers : Option Directory → Option Directory → List ℕ → Type 0
KeepsOthers None None name = ⊤
KeepsOthers (Some old) (Some new) name = (other : List ℕ) → other ≢ name → new other ≡ old other
KeepsOthers None (Some new) name = ⊥
KeepsOthers (Some old) None name = ⊥

-- the bytes stand under the name, where the directory is told
abbrev pub Holds : Option Directory → List ℕ → List ℕ → Type 0
Holds None name bytes = ⊤
Holds (Some files) name bytes = files name ≡ Some bytes

-- what a write leaves: the bytes under that name after `Ok`, all as before after want of memory, and under no
-- answer another name changes
abbrev pub Writes : {T : Type 0} → Result T FileFault → List ℕ → List ℕ → Option Directory → Option Directory → Type 0
Writes (Ok x) name bytes old new = Holds new name bytes × KeepsOthers old new name
Writes (Err fault.OutOfMemory) name bytes old new = new ≡ old
Writes (Err fault.Failed) name bytes old new = KeepsOthers old new name

-- a sink's bytes with these at their end, where they are told
abbrev pub appended : Option (List ℕ) → List ℕ → Option (List ℕ)
appended sink bytes = option_map (λ before. before ++ bytes) sink

-- only a part of the bytes, cut before their end, went into the sink
abbrev pub CutsWrite : Option (List ℕ) → Option (List ℕ) → List ℕ → Type 0
CutsWrite old new bytes = (n : ℕ) × (n < length bytes) × (new ≡ appended old (take n bytes))
