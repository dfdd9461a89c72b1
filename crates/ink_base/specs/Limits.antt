use Rattle.std.specs.Prelude.{ℕ, ◌^◌, ◌<◌, ◌≤◌, List, [], ◌∷◌, codes, slice_index, EachIndex, Option, None, Some}
use Rattle.ink_base.specs.declared.limits.Limit.{Limit}
use Rattle.ink_base.specs.declared.limits.Limit.TheVariants.{Source, Height, Frames, Objects, Serial, Array, Text, Processes, Mailbox, Futures, Events, Local, Slice, Workers}

-- all limits, in their order
abbrev pub all_limits : List Limit
all_limits = Source ∷ Height ∷ Frames ∷ Objects ∷ Serial ∷ Array ∷ Text ∷ Processes ∷ Mailbox ∷ Futures ∷ Events ∷ Local ∷ Slice ∷ Workers ∷ []

-- the index of a limit among them, counted from 0
abbrev pub index_of : Limit → ℕ
index_of Source = 0
index_of Height = 1
index_of Frames = 2
index_of Objects = 3
index_of Serial = 4
index_of Array = 5
index_of Text = 6
index_of Processes = 7
index_of Mailbox = 8
index_of Futures = 9
index_of Events = 10
index_of Local = 11
index_of Slice = 12
index_of Workers = 13

-- the greatest number that each limit may have, in their order; the least is 1
abbrev pub greatest_numbers : List ℕ
greatest_numbers = 16777216 ∷ 200 ∷ 65536 ∷ 16777216 ∷ 2 ^ 62 ∷ 16777216 ∷ 16777216 ∷ 1048576 ∷ 16777216 ∷ 16777216 ∷ 67108864 ∷ 2 ^ 62 ∷ 1000000000 ∷ 64 ∷ []

-- the number of each limit where none is given
abbrev pub default_numbers : List ℕ
default_numbers = 1048576 ∷ 200 ∷ 4096 ∷ 1048576 ∷ 2 ^ 40 ∷ 1048576 ∷ 1048576 ∷ 65536 ∷ 1048576 ∷ 1048576 ∷ 16777216 ∷ 2 ^ 62 ∷ 1000 ∷ 4 ∷ []

-- a limit's number among the numbers of all
abbrev pub limit_of : Limit → List ℕ → ℕ
limit_of limit numbers = slice_index numbers (index_of limit)

abbrev pub greatest_of : Limit → ℕ
greatest_of limit = limit_of limit greatest_numbers

-- the number is one that the limit may have
abbrev pub IsInRange : Limit → ℕ → Type 0
IsInRange limit n = (1 ≤ n) × (n ≤ greatest_of limit)

-- the number at an index, counted from 0, is in the range of the limit there
abbrev pub IsInRangeAt : List ℕ → ℕ → Type 0
IsInRangeAt numbers index = (1 ≤ slice_index numbers index) × (slice_index numbers index ≤ slice_index greatest_numbers index)

-- each number is in its range
abbrev pub AreInRange : List ℕ → Type 0
AreInRange numbers = EachIndex greatest_numbers (IsInRangeAt numbers)

-- of the limits in their order, this is the first whose number isn't in its range
abbrev pub IsFirstOut : List ℕ → Limit → Type 0
IsFirstOut numbers limit =
    ¬ IsInRangeAt numbers (index_of limit) × ((before : ℕ) → before < index_of limit → IsInRangeAt numbers before)

-- the option by which a user gives a limit
abbrev pub option_word : Limit → List ℕ
option_word Source = codes "--max-source"
option_word Height = codes "--max-height"
option_word Frames = codes "--max-frames"
option_word Objects = codes "--max-objects"
option_word Serial = codes "--max-serial"
option_word Array = codes "--max-array"
option_word Text = codes "--max-text"
option_word Processes = codes "--max-processes"
option_word Mailbox = codes "--max-mailbox"
option_word Futures = codes "--max-futures"
option_word Events = codes "--max-events"
option_word Local = codes "--max-local"
option_word Slice = codes "--slice"
option_word Workers = codes "--workers"

-- the text of the panic of a process that would pass the limit, for the eight whose passing is a panic
abbrev pub panic_text : Limit → Option (List ℕ)
panic_text Source = None
panic_text Height = None
panic_text Frames = Some (codes "limit reached: frames")
panic_text Objects = Some (codes "limit reached: objects")
panic_text Serial = Some (codes "limit reached: serial")
panic_text Array = Some (codes "limit reached: array")
panic_text Text = Some (codes "limit reached: text")
panic_text Processes = Some (codes "limit reached: processes")
panic_text Mailbox = Some (codes "limit reached: mailbox")
panic_text Futures = Some (codes "limit reached: futures")
panic_text Events = None
panic_text Local = None
panic_text Slice = None
panic_text Workers = None
