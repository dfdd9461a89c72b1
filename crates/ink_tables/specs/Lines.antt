-- Where the lines of a source begin.
use Rattle.std.specs.Prelude.{ℕ, suc, ◌≤◌, ◌<◌, List, [], ◌∷◌, length, slice_index, if◌then◌else◌}
use Rattle.ink_text.specs.Place.{is_line_feed}

-- the lines behind each line feed of a text that begins at this byte
abbrev pub starts_behind : ℕ → List ℕ → List ℕ
starts_behind at [] = []
starts_behind at (byte ∷ bytes) = if is_line_feed byte then suc at ∷ starts_behind (suc at) bytes else starts_behind (suc at) bytes

-- the first line begins at 0, and each other one behind a line feed
abbrev pub line_starts : List ℕ → List ℕ
line_starts bytes = 0 ∷ starts_behind 0 bytes

-- the first so many of these numbers are at most this one, and the others aren't
pub record IsSplitAt (most : ℕ) (numbers : List ℕ) (count : ℕ) : Type 0 where
  pub within : count ≤ length numbers
  pub up_to : (i : ℕ) → i < count → slice_index numbers i ≤ most
  pub above : (i : ℕ) → count ≤ i → i < length numbers → most < slice_index numbers i
