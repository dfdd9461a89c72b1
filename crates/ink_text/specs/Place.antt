-- Where a byte of a source stands.
use Rattle.std.specs.Prelude.{ℕ, Bool, ◌+◌, ◌^◌, ◌==◌, List, length, take, count_by}
use Rattle.std.specs.List.{after_last}
use Rattle.ink_base.specs.declared.refusal.Place.{Place}

-- the numbers of a place are below this one
abbrev pub place_bound : ℕ
place_bound = 2 ^ 32

abbrev pub line_feed : ℕ
line_feed = 10

abbrev pub is_line_feed : ℕ → Bool
is_line_feed byte = byte == line_feed

-- one more than the line feeds in what stands before the byte
abbrev pub line_behind : List ℕ → ℕ
line_behind before = count_by is_line_feed before + 1

-- one more than the bytes since the last line feed, or since the start
abbrev pub column_behind : List ℕ → ℕ
column_behind before = length (after_last is_line_feed before) + 1

-- the place of a byte
abbrev pub place_at : List ℕ → ℕ → Place
place_at bytes byte =
    record { line = line_behind (take byte bytes); column = column_behind (take byte bytes); byte = byte }
