-- What separates tokens.
use Rattle.std.specs.Prelude.{ℕ, Bool, ◌||◌, ◌==◌, if◌then◌else◌, List, slice_index}
use Rattle.std.specs.List.{prefix_len}
use Rattle.ink_tokens.specs.declared.bytes.Class.TheVariants.{Comment}
use Rattle.ink_tokens.specs.Bytes.{is_of}

-- a space, a tab, a carriage return or a line feed
abbrev pub is_blank : ℕ → Bool
is_blank byte = byte == 32 || byte == 9 || byte == 13 || byte == 10

-- one of these, or a comment from # to before the next line feed
unfoldable pub separator_length : List ℕ → ℕ
separator_length bytes =
    if is_blank (slice_index bytes 0) then 1
    else (if slice_index bytes 0 == 35 then prefix_len (is_of Comment) bytes else 0)
