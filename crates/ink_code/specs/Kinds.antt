-- The types that rows make and read, by their numbers, which are the same in each code.
use Rattle.std.specs.Prelude.{ℕ}

abbrev pub option_kind : ℕ
option_kind = 5

abbrev pub array_kind : ℕ
array_kind = 7

abbrev pub stdout_kind : ℕ
stdout_kind = 10

-- the tags of an Option
abbrev pub some_tag : ℕ
some_tag = 0

abbrev pub none_tag : ℕ
none_tag = 1
