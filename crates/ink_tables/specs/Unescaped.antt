-- What a part of a text stands for.
use Rattle.std.specs.Prelude.{ℕ, Bool, true, false, ◌==◌, if◌then◌else◌, List, [], ◌∷◌}

-- the byte that an escape stands for, by the byte behind its backslash: all but two stand for themselves
abbrev pub escaped : ℕ → ℕ
escaped byte = if byte == 110 then 10 else (if byte == 116 then 9 else byte)

-- the bytes of a part, of which the first is behind a backslash or not
abbrev pub unescaped_from : Bool → List ℕ → List ℕ
unescaped_from is_behind [] = []
unescaped_from true (byte ∷ bytes) = escaped byte ∷ unescaped_from false bytes
unescaped_from false (byte ∷ bytes) = if byte == 92 then unescaped_from true bytes else byte ∷ unescaped_from false bytes

-- the bytes that a part stands for: each escape is one byte
abbrev pub unescaped : List ℕ → List ℕ
unescaped bytes = unescaped_from false bytes
