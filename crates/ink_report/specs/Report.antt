-- The report of a panic.
use Rattle.std.specs.Prelude.{ℕ, zero, suc, ◌+◌, ◌-◌, Option, None, Some, List, [], ◌++◌, codes, length, slice_get, take, unwrap_or}
use Rattle.std.specs.List.{flat_map}
use Rattle.std.specs.Fmt.{decimal}
use Rattle.ink_code.specs.declared.code.Code.{Code}
use Rattle.ink_code.specs.declared.frame.Frame.{Frame}
use Rattle.ink_code.specs.declared.method.Method.{Method}
use Rattle.ink_code.specs.Process.{Process}

-- how many frames have a line of their own
abbrev pub shown : ℕ
shown = 20

-- the name of a type, which is empty where the code has no such type
abbrev pub kind_name : Code → ℕ → List ℕ
kind_name code kind = unwrap_or (slice_get code.kinds kind) []

-- a process of a type by name
unfoldable pub who : List ℕ → ℕ → List ℕ
who kind number = codes "process " ++ decimal number ++ codes " (" ++ kind ++ codes ")"

-- the line that tells who panicked, and with which text
unfoldable pub first_line : List ℕ → List ℕ → ℕ → List ℕ
first_line text kind number = codes "panic in " ++ who kind number ++ codes ": " ++ text ++ codes "\n"

-- the line of a method of that name, at a line of the source
unfoldable pub place_line : List ℕ → ℕ → List ℕ
place_line name line = codes "  at " ++ name ++ codes " line " ++ decimal line ++ codes "\n"

-- the line at a place in a method. Where the code has no such method its name is empty, and where it tells no line of
-- the place that is 0
abbrev pub line_in : Option Method → ℕ → List ℕ
line_in None place = place_line [] 0
line_in (Some method) place = place_line method.name (unwrap_or (slice_get method.lines place) 0)

-- the line of a frame
abbrev pub frame_line : Code → Frame → List ℕ
frame_line code frame = line_in (slice_get code.methods frame.method) frame.place

-- the line that stands for so many further frames, where there are any
unfoldable pub more_line : ℕ → List ℕ
more_line zero = []
more_line (suc n) = codes "  and " ++ decimal (n + 1) ++ codes " more\n"

-- the lines of frames, the innermost first
abbrev pub frame_lines : Code → List Frame → List ℕ
frame_lines code frames = flat_map (frame_line code) (take shown frames) ++ more_line (length frames - shown)

-- the report of a process of a code that panicked with a text
abbrev pub report_text : List ℕ → Process → Code → List ℕ
report_text text p code = first_line text (kind_name code p.kind) p.number ++ frame_lines code p.frames
