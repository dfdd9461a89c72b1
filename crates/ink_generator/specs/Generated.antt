-- The module that is made for a number.
use Rattle.std.specs.Prelude.{ℕ, ◌+◌, ◌%◌, List, [], ◌++◌, codes, zero, suc}
use Rattle.std.specs.Fmt.{decimal}

-- the lines before the steps
abbrev pub head : List ℕ
head = codes "import std.stdio (Stdout)\ntype async Sum {\nlet @sum: Int\nlet @left: Int\nfn async mut add(items: uni Array[Int]) {\n@sum += items.get(0).get\n@left -= 1\nif @left == 0 { Stdout.new.print('sum ${@sum}') }\n}\n}\n"

-- what the step of a number multiplies by
abbrev pub factor : ℕ → ℕ
factor k = k % 7 + 2

-- a text with a number behind it
unfoldable pub numbered : List ℕ → ℕ → List ℕ
numbered text n = text ++ decimal n

-- the method of a step
unfoldable pub step_line : ℕ → List ℕ
step_line k = numbered (codes "fn step_") k ++ numbered (codes "(x: Int) -> Int { x * ") (factor k) ++ numbered (codes " + ") k ++ codes " % 1000 }\n"

-- the lines between the steps and what is sent
unfoldable pub main_lines : ℕ → List ℕ
main_lines n = numbered (codes "type async Main {\nfn async main {\nlet s = Sum(0, ") n ++ codes ")\n"

-- the message that has a step made
unfoldable pub send_line : ℕ → List ℕ
send_line k = numbered (codes "s.add(recover [step_") k ++ numbered (codes "(") k ++ codes ")])\n"

-- the lines of the numbers from 1 to this one
abbrev pub lines : (ℕ → List ℕ) → ℕ → List ℕ
lines line zero = []
lines line (suc n) = lines line n ++ line (n + 1)

-- the whole module
abbrev pub generated : ℕ → List ℕ
generated n = head ++ lines step_line n ++ main_lines n ++ lines send_line n ++ codes "}\n}\n"
