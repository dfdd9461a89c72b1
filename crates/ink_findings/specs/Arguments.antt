-- The type arguments of nodes.
use Rattle.std.specs.Prelude.{◌≡◌, ℕ, ◌==◌, false, List, [], Option, Some, None}
use Rattle.std.specs.Option.{option_map}
use Rattle.indexmap.specs.IndexMap.{get}
use Rattle.ink_findings.specs.declared.arguments.TypeArguments.{TypeArguments}

-- the types of a list, and none where there is no list
abbrev pub listed : Option (List ℕ) → List ℕ
listed None = []
listed (Some types) = types

-- the type arguments of a node, and none where none were put
abbrev pub arguments_of : TypeArguments → ℕ → List ℕ
arguments_of arguments node = listed (option_map (λ list. list.items) (get ◌==◌ arguments.lists node))

-- each node keeps its type arguments
abbrev pub Same : TypeArguments → TypeArguments → Type 0
Same old new = (node : ℕ) → arguments_of new node ≡ arguments_of old node

-- each but this one
abbrev pub SameBut : ℕ → TypeArguments → TypeArguments → Type 0
SameBut node old new = (other : ℕ) → (node == other) ≡ false → arguments_of new other ≡ arguments_of old other
