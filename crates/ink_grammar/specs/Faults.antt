-- Where the parser refuses.
use Rattle.std.specs.Prelude.{◌≡◌, ◌+◌, ◌<◌, ◌≤◌, List, length, take}
use Rattle.ink_grammar.specs.declared.token.Terminal.{Terminal}
use Rattle.ink_grammar.specs.declared.parser.ParseError.{ParseError}
use Rattle.ink_grammar.specs.declared.parser.ParseError.TheVariants.{OutOfMemory, Unexpected}
use Rattle.ink_grammar.specs.Tree.{Tree}
use Rattle.ink_grammar.specs.Language.{Parses, Begins}

-- Some module begins with the tokens before it, and none with it too; or the tokens end, and are no module.
abbrev pub IsFault : List Terminal → ParseError → Type 0
IsFault ts OutOfMemory = Unit {0}
IsFault ts (Unexpected at) = (at ≤ length ts) × Begins (take at ts) × (at < length ts → Begins (take (at + 1) ts) → ⊥) × (at ≡ length ts → (tree : Tree) → Parses ts tree → ⊥)
