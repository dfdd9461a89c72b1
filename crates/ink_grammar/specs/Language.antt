-- The language: which lists of tokens are a module, and of which tree.
use Rattle.std.specs.Prelude.{◌≡◌, List, [], ◌++◌}
use Rattle.ink_grammar.specs.declared.token.Terminal.{Terminal}
use Rattle.ink_grammar.specs.Tree.{Tree, Found}
use Rattle.ink_grammar.specs.Parts.{Module}
use Rattle.ink_grammar.specs.Productions.{Is}

-- These tokens are the module of this tree.
abbrev pub Parses : List Terminal → Tree → Type 0
Parses ts tree = (found : Found) × Is Module [] ts found × (found.tree ≡ tree)

-- Some module begins with these tokens.
abbrev pub Begins : List Terminal → Type 0
Begins ts = (more : List Terminal) × (tree : Tree) × Parses (ts ++ more) tree
