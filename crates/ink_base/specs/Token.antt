use Rattle.std.specs.Prelude.{ℕ, List, slice_range}
use Rattle.ink_base.specs.declared.token.Token.{Token}

-- the bytes of a source that a token takes
abbrev pub token_text : Token → List ℕ → List ℕ
token_text token source = slice_range source token.start token.end
