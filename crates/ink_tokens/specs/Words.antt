-- How far names and symbols run, and which words the language keeps.
use Rattle.std.specs.Prelude.{ℕ, ◌+◌, Bool, ◌&&◌, ◌||◌, ◌==◌, nat_le, if◌then◌else◌, List, [], ◌∷◌, length, take, drop, codes, slice_index}
use Rattle.std.specs.List.{prefix_len, list_any}
use Rattle.std.specs.Str.{bytes_eq}
use Rattle.std.specs.Char.{is_ascii_uppercase}
use Rattle.ink_base.specs.declared.token.TokenKind.{TokenKind}
use Rattle.ink_base.specs.declared.token.TokenKind.TheVariants as kind
use Rattle.ink_tokens.specs.declared.bytes.Class.TheVariants.{Word}
use Rattle.ink_tokens.specs.Bytes.{is_of, begins_name}

-- the letters, digits and _ at the front
abbrev pub word_run : List ℕ → ℕ
word_run bytes = prefix_len (is_of Word) bytes

-- a small letter or _, then letters, digits and _, then at most one ?
unfoldable pub name_length : List ℕ → ℕ
name_length bytes =
    if begins_name (slice_index bytes 0)
    then (if slice_index bytes (word_run bytes) == 63 then word_run bytes + 1 else word_run bytes)
    else 0

-- a capital letter, then letters, digits and _
unfoldable pub const_length : List ℕ → ℕ
const_length bytes = if is_ascii_uppercase (slice_index bytes 0) then word_run bytes else 0

-- @ directly before a name without ?
unfoldable pub field_length : List ℕ → ℕ
field_length bytes =
    if slice_index bytes 0 == 64 && begins_name (slice_index bytes 1) then 1 + word_run (drop 1 bytes) else 0

-- the symbols of two bytes
abbrev pub pairs : List (List ℕ)
pairs =
    codes ":=" ∷ codes "==" ∷ codes "!=" ∷ codes "<=" ∷ codes ">=" ∷ codes "<<" ∷ codes ">>" ∷ codes "+=" ∷ codes "-="
    ∷ codes "*=" ∷ codes "/=" ∷ codes "%=" ∷ codes "->" ∷ []

-- the symbols of one byte
abbrev pub singles : List ℕ
singles = codes "()[]{},.:=<>+-*/%&|^"

-- whether a text is a symbol of two bytes
unfoldable pub is_pair : List ℕ → Bool
is_pair text = list_any (λ pair. bytes_eq pair text) pairs

-- what a symbol of two bytes ends with
abbrev pub ends_pair : ℕ → Bool
ends_pair byte = byte == 61 || byte == 60 || byte == 62

-- whether a byte alone is a symbol
unfoldable pub is_single : ℕ → Bool
is_single byte = list_any (λ single. single == byte) singles

-- the longest symbol
unfoldable pub symbol_length : List ℕ → ℕ
symbol_length bytes =
    if nat_le 2 (length bytes) && is_pair (take 2 bytes) then 2
    else (if is_single (slice_index bytes 0) then 1 else 0)

-- the words that the language keeps for itself
abbrev pub keywords : List (List ℕ)
keywords =
    codes "and" ∷ codes "async" ∷ codes "break" ∷ codes "case" ∷ codes "else" ∷ codes "enum" ∷ codes "false" ∷ codes "fn"
    ∷ codes "for" ∷ codes "if" ∷ codes "impl" ∷ codes "import" ∷ codes "let" ∷ codes "loop" ∷ codes "match" ∷ codes "move"
    ∷ codes "mut" ∷ codes "next" ∷ codes "nil" ∷ codes "or" ∷ codes "pub" ∷ codes "recover" ∷ codes "ref" ∷ codes "return"
    ∷ codes "self" ∷ codes "static" ∷ codes "throw" ∷ codes "trait" ∷ codes "true" ∷ codes "try" ∷ codes "type"
    ∷ codes "uni" ∷ codes "while" ∷ []

-- whether a text is one of them
unfoldable pub is_keyword : List ℕ → Bool
is_keyword text = list_any (λ keyword. bytes_eq keyword text) keywords

-- what a word in the spelling of a name is
unfoldable pub word_kind : List ℕ → TokenKind
word_kind text =
    if bytes_eq text (codes "_") then kind.Underscore else (if is_keyword text then kind.Keyword else kind.Name)

-- ), ] or }
unfoldable pub ends_bracket : ℕ → Bool
ends_bracket byte = list_any (λ bracket. bracket == byte) (codes ")]}")

-- self, true, false or nil
unfoldable pub is_value_word : List ℕ → Bool
is_value_word text = list_any (λ word. bytes_eq word text) (codes "self" ∷ codes "true" ∷ codes "false" ∷ codes "nil" ∷ [])
