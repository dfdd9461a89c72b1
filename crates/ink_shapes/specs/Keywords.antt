-- The words that the language keeps for itself.
use Rattle.std.specs.Prelude.{ℕ, List, [], ◌∷◌, Option, codes}
use Rattle.std.specs.List.{find}
use Rattle.std.specs.Str.{bytes_eq}
use Rattle.ink_grammar.specs.declared.token.Keyword.{Keyword}
use Rattle.ink_grammar.specs.declared.token.Keyword.TheVariants as k

-- all of them
abbrev pub keywords : List Keyword
keywords =
    k.And ∷ k.Async ∷ k.Break ∷ k.Case ∷ k.Else ∷ k.Enum ∷ k.False ∷ k.Fn
    ∷ k.For ∷ k.If ∷ k.Impl ∷ k.Import ∷ k.Let ∷ k.Loop ∷ k.Match ∷ k.Move
    ∷ k.Mut ∷ k.Next ∷ k.Nil ∷ k.Or ∷ k.Pub ∷ k.Recover ∷ k.Ref ∷ k.Return
    ∷ k.SelfWord ∷ k.Static ∷ k.Throw ∷ k.Trait ∷ k.True ∷ k.Try ∷ k.Type ∷ k.Uni
    ∷ k.While ∷ []

-- how each is written
abbrev pub text : Keyword → List ℕ
text k.And = codes "and"
text k.Async = codes "async"
text k.Break = codes "break"
text k.Case = codes "case"
text k.Else = codes "else"
text k.Enum = codes "enum"
text k.False = codes "false"
text k.Fn = codes "fn"
text k.For = codes "for"
text k.If = codes "if"
text k.Impl = codes "impl"
text k.Import = codes "import"
text k.Let = codes "let"
text k.Loop = codes "loop"
text k.Match = codes "match"
text k.Move = codes "move"
text k.Mut = codes "mut"
text k.Next = codes "next"
text k.Nil = codes "nil"
text k.Or = codes "or"
text k.Pub = codes "pub"
text k.Recover = codes "recover"
text k.Ref = codes "ref"
text k.Return = codes "return"
text k.SelfWord = codes "self"
text k.Static = codes "static"
text k.Throw = codes "throw"
text k.Trait = codes "trait"
text k.True = codes "true"
text k.Try = codes "try"
text k.Type = codes "type"
text k.Uni = codes "uni"
text k.While = codes "while"

-- the first of these keywords that is written so
abbrev pub first_written : List Keyword → List ℕ → Option Keyword
first_written keywords written = find (λ keyword. bytes_eq (text keyword) written) keywords

-- the keyword that is written so
unfoldable pub keyword_of : List ℕ → Option Keyword
keyword_of written = first_written keywords written
