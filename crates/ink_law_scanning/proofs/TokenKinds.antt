-- What a token's shape says of its kind and of its first byte.
use Rattle.std.proofs.Common.{◌≡◌, ◌≢◌, ℕ, ◌<◌, Bool, true, false, cond, not, ◌==◌, List, [], ◌∷◌, length, refl, arith, sym, ap, ◌∙◌, subst, inl, inr, Option, None, Some}
use Rattle.std.specs.Prelude.{slice_index, codes}
use Rattle.std.specs.List.{find, list_any}
use Rattle.std.specs.Str.{bytes_eq}
use Rattle.ink_base.specs.declared.token.TokenKind.{TokenKind}
use Rattle.ink_base.specs.declared.token.TokenKind.TheVariants as kind
use Rattle.ink_tokens.specs.declared.reading.Before.TheVariants.{Operand, Other}
use Rattle.ink_tokens.specs.Found.{may_be_signed, before_behind, ends_operand}
use Rattle.ink_tokens.specs.Words.{word_kind, is_keyword, is_value_word, ends_bracket}
use Rattle.ink_tokens.specs.Spelling.{IsSymbol, IsSpelled, spelled_name, spelled_const, spelled_field, spelled_integer, spelled_symbol}
use Rattle.ink_shapes.specs.Keywords.{text, keyword_of, keywords}
use Rattle.ink_shapes.specs.Marks.{mark_of, is_written}
use Rattle.ink_shapes.specs.Terminals.{integer_shape, keyword_shape, mark_shape, shape_by}
use Rattle.ink_grammar.specs.declared.token.Keyword.{Keyword}
use Rattle.ink_grammar.specs.declared.token.Keyword.TheVariants as keyword
use Rattle.ink_grammar.specs.declared.token.Mark.{Mark}
use Rattle.ink_grammar.specs.declared.token.Mark.TheVariants as mark
use Rattle.ink_grammar.specs.declared.token.Shape.{Shape}
use Rattle.ink_grammar.specs.declared.token.Shape.TheVariants as shape
use Rattle.ink_print.specs.declared.class.Class.TheVariants as class
use Rattle.ink_print.specs.Layout.{class_of_shape}
use Rattle.ink_law_neighbours.specs.Follow.{is_value}
use Rattle.ink_law_scanning.proofs.Leads.{each-symbol, same-text, LeadFacts, name-lead, capital-lead, digit-lead}
use Rattle.ink_law_scanning.proofs.Matches.{first_digit}

-- what is spelled has a byte
pub spelled-some : (m : Bool) (t : List ℕ) (k : TokenKind) → IsSpelled m t k → 0 < length t
spelled-some m (x ∷ t) k spelled = omega arith
spelled-some m [] _ (spelled_name spelled) = let none : false ≡ true = spelled.0 in cc
spelled-some m [] _ (spelled_const spelled) = let none : false ≡ true = spelled.0 in cc
spelled-some m [] _ (spelled_field spelled) = let none : false ≡ true = spelled.1 in cc
spelled-some m [] _ (spelled_integer (inl spelled)) = let none : false ≡ true = first_digit [] spelled in cc
spelled-some m [] _ (spelled_integer (inr spelled)) = let none : false ≡ true = spelled.2 in cc
spelled-some m [] _ (spelled_symbol (inl pair)) = let none : 0 ≡ 2 = pair.0 in absurd (omega (arith, none))
spelled-some m [] _ (spelled_symbol (inr single)) = let none : 0 ≡ 1 = single.0 in absurd (omega (arith, none))

-- a token but for a symbol begins neither as a gap, nor as a quote or a brace
pub spelled-lead : (m : Bool) (t : List ℕ) (k : TokenKind) → IsSpelled m t k → k ≢ kind.Symbol → LeadFacts (slice_index t 0)
spelled-lead m t _ (spelled_name spelled) other = name-lead (slice_index t 0) spelled.0
spelled-lead m t _ (spelled_const spelled) other = capital-lead (slice_index t 0) spelled.0
spelled-lead m t _ (spelled_field spelled) other = subst LeadFacts (sym spelled.0) (refl, refl, refl, refl, refl)
spelled-lead m t _ (spelled_integer (inl spelled)) other = digit-lead (slice_index t 0) (first_digit t spelled)
spelled-lead m t _ (spelled_integer (inr spelled)) other = subst LeadFacts (sym spelled.1) (refl, refl, refl, refl, refl)
spelled-lead m t _ (spelled_symbol spelled) other = absurd (other refl)

-- what is no integer is spelled so wherever it stands
pub respelled : (m : Bool) (t : List ℕ) (k : TokenKind) → IsSpelled true t k → k ≢ kind.Int → IsSpelled m t k
respelled m t _ (spelled_name spelled) other = spelled_name spelled
respelled m t _ (spelled_const spelled) other = spelled_const spelled
respelled m t _ (spelled_field spelled) other = spelled_field spelled
respelled m t _ (spelled_integer spelled) other = absurd (other refl)
respelled m t _ (spelled_symbol spelled) other = spelled_symbol spelled

-- a word is no symbol
word_no_symbol : (b c : Bool) → cond b kind.Underscore (cond c kind.Keyword kind.Name) ≡ kind.Symbol → ⊥
word_no_symbol true c is = cc
word_no_symbol false true is = cc
word_no_symbol false false is = cc

-- a symbol is spelled as one
pub symbol-of : (m : Bool) (t : List ℕ) (k : TokenKind) → IsSpelled m t k → k ≡ kind.Symbol → IsSymbol t
unfolding word_kind
symbol-of m t _ (spelled_name spelled) is = absurd (word_no_symbol (bytes_eq t (codes "_")) (is_keyword t) is)
symbol-of m t _ (spelled_const spelled) is = absurd (let none : kind.Const ≡ kind.Symbol = is in cc)
symbol-of m t _ (spelled_field spelled) is = absurd (let none : kind.Field ≡ kind.Symbol = is in cc)
symbol-of m t _ (spelled_integer spelled) is = absurd (let none : kind.Int ≡ kind.Symbol = is in cc)
symbol-of m t _ (spelled_symbol spelled) is = spelled

-- the shape of a symbol is a mark
mark_is : (o : Option Mark) → (m : Mark) × (mark_shape o ≡ shape.Mark m)
unfolding mark_shape
mark_is None = (mark.Operator, refl)
mark_is (Some m) = (m, refl)

-- a shape that is no mark is none of a symbol
pub not_symbol : (P : Shape → Bool) (k : TokenKind) (t : List ℕ) → ((m : Mark) → P (shape.Mark m) ≡ false) → P (shape_by k t) ≡ true → k ≢ kind.Symbol
unfolding shape_by
not_symbol P k t marks is symbol =
    let shown : P (shape_by kind.Symbol t) ≡ true = subst (λ k. P (shape_by k t) ≡ true) symbol is in
    let m = mark_is (mark_of t) in
    let none : false ≡ true = sym (marks m.0) ∙ ap P (sym m.1) ∙ shown in cc

-- the shape of an integer is no keyword
integer_no_keyword : (b : Bool) (w : Keyword) → cond b shape.Hexadecimal shape.Integer ≡ shape.Keyword w → ⊥
integer_no_keyword true w is = cc
integer_no_keyword false w is = cc

keyword_is : (o : Option Keyword) (w : Keyword) → keyword_shape o ≡ shape.Keyword w → o ≡ Some w
unfolding keyword_shape
keyword_is None w is = absurd (let none : shape.Name ≡ shape.Keyword w = is in cc)
keyword_is (Some v) w is = let same : shape.Keyword v ≡ shape.Keyword w = is in cc

mark_no_keyword : (o : Option Mark) (w : Keyword) → mark_shape o ≡ shape.Keyword w → ⊥
mark_no_keyword o w is = let m = mark_is o in let none : shape.Mark m.0 ≡ shape.Keyword w = sym m.1 ∙ is in cc

-- a token with the shape of a keyword is one
pub keyword-kind : (k : TokenKind) (t : List ℕ) (w : Keyword) → shape_by k t ≡ shape.Keyword w → (k ≡ kind.Keyword) × (keyword_of t ≡ Some w)
unfolding shape_by integer_shape
keyword-kind kind.Name t w is = absurd (let none : shape.Name ≡ shape.Keyword w = is in cc)
keyword-kind kind.Const t w is = absurd (let none : shape.Constant ≡ shape.Keyword w = is in cc)
keyword-kind kind.Field t w is = absurd (let none : shape.Field ≡ shape.Keyword w = is in cc)
keyword-kind kind.Int t w is = absurd (integer_no_keyword (list_any (λ byte. byte == 120) t) w is)
keyword-kind kind.Symbol t w is = absurd (mark_no_keyword (mark_of t) w is)
keyword-kind kind.Keyword t w is = (refl, keyword_is (keyword_of t) w is)
keyword-kind kind.Underscore t w is = absurd (let none : shape.Underscore ≡ shape.Keyword w = is in cc)
keyword-kind kind.Quote t w is = absurd (let none : shape.Quote ≡ shape.Keyword w = is in cc)
keyword-kind kind.Part t w is = absurd (let none : shape.TextPart ≡ shape.Keyword w = is in cc)
keyword-kind kind.Opening t w is = absurd (let none : shape.Opening ≡ shape.Keyword w = is in cc)
keyword-kind kind.Closing t w is = absurd (let none : shape.Closing ≡ shape.Keyword w = is in cc)

-- what is found passes
find-step : {X : Type 0} (p : X → Bool) (x y : X) (b : Bool) (more : Option X) → p y ≡ b → (more ≡ Some x → p x ≡ true) → cond b (Some y) more ≡ Some x → p x ≡ true
find-step p x y true more is rest found = let same : y ≡ x = cc in sym (ap p same) ∙ is
find-step p x y false more is rest found = rest found

find-passes : {X : Type 0} (p : X → Bool) (xs : List X) (x : X) → find p xs ≡ Some x → p x ≡ true
find-passes p [] x found = absurd (let none : None ≡ Some x = found in cc)
find-passes p (y ∷ xs) x found = find-step p x y (p y) (find p xs) refl (λ rest. find-passes p xs x rest) found

-- a keyword is written as it is
pub keyword-text : (t : List ℕ) (w : Keyword) → keyword_of t ≡ Some w → text w ≡ t
unfolding keyword_of
keyword-text t w is = same-text (text w) t (find-passes (λ w. bytes_eq (text w) t) keywords w is)

-- which keywords are values
value-text : (w : Keyword) → is_value_word (text w) ≡ is_value w
unfolding is_value_word
value-text keyword.SelfWord = refl
value-text keyword.True = refl
value-text keyword.False = refl
value-text keyword.Nil = refl
value-text w = refl

not_true : (b : Bool) → not b ≡ true → b ≡ false
not_true true is = sym is
not_true false is = refl

-- behind a keyword that is no value a - is a sign
pub keyword-signed : (t : List ℕ) (w : Keyword) → keyword_of t ≡ Some w → not (is_value w) ≡ true → may_be_signed (before_behind kind.Keyword t) ≡ true
unfolding before_behind ends_operand may_be_signed
keyword-signed t w is other =
    let told : is_value_word t ≡ is_value w = sym (ap is_value_word (keyword-text t w is)) ∙ value-text w in
    ap (λ b. may_be_signed (cond b Operand Other)) (told ∙ not_true (is_value w) other)

-- no class but an operator's
no_operator : class.Word ≡ class.Operator → ⊥
no_operator is = cc

-- of how operators begin
abbrev pub OperatorFacts : List ℕ → Type 0
OperatorFacts t = ((slice_index t 0 == 123) ≡ false) × ((slice_index t 0 == 125) ≡ false) × (ends_bracket (slice_index t 0) ≡ false)

pub operator-lead : (t : List ℕ) → IsSymbol t → class_of_shape (shape_by kind.Symbol t) ≡ class.Operator → OperatorFacts t
unfolding shape_by mark_shape mark_of is_written ends_bracket
operator-lead t spelled is =
    each-symbol (λ t. class_of_shape (shape_by kind.Symbol t) ≡ class.Operator → OperatorFacts t)
    (λ is. absurd (no_operator is), (λ is. absurd (no_operator is), (λ is. absurd (no_operator is), (λ is. absurd (no_operator is), (λ is. absurd (no_operator is), (λ is. absurd (no_operator is), (λ is. absurd (no_operator is), (λ is. absurd (no_operator is), (λ is. absurd (no_operator is), (λ is. (refl, refl, refl), (λ is. (refl, refl, refl), (λ is. (refl, refl, refl), (λ is. (refl, refl, refl), (λ is. (refl, refl, refl), (λ is. (refl, refl, refl), (λ is. (refl, refl, refl), (λ is. (refl, refl, refl), (λ is. (refl, refl, refl), (λ is. (refl, refl, refl), (λ is. (refl, refl, refl), tt))))))))))))))))))))
    (λ is. (refl, refl, refl), (λ is. (refl, refl, refl), (λ is. (refl, refl, refl), (λ is. (refl, refl, refl), (λ is. (refl, refl, refl), (λ is. (refl, refl, refl), (λ is. (refl, refl, refl), (λ is. (refl, refl, refl), (λ is. (refl, refl, refl), (λ is. (refl, refl, refl), (λ is. (refl, refl, refl), (λ is. (refl, refl, refl), (λ is. (refl, refl, refl), tt)))))))))))))
    t spelled is

-- the class of an integer or of a word is no operator's
integer_class : (b : Bool) → class_of_shape (cond b shape.Hexadecimal shape.Integer) ≡ class.Operator → ⊥
integer_class true is = no_operator is
integer_class false is = no_operator is

keyword_class : (o : Option Keyword) → class_of_shape (keyword_shape o) ≡ class.Operator → ⊥
unfolding keyword_shape
keyword_class None is = no_operator is
keyword_class (Some w) is = let none : class.Keyword ≡ class.Operator = is in cc

-- an operator is a symbol
pub operator-kind : (k : TokenKind) (t : List ℕ) → class_of_shape (shape_by k t) ≡ class.Operator → k ≡ kind.Symbol
unfolding shape_by integer_shape
operator-kind kind.Name t is = absurd (no_operator is)
operator-kind kind.Const t is = absurd (no_operator is)
operator-kind kind.Field t is = absurd (no_operator is)
operator-kind kind.Int t is = absurd (integer_class (list_any (λ byte. byte == 120) t) is)
operator-kind kind.Symbol t is = refl
operator-kind kind.Keyword t is = absurd (keyword_class (keyword_of t) is)
operator-kind kind.Underscore t is = absurd (no_operator is)
operator-kind kind.Quote t is = absurd (no_operator is)
operator-kind kind.Part t is = absurd (no_operator is)
operator-kind kind.Opening t is = absurd (no_operator is)
operator-kind kind.Closing t is = absurd (no_operator is)

-- behind an operator a - is a sign
pub operator-signed : (t : List ℕ) → ends_bracket (slice_index t 0) ≡ false → may_be_signed (before_behind kind.Symbol t) ≡ true
unfolding before_behind ends_operand may_be_signed
operator-signed t no_bracket = ap (λ b. may_be_signed (cond b Operand Other)) no_bracket
