-- The tokens of the signs.
use Rattle.std.proofs.Common.{◌≡◌, ℕ, ◌<◌, Bool, true, false, not, [], ◌∷◌, length, refl, arith, inl, inr, ◌⊎◌, Some}
use Rattle.std.specs.Prelude.{slice_index}
use Rattle.ink_base.specs.declared.token.TokenKind.{TokenKind}
use Rattle.ink_base.specs.declared.token.TokenKind.TheVariants as kind
use Rattle.ink_tokens.specs.Fault.{is_wide_integer}
use Rattle.ink_tokens.specs.Found.{may_be_signed, before_behind, ends_operand}
use Rattle.ink_tokens.specs.Spelling.{IsSpelled, spelled_name, spelled_symbol}
use Rattle.ink_tokens.specs.Words.{is_single, is_pair, word_kind, is_keyword, is_value_word, ends_bracket}
use Rattle.ink_shapes.specs.Keywords.{keyword_of}
use Rattle.ink_shapes.specs.Marks.{mark_of, is_written}
use Rattle.ink_shapes.specs.Terminals.{shape_by, mark_shape, keyword_shape}
use Rattle.ink_print.specs.declared.step.Sign.{Sign}
use Rattle.ink_print.specs.declared.step.Sign.TheVariants as sign
use Rattle.ink_print.specs.Layout.{sign_text, class_of_sign}
use Rattle.ink_law_categories.specs.Spells.{shape_of_sign}
use Rattle.ink_law_neighbours.specs.Follow.{is_plain, is_closing, is_left_brace, is_right_brace}
use Rattle.ink_law_scanning.proofs.Leads.{LeadFacts}
use Rattle.ink_law_scanning.proofs.Found.{IsLone}
use Rattle.ink_law_scanning.proofs.Gaps.{Solid, keyword, operator, separator}

-- how a plain sign is read
pub record SignFacts (s : Sign) : Type 0 where
  pub kind : TokenKind
  pub spelled : (m : Bool) → IsSpelled m (sign_text s) kind
  pub shape : shape_of_sign s ≡ Some (shape_by kind (sign_text s))
  pub narrow : is_wide_integer kind (sign_text s) ≡ false
  pub lead : LeadFacts (slice_index (sign_text s) 0)
  pub some : 0 < length (sign_text s)
  pub behind : ((b : ℕ) × (sign_text s ≡ b ∷ []) × IsLone b) ⊎ Solid (class_of_sign s) (not (is_closing s))
  pub signed : not (is_closing s) ≡ true → may_be_signed (before_behind kind (sign_text s)) ≡ true

pub sign-facts : (s : Sign) → is_plain s ≡ true → SignFacts s
unfolding is_single is_pair word_kind is_keyword shape_by mark_shape keyword_shape keyword_of mark_of is_written is_wide_integer may_be_signed before_behind ends_operand ends_bracket is_value_word
sign-facts sign.LeftParen is = record {
  kind = kind.Symbol;
  spelled = λ m. spelled_symbol (inr (refl, refl));
  shape = refl;
  narrow = refl;
  lead = (refl, refl, refl, refl, refl);
  some = omega arith;
  behind = inl (40, refl, record { name = refl; capital = refl; at = refl; digit = refl; minus = refl; pair = λ text. refl });
  signed = λ is. refl;
}
sign-facts sign.RightParen is = record {
  kind = kind.Symbol;
  spelled = λ m. spelled_symbol (inr (refl, refl));
  shape = refl;
  narrow = refl;
  lead = (refl, refl, refl, refl, refl);
  some = omega arith;
  behind = inl (41, refl, record { name = refl; capital = refl; at = refl; digit = refl; minus = refl; pair = λ text. refl });
  signed = λ is. let none : false ≡ true = is in cc;
}
sign-facts sign.ImportParen is = record {
  kind = kind.Symbol;
  spelled = λ m. spelled_symbol (inr (refl, refl));
  shape = refl;
  narrow = refl;
  lead = (refl, refl, refl, refl, refl);
  some = omega arith;
  behind = inl (40, refl, record { name = refl; capital = refl; at = refl; digit = refl; minus = refl; pair = λ text. refl });
  signed = λ is. refl;
}
sign-facts sign.LeftBracket is = record {
  kind = kind.Symbol;
  spelled = λ m. spelled_symbol (inr (refl, refl));
  shape = refl;
  narrow = refl;
  lead = (refl, refl, refl, refl, refl);
  some = omega arith;
  behind = inl (91, refl, record { name = refl; capital = refl; at = refl; digit = refl; minus = refl; pair = λ text. refl });
  signed = λ is. refl;
}
sign-facts sign.RightBracket is = record {
  kind = kind.Symbol;
  spelled = λ m. spelled_symbol (inr (refl, refl));
  shape = refl;
  narrow = refl;
  lead = (refl, refl, refl, refl, refl);
  some = omega arith;
  behind = inl (93, refl, record { name = refl; capital = refl; at = refl; digit = refl; minus = refl; pair = λ text. refl });
  signed = λ is. let none : false ≡ true = is in cc;
}
sign-facts sign.Comma is = record {
  kind = kind.Symbol;
  spelled = λ m. spelled_symbol (inr (refl, refl));
  shape = refl;
  narrow = refl;
  lead = (refl, refl, refl, refl, refl);
  some = omega arith;
  behind = inl (44, refl, record { name = refl; capital = refl; at = refl; digit = refl; minus = refl; pair = λ text. refl });
  signed = λ is. refl;
}
sign-facts sign.Dot is = record {
  kind = kind.Symbol;
  spelled = λ m. spelled_symbol (inr (refl, refl));
  shape = refl;
  narrow = refl;
  lead = (refl, refl, refl, refl, refl);
  some = omega arith;
  behind = inl (46, refl, record { name = refl; capital = refl; at = refl; digit = refl; minus = refl; pair = λ text. refl });
  signed = λ is. refl;
}
sign-facts sign.Colon is = record {
  kind = kind.Symbol;
  spelled = λ m. spelled_symbol (inr (refl, refl));
  shape = refl;
  narrow = refl;
  lead = (refl, refl, refl, refl, refl);
  some = omega arith;
  behind = inr separator;
  signed = λ is. refl;
}
sign-facts sign.Equals is = record {
  kind = kind.Symbol;
  spelled = λ m. spelled_symbol (inr (refl, refl));
  shape = refl;
  narrow = refl;
  lead = (refl, refl, refl, refl, refl);
  some = omega arith;
  behind = inr operator;
  signed = λ is. refl;
}
sign-facts sign.Plus is = record {
  kind = kind.Symbol;
  spelled = λ m. spelled_symbol (inr (refl, refl));
  shape = refl;
  narrow = refl;
  lead = (refl, refl, refl, refl, refl);
  some = omega arith;
  behind = inr operator;
  signed = λ is. refl;
}
sign-facts sign.Arrow is = record {
  kind = kind.Symbol;
  spelled = λ m. spelled_symbol (inl (refl, refl));
  shape = refl;
  narrow = refl;
  lead = (refl, refl, refl, refl, refl);
  some = omega arith;
  behind = inr operator;
  signed = λ is. refl;
}
sign-facts sign.Else is = record {
  kind = kind.Keyword;
  spelled = λ m. spelled_name (refl, inl refl);
  shape = refl;
  narrow = refl;
  lead = (refl, refl, refl, refl, refl);
  some = omega arith;
  behind = inr keyword;
  signed = λ is. refl;
}
sign-facts sign.Enum is = record {
  kind = kind.Keyword;
  spelled = λ m. spelled_name (refl, inl refl);
  shape = refl;
  narrow = refl;
  lead = (refl, refl, refl, refl, refl);
  some = omega arith;
  behind = inr keyword;
  signed = λ is. refl;
}
sign-facts sign.For is = record {
  kind = kind.Keyword;
  spelled = λ m. spelled_name (refl, inl refl);
  shape = refl;
  narrow = refl;
  lead = (refl, refl, refl, refl, refl);
  some = omega arith;
  behind = inr keyword;
  signed = λ is. refl;
}
sign-facts sign.If is = record {
  kind = kind.Keyword;
  spelled = λ m. spelled_name (refl, inl refl);
  shape = refl;
  narrow = refl;
  lead = (refl, refl, refl, refl, refl);
  some = omega arith;
  behind = inr keyword;
  signed = λ is. refl;
}
sign-facts sign.Or is = record {
  kind = kind.Keyword;
  spelled = λ m. spelled_name (refl, inl refl);
  shape = refl;
  narrow = refl;
  lead = (refl, refl, refl, refl, refl);
  some = omega arith;
  behind = inr keyword;
  signed = λ is. refl;
}
sign-facts sign.Line is = let none : false ≡ true = is in cc
sign-facts sign.BlockOpening is = let none : false ≡ true = is in cc
sign-facts sign.BlockClosing is = let none : false ≡ true = is in cc
sign-facts sign.PatternOpening is = let none : false ≡ true = is in cc
sign-facts sign.PatternClosing is = let none : false ≡ true = is in cc
sign-facts sign.TextOpening is = let none : false ≡ true = is in cc
sign-facts sign.TextClosing is = let none : false ≡ true = is in cc

-- a brace that opens
pub record LeftFacts (s : Sign) : Type 0 where
  pub text : sign_text s ≡ 123 ∷ []
  pub shape : shape_of_sign s ≡ Some (shape_by kind.Symbol (123 ∷ []))

pub left-facts : (s : Sign) → is_left_brace s ≡ true → LeftFacts s
unfolding shape_by mark_shape mark_of is_written
left-facts sign.BlockOpening is = record { text = refl; shape = refl }
left-facts sign.PatternOpening is = record { text = refl; shape = refl }
left-facts s is = let none : false ≡ true = is in cc

-- a brace that closes
pub record RightFacts (s : Sign) : Type 0 where
  pub text : sign_text s ≡ 125 ∷ []
  pub shape : shape_of_sign s ≡ Some (shape_by kind.Symbol (125 ∷ []))

pub right-facts : (s : Sign) → is_right_brace s ≡ true → RightFacts s
unfolding shape_by mark_shape mark_of is_written
right-facts sign.BlockClosing is = record { text = refl; shape = refl }
right-facts sign.PatternClosing is = record { text = refl; shape = refl }
right-facts s is = let none : false ≡ true = is in cc

-- braces are tokens alone
pub lone-left : IsLone 123
unfolding is_pair
lone-left = record { name = refl; capital = refl; at = refl; digit = refl; minus = refl; pair = λ text. refl }

pub lone-right : IsLone 125
unfolding is_pair
lone-right = record { name = refl; capital = refl; at = refl; digit = refl; minus = refl; pair = λ text. refl }
