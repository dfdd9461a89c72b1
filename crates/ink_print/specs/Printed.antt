-- The pieces that a tree is printed as.
use Rattle.std.specs.Prelude.{List, [], ◌∷◌, ◌++◌, Option, Some, None}
use Rattle.ink_grammar.specs.declared.token.Terminal.{Terminal}
use Rattle.ink_grammar.specs.Tree.{Tree, Missing, Leaf, Empty, One, Two, Three, Four, Five}
use Rattle.ink_print.specs.declared.context.Context.{Context}
use Rattle.ink_print.specs.declared.context.Context.TheVariants as context
use Rattle.ink_print.specs.declared.context.Rank.{Rank}
use Rattle.ink_print.specs.declared.context.Rank.TheVariants as rank
use Rattle.ink_print.specs.declared.step.Piece.{Piece}
use Rattle.ink_print.specs.declared.step.Piece.TheVariants as piece
use Rattle.ink_print.specs.declared.step.Sign.{Sign}
use Rattle.ink_print.specs.declared.step.Slot.{Slot}
use Rattle.ink_print.specs.declared.step.Slot.TheVariants as slot
use Rattle.ink_print.specs.declared.step.Step.{Step}
use Rattle.ink_print.specs.declared.step.Step.TheVariants as step
use Rattle.ink_print.specs.Table.{one, two, three, four, five}
use Rattle.ink_print.specs.Surround.{rank_of_shape, rank_of_two, rank_of_three, opening, closing, inner}

-- one of five values, by the child that it belongs to
abbrev pub chosen : {A : Type 0} → A → A → A → A → A → Slot → A
chosen a b c d e slot.First = a
chosen a b c d e slot.Second = b
chosen a b c d e slot.Third = c
chosen a b c d e slot.Fourth = d
chosen a b c d e slot.Fifth = e

-- the pieces of some steps, given those of each child at a context
abbrev pub fill : (Slot → Context → List Piece) → List Step → List Piece
fill child [] = []
fill child (step.Sign s ∷ steps) = piece.Sign s ∷ fill child steps
fill child (step.Child k p ∷ steps) = child k p ++ fill child steps

-- a sign, if there is one
abbrev pub sign_piece : Option Sign → List Piece
sign_piece None = []
sign_piece (Some s) = piece.Sign s ∷ []

-- pieces between the signs that their context asks for
abbrev pub around : Context → Rank → List Piece → List Piece
around p r inside = sign_piece (opening p r) ++ (inside ++ sign_piece (closing p r))

-- a token at its context: behind a dot it is a name
abbrev pub token_piece : Context → Terminal → Piece
token_piece context.Name t = piece.Name t
token_piece _ t = piece.Token t

-- no pieces, for a child that a form doesn't have
abbrev pub no_pieces : Context → List Piece
no_pieces p = []

-- the pieces of a tree at a context
unfoldable pub printed : Tree → Context → List Piece
printed Missing p = []
printed (Leaf t) p = around p (rank_of_shape t.shape) (token_piece p t ∷ [])
printed Empty p = around p rank.NoItems []
printed (One form s a) p = around p rank.Base (fill (chosen (printed a) no_pieces no_pieces no_pieces no_pieces) (one form (inner p)))
printed (Two form s a b) p = around p (rank_of_two form) (fill (chosen (printed a) (printed b) no_pieces no_pieces no_pieces) (two form (inner p)))
printed (Three form s a b c) p = around p (rank_of_three form) (fill (chosen (printed a) (printed b) (printed c) no_pieces no_pieces) (three form))
printed (Four form s a b c d) p = around p rank.Base (fill (chosen (printed a) (printed b) (printed c) (printed d) no_pieces) (four form))
printed (Five form s a b c d e) p = around p rank.Base (fill (chosen (printed a) (printed b) (printed c) (printed d) (printed e)) (five form))

-- the pieces of a module
abbrev pub pieces : Tree → List Piece
pieces t = printed t context.Expression
