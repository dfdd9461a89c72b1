-- The work that a node is put into while its module is printed.
use Rattle.std.specs.Prelude.{ℕ, nat_lt, if◌then◌else◌, List, [], ◌∷◌, ◌++◌, map, Option, Some, None, slice_get}
use Rattle.ink_grammar.specs.declared.tree.Node.{Node}
use Rattle.ink_grammar.specs.declared.tree.Node.TheVariants as node
use Rattle.ink_print.specs.declared.context.Context.{Context}
use Rattle.ink_print.specs.declared.context.Rank.{Rank}
use Rattle.ink_print.specs.declared.context.Rank.TheVariants as rank
use Rattle.ink_print.specs.declared.step.Piece.TheVariants as piece
use Rattle.ink_print.specs.declared.step.Sign.{Sign}
use Rattle.ink_print.specs.declared.step.Slot.{Slot}
use Rattle.ink_print.specs.declared.step.Step.{Step}
use Rattle.ink_print.specs.declared.step.Step.TheVariants as step
use Rattle.ink_print.specs.declared.work.Work.{Work}
use Rattle.ink_print.specs.declared.work.Work.TheVariants as work
use Rattle.ink_print.specs.Table.{one, two, three, four, five}
use Rattle.ink_print.specs.Surround.{rank_of_shape, rank_of_two, rank_of_three, opening, closing, inner}
use Rattle.ink_print.specs.Printed.{chosen, token_piece}

-- the number of a child, if the node has that child
abbrev pub child : Node → Slot → Option ℕ
child (node.Leaf t) k = None
child node.Empty k = None
child (node.One form s a) k = chosen (Some a) None None None None k
child (node.Two form s a b) k = chosen (Some a) (Some b) None None None k
child (node.Three form s a b c) k = chosen (Some a) (Some b) (Some c) None None k
child (node.Four form s a b c d) k = chosen (Some a) (Some b) (Some c) (Some d) None k
child (node.Five form s a b c d e) k = chosen (Some a) (Some b) (Some c) (Some d) (Some e) k

-- the rank of a node
abbrev pub rank_of : Node → Rank
rank_of (node.Leaf t) = rank_of_shape t.shape
rank_of node.Empty = rank.NoItems
rank_of (node.One form s a) = rank.Base
rank_of (node.Two form s a b) = rank_of_two form
rank_of (node.Three form s a b c) = rank_of_three form
rank_of (node.Four form s a b c d) = rank.Base
rank_of (node.Five form s a b c d e) = rank.Base

-- the steps of a node at a context
abbrev pub steps_of : Node → Context → List Step
steps_of (node.Leaf t) p = []
steps_of node.Empty p = []
steps_of (node.One form s a) p = one form p
steps_of (node.Two form s a b) p = two form p
steps_of (node.Three form s a b c) p = three form
steps_of (node.Four form s a b c d) p = four form
steps_of (node.Five form s a b c d e) p = five form

-- the work of a child of the node of this number: only a node before it is its child
abbrev pub child_work : ℕ → Option ℕ → Context → Work
child_work number None p = work.Nothing
child_work number (Some c) p = if nat_lt c number then work.Node c p else work.Nothing

-- the work of a step of the node of this number
abbrev pub work_of : Node → ℕ → Step → Work
work_of x number (step.Sign s) = work.Piece (piece.Sign s)
work_of x number (step.Child k p) = child_work number (child x k) p

-- the work of a sign, if there is one
abbrev pub sign_work : Option Sign → List Work
sign_work None = []
sign_work (Some s) = work.Piece (piece.Sign s) ∷ []

-- the work of a token that is kept
abbrev pub token_work : Node → Context → List Work
token_work (node.Leaf t) p = work.Piece (token_piece p t) ∷ []
token_work _ p = []

-- the work of the node of this number at a context
abbrev pub expansion : Node → ℕ → Context → List Work
expansion x number p = sign_work (opening p (rank_of x)) ++ (token_work x p ++ (map (work_of x number) (steps_of x (inner p)) ++ sign_work (closing p (rank_of x))))

-- the work of a node of a number at a context: none where there is no node
abbrev pub work_at : Option Node → ℕ → Context → List Work
work_at None number p = []
work_at (Some x) number p = expansion x number p

-- the work of this number at a context
abbrev pub opened : List Node → ℕ → Context → List Work
opened nodes number p = work_at (slice_get nodes number) number p
