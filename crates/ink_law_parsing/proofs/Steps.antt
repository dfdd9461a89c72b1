-- The tokens of a node, step by step.
use Rattle.std.proofs.Common.{◌≡◌, ℕ, Bool, true, false, List, [], ◌∷◌, ◌++◌, Option, None, Some, refl, sym, ap, subst, ◌∙◌, append-nil}
use Rattle.std.proofs.lemmas.List.{append_assoc}
use Rattle.ink_grammar.specs.declared.token.Terminal.{Terminal}
use Rattle.ink_grammar.specs.declared.tree.OneChild.{OneChild}
use Rattle.ink_grammar.specs.declared.tree.TwoChildren.{TwoChildren}
use Rattle.ink_grammar.specs.declared.tree.ThreeChildren.{ThreeChildren}
use Rattle.ink_grammar.specs.declared.tree.FourChildren.{FourChildren}
use Rattle.ink_grammar.specs.declared.tree.FiveChildren.{FiveChildren}
use Rattle.ink_grammar.specs.Tree.{Tree, One, Two, Three, Four, Five}
use Rattle.ink_print.specs.declared.context.Context.{Context}
use Rattle.ink_print.specs.declared.context.Rank.{Rank}
use Rattle.ink_print.specs.declared.context.Rank.TheVariants as rank
use Rattle.ink_print.specs.declared.step.Piece.{Piece}
use Rattle.ink_print.specs.declared.step.Piece.TheVariants as piece
use Rattle.ink_print.specs.declared.step.Sign.{Sign}
use Rattle.ink_print.specs.declared.step.Sign.TheVariants as sign
use Rattle.ink_print.specs.declared.step.Slot.{Slot}
use Rattle.ink_print.specs.declared.step.Step.{Step}
use Rattle.ink_print.specs.declared.step.Step.TheVariants as step
use Rattle.ink_print.specs.Surround.{rank_of_two, rank_of_three, opening, closing, inner}
use Rattle.ink_print.specs.Table.{one, two, three, four, five}
use Rattle.ink_print.specs.Printed.{chosen, fill, around, sign_piece, no_pieces, printed}
use Rattle.ink_law_categories.specs.Spells.{Spells, nothing, ends_line, token, name, a_sign, shape_of_sign, IsSameToken}

-- tokens of pieces in two parts
pub data Split (source print : List ℕ) : Bool → List Piece → List Piece → List Terminal → Bool → Type 0 where
  both : {line mid end : Bool} {ps qs : List Piece} {us ws : List Terminal} → Spells source print line ps us mid → Spells source print mid qs ws end → Split source print line ps qs (us ++ ws) end

behind_line : {source print : List ℕ} {line end : Bool} {ps qs : List Piece} {ts : List Terminal} → Split source print true ps qs ts end → Split source print line (piece.Sign sign.Line ∷ ps) qs ts end
behind_line (both h k) = both (ends_line h) k

behind_token : {source print : List ℕ} {line end : Bool} {t u : Terminal} {ps qs : List Piece} {ts : List Terminal} → u.new_line ≡ line → IsSameToken source print t u → Split source print false ps qs ts end → Split source print line (piece.Token t ∷ ps) qs (u ∷ ts) end
behind_token n e (both h k) = both (token n e h) k

behind_name : {source print : List ℕ} {line end : Bool} {t u : Terminal} {ps qs : List Piece} {ts : List Terminal} → u.new_line ≡ line → IsSameToken source print t u → Split source print false ps qs ts end → Split source print line (piece.Name t ∷ ps) qs (u ∷ ts) end
behind_name n e (both h k) = both (name n e h) k

behind_sign : {source print : List ℕ} {line end : Bool} {s : Sign} {u : Terminal} {ps qs : List Piece} {ts : List Terminal} → u.new_line ≡ line → shape_of_sign s ≡ Some u.shape → Split source print false ps qs ts end → Split source print line (piece.Sign s ∷ ps) qs (u ∷ ts) end
behind_sign n e (both h k) = both (a_sign n e h) k

-- tokens of pieces and more pieces are those of the pieces, and more
pub split_at : {source print : List ℕ} {line end : Bool} (ps qs : List Piece) {ts : List Terminal} → Spells source print line (ps ++ qs) ts end → Split source print line ps qs ts end
split_at [] qs h = both nothing h
split_at (p ∷ ps) qs (ends_line h) = behind_line (split_at ps qs h)
split_at (p ∷ ps) qs (token n e h) = behind_token n e (split_at ps qs h)
split_at (p ∷ ps) qs (name n e h) = behind_name n e (split_at ps qs h)
split_at (p ∷ ps) qs (a_sign n e h) = behind_sign n e (split_at ps qs h)

-- the tokens of steps: those of their signs, and for each child its own
pub data Stepped (source print : List ℕ) (child : Slot → Context → List Piece) : Bool → List Step → List Terminal → Bool → Type 0 where
  stop : {line : Bool} → Stepped source print child line [] [] line
  new_line : {line end : Bool} {ps : List Step} {ts : List Terminal} → Stepped source print child true ps ts end → Stepped source print child line (step.Sign sign.Line ∷ ps) ts end
  put : {line end : Bool} {s : Sign} {u : Terminal} {ps : List Step} {ts : List Terminal} → u.new_line ≡ line → shape_of_sign s ≡ Some u.shape → Stepped source print child false ps ts end → Stepped source print child line (step.Sign s ∷ ps) (u ∷ ts) end
  last : {line end : Bool} {k : Slot} {p : Context} {us : List Terminal} → Spells source print line (child k p) us end → Stepped source print child line (step.Child k p ∷ []) us end
  next : {line mid end : Bool} {k : Slot} {p : Context} {x : Step} {ps : List Step} {us ws : List Terminal} → Spells source print line (child k p) us mid → Stepped source print child mid (x ∷ ps) ws end → Stepped source print child line (step.Child k p ∷ x ∷ ps) (us ++ ws) end

first_and_more : {source print : List ℕ} {child : Slot → Context → List Piece} {line end : Bool} {k : Slot} {p : Context} {x : Step} {steps : List Step} {ts : List Terminal} → ((mid : Bool) (ws : List Terminal) → Spells source print mid (fill child (x ∷ steps)) ws end → Stepped source print child mid (x ∷ steps) ws end) → Split source print line (child k p) (fill child (x ∷ steps)) ts end → Stepped source print child line (step.Child k p ∷ x ∷ steps) ts end
first_and_more f (both h m) = next h (f _ _ m)

-- what the pieces of steps are, are their steps
stepped : {source print : List ℕ} {child : Slot → Context → List Piece} {line end : Bool} (steps : List Step) {ts : List Terminal} → Spells source print line (fill child steps) ts end → Stepped source print child line steps ts end
stepped [] nothing = stop
stepped (step.Sign s ∷ steps) (ends_line h) = new_line (stepped steps h)
stepped (step.Sign s ∷ steps) (a_sign n e h) = put n e (stepped steps h)
stepped {source = source} {print = print} {child = child} {line = line} {end = end} (step.Child k p ∷ []) {ts = ts} h = last (subst (λ z. Spells source print line z ts end) (append-nil (child k p)) h)
stepped {child = child} (step.Child k p ∷ x ∷ steps) h = first_and_more (λ mid ws m. stepped (x ∷ steps) m) (split_at (child k p) (fill child (x ∷ steps)) h)

-- a sign that may be left out, as steps
abbrev pub sign_step : Option Sign → List Step
sign_step None = []
sign_step (Some s) = step.Sign s ∷ []

-- steps between the signs that their context asks for
abbrev pub surrounded : Context → Rank → List Step → List Step
surrounded p r steps = sign_step (opening p r) ++ (steps ++ sign_step (closing p r))

fill_both : (child : Slot → Context → List Piece) (xs ys : List Step) → fill child (xs ++ ys) ≡ fill child xs ++ fill child ys
fill_both child [] ys = refl
fill_both child (step.Sign s ∷ xs) ys = ap (λ z. piece.Sign s ∷ z) (fill_both child xs ys)
fill_both child (step.Child k p ∷ xs) ys = ap (λ z. child k p ++ z) (fill_both child xs ys) ∙ sym (append_assoc (child k p) (fill child xs) (fill child ys))

fill_sign : (child : Slot → Context → List Piece) (s : Option Sign) → fill child (sign_step s) ≡ sign_piece s
fill_sign child None = refl
fill_sign child (Some s) = refl

around_fill : (child : Slot → Context → List Piece) (p : Context) (r : Rank) (steps : List Step) → around p r (fill child steps) ≡ fill child (surrounded p r steps)
around_fill child p r steps = sym (fill_both child (sign_step (opening p r)) (steps ++ sign_step (closing p r))
    ∙ ap (λ z. z ++ fill child (steps ++ sign_step (closing p r))) (fill_sign child (opening p r))
    ∙ ap (λ z. sign_piece (opening p r) ++ z) (fill_both child steps (sign_step (closing p r)) ∙ ap (λ z. fill child steps ++ z) (fill_sign child (closing p r))))

stepped_around : {source print : List ℕ} (child : Slot → Context → List Piece) (p : Context) (r : Rank) (steps : List Step) {line end : Bool} {ts : List Terminal} → Spells source print line (around p r (fill child steps)) ts end → Stepped source print child line (surrounded p r steps) ts end
stepped_around {source = source} {print = print} child p r steps {line = line} {end = end} {ts = ts} h = stepped (surrounded p r steps) (subst (λ z. Spells source print line z ts end) (around_fill child p r steps) h)

-- the children of a node
abbrev pub one_child : Tree → Slot → Context → List Piece
one_child a = chosen (printed a) no_pieces no_pieces no_pieces no_pieces

abbrev pub two_children : Tree → Tree → Slot → Context → List Piece
two_children a b = chosen (printed a) (printed b) no_pieces no_pieces no_pieces

abbrev pub three_children : Tree → Tree → Tree → Slot → Context → List Piece
three_children a b c = chosen (printed a) (printed b) (printed c) no_pieces no_pieces

abbrev pub four_children : Tree → Tree → Tree → Tree → Slot → Context → List Piece
four_children a b c d = chosen (printed a) (printed b) (printed c) (printed d) no_pieces

abbrev pub five_children : Tree → Tree → Tree → Tree → Tree → Slot → Context → List Piece
five_children a b c d e = chosen (printed a) (printed b) (printed c) (printed d) (printed e)

-- the tokens of a node in a context
pub step_one : {source print : List ℕ} (form : OneChild) (s : ℕ) (a : Tree) (p : Context) {line end : Bool} {ts : List Terminal} → Spells source print line (printed (One form s a) p) ts end → Stepped source print (one_child a) line (surrounded p rank.Base (one form (inner p))) ts end
unfolding printed
step_one form s a p h = stepped_around (one_child a) p rank.Base (one form (inner p)) h

pub step_two : {source print : List ℕ} (form : TwoChildren) (s : ℕ) (a b : Tree) (p : Context) {line end : Bool} {ts : List Terminal} → Spells source print line (printed (Two form s a b) p) ts end → Stepped source print (two_children a b) line (surrounded p (rank_of_two form) (two form (inner p))) ts end
unfolding printed
step_two form s a b p h = stepped_around (two_children a b) p (rank_of_two form) (two form (inner p)) h

pub step_three : {source print : List ℕ} (form : ThreeChildren) (s : ℕ) (a b c : Tree) (p : Context) {line end : Bool} {ts : List Terminal} → Spells source print line (printed (Three form s a b c) p) ts end → Stepped source print (three_children a b c) line (surrounded p (rank_of_three form) (three form)) ts end
unfolding printed
step_three form s a b c p h = stepped_around (three_children a b c) p (rank_of_three form) (three form) h

pub step_four : {source print : List ℕ} (form : FourChildren) (s : ℕ) (a b c d : Tree) (p : Context) {line end : Bool} {ts : List Terminal} → Spells source print line (printed (Four form s a b c d) p) ts end → Stepped source print (four_children a b c d) line (surrounded p rank.Base (four form)) ts end
unfolding printed
step_four form s a b c d p h = stepped_around (four_children a b c d) p rank.Base (four form) h

pub step_five : {source print : List ℕ} (form : FiveChildren) (s : ℕ) (a b c d e : Tree) (p : Context) {line end : Bool} {ts : List Terminal} → Spells source print line (printed (Five form s a b c d e) p) ts end → Stepped source print (five_children a b c d e) line (surrounded p rank.Base (five form)) ts end
unfolding printed
step_five form s a b c d e p h = stepped_around (five_children a b c d e) p rank.Base (five form) h
