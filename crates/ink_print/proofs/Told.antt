-- What the work that is still to do will print.
use Rattle.std.proofs.Common.{◌≡◌, ℕ, true, false, nat_lt, List, [], ◌∷◌, ◌++◌, length, map, Option, Some, None, refl, sym, ap, ◌∙◌, if◌then◌else◌}
use Rattle.std.specs.Prelude.{slice_get}
use Rattle.std.proofs.lemmas.List.{append_assoc}
use Rattle.ink_grammar.proofs.Bools.{by_cases}
use Rattle.ink_grammar.specs.declared.tree.Node.{Node}
use Rattle.ink_grammar.specs.declared.tree.Node.TheVariants as node
use Rattle.ink_grammar.specs.Tree.{Tree, Missing}
use Rattle.ink_grammar.specs.Built.{at, grow, trees}
use Rattle.ink_print.specs.declared.context.Context.{Context}
use Rattle.ink_print.specs.declared.step.Piece.{Piece}
use Rattle.ink_print.specs.declared.step.Piece.TheVariants as piece
use Rattle.ink_print.specs.declared.step.Sign.{Sign}
use Rattle.ink_print.specs.declared.step.Slot.{Slot}
use Rattle.ink_print.specs.declared.step.Slot.TheVariants as slot
use Rattle.ink_print.specs.declared.step.Step.{Step}
use Rattle.ink_print.specs.declared.step.Step.TheVariants as step
use Rattle.ink_print.specs.declared.work.Work.{Work}
use Rattle.ink_print.specs.declared.work.Work.TheVariants as work
use Rattle.ink_print.specs.Surround.{opening, closing, inner}
use Rattle.ink_print.specs.Printed.{chosen, fill, sign_piece, token_piece, no_pieces, printed}
use Rattle.ink_print.specs.Work.{child, rank_of, steps_of, child_work, work_of, sign_work, token_work, expansion, work_at, opened}
use Rattle.ink_print.proofs.Trees.{split, tree_past, tree_at, tree_before, tree_behind}

-- the pieces of one work
abbrev pub said : List Tree → Work → List Piece
said ts work.Nothing = []
said ts (work.Piece p) = p ∷ []
said ts (work.Node c p) = printed (at ts c) p

-- the pieces of all work
unfoldable pub told : List Tree → List Work → List Piece
told ts [] = []
told ts (w ∷ ws) = said ts w ++ told ts ws

pub told_none : (ts : List Tree) → told ts [] ≡ []
unfolding told
told_none ts = refl

pub told_next : (ts : List Tree) (w : Work) (ws : List Work) → told ts (w ∷ ws) ≡ said ts w ++ told ts ws
unfolding told
told_next ts w ws = refl

pub told_both : (ts : List Tree) (vs ws : List Work) → told ts (vs ++ ws) ≡ told ts vs ++ told ts ws
unfolding told
told_both ts [] ws = refl
told_both ts (v ∷ vs) ws = ap (λ y. said ts v ++ y) (told_both ts vs ws) ∙ sym (append_assoc (said ts v) (told ts vs) (told ts ws))

-- what holds of each child's work holds of that in its slot
pub each_child : {A : Type 0} (f : Work → A) (k : ℕ) (a b c d e : Option ℕ) (ga gb gc gd ge : Context → A)
    → ((p : Context) → f (child_work k a p) ≡ ga p) → ((p : Context) → f (child_work k b p) ≡ gb p) → ((p : Context) → f (child_work k c p) ≡ gc p)
    → ((p : Context) → f (child_work k d p) ≡ gd p) → ((p : Context) → f (child_work k e p) ≡ ge p)
    → (s : Slot) (p : Context) → f (child_work k (chosen a b c d e s) p) ≡ chosen ga gb gc gd ge s p
each_child f k a b c d e ga gb gc gd ge ha hb hc hd he slot.First p = ha p
each_child f k a b c d e ga gb gc gd ge ha hb hc hd he slot.Second p = hb p
each_child f k a b c d e ga gb gc gd ge ha hb hc hd he slot.Third p = hc p
each_child f k a b c d e ga gb gc gd ge ha hb hc hd he slot.Fourth p = hd p
each_child f k a b c d e ga gb gc gd ge ha hb hc hd he slot.Fifth p = he p

told_sign : (ts : List Tree) (s : Option Sign) → told ts (sign_work s) ≡ sign_piece s
unfolding told
told_sign ts None = refl
told_sign ts (Some s) = refl

-- the pieces of the steps of a node
told_steps : (ts : List Tree) (x : Node) (k : ℕ) (f : Slot → Context → List Piece) → ((s : Slot) (p : Context) → said ts (child_work k (child x s) p) ≡ f s p) → (steps : List Step) → told ts (map (work_of x k) steps) ≡ fill f steps
unfolding told
told_steps ts x k f h [] = refl
told_steps ts x k f h (step.Sign s ∷ steps) = ap (λ y. piece.Sign s ∷ y) (told_steps ts x k f h steps)
told_steps ts x k f h (step.Child s p ∷ steps) = ap (λ y. y ++ told ts (map (work_of x k) steps)) (h s p) ∙ ap (λ y. f s p ++ y) (told_steps ts x k f h steps)

-- the pieces of a node's work are those of its steps, between its signs
told_between : (ts : List Tree) (o c : Option Sign) (ws : List Work) (ps : List Piece) → told ts ws ≡ ps → told ts (sign_work o ++ (ws ++ sign_work c)) ≡ sign_piece o ++ (ps ++ sign_piece c)
told_between ts o c ws ps e = told_both ts (sign_work o) (ws ++ sign_work c) ∙ ap (λ y. y ++ told ts (ws ++ sign_work c)) (told_sign ts o)
    ∙ ap (λ y. sign_piece o ++ y) (told_both ts ws (sign_work c) ∙ ap (λ y. y ++ told ts (sign_work c)) e ∙ ap (λ y. ps ++ y) (told_sign ts c))

told_one : (ts : List Tree) (p : Piece) → told ts (work.Piece p ∷ []) ≡ p ∷ []
unfolding told
told_one ts p = refl

module _ (ts us : List Tree) (k : ℕ) (near : (c : ℕ) → nat_lt c k ≡ true → at ts c ≡ at us c) (far : (c : ℕ) → nat_lt c k ≡ false → Missing ≡ at us c) where
  printed_missing : (t : Tree) (p : Context) → Missing ≡ t → [] ≡ printed t p
  unfolding printed
  printed_missing t p e = ap (λ y. printed y p) e

  said_child : (c : ℕ) (p : Context) → said ts (child_work k (Some c) p) ≡ printed (at us c) p
  said_child c p = by_cases (nat_lt c k)
      (λ e. ap (λ b. said ts (if b then work.Node c p else work.Nothing)) e ∙ ap (λ y. printed y p) (near c e))
      (λ e. ap (λ b. said ts (if b then work.Node c p else work.Nothing)) e ∙ printed_missing (at us c) p (far c e))

  none : (p : Context) → said ts (child_work k None p) ≡ no_pieces p
  none p = refl

  pub told_node : (x : Node) (p : Context) → told ts (expansion x k p) ≡ printed (grow us x) p
  unfolding printed
  told_node (node.Leaf t) p = told_between ts (opening p (rank_of (node.Leaf t))) (closing p (rank_of (node.Leaf t))) (token_work (node.Leaf t) p) (token_piece p t ∷ []) (told_one ts (token_piece p t))
  told_node node.Empty p = told_between ts (opening p (rank_of node.Empty)) (closing p (rank_of node.Empty)) [] [] (told_none ts)
  told_node (node.One f s a) p = let x : Node = node.One f s a in
      told_between ts (opening p (rank_of x)) (closing p (rank_of x)) (map (work_of x k) (steps_of x (inner p))) _
      (told_steps ts x k (chosen (printed (at us a)) no_pieces no_pieces no_pieces no_pieces) (each_child (said ts) k (Some a) None None None None (printed (at us a)) no_pieces no_pieces no_pieces no_pieces (said_child a) none none none none) (steps_of x (inner p)))
  told_node (node.Two f s a b) p = let x : Node = node.Two f s a b in
      told_between ts (opening p (rank_of x)) (closing p (rank_of x)) (map (work_of x k) (steps_of x (inner p))) _
      (told_steps ts x k (chosen (printed (at us a)) (printed (at us b)) no_pieces no_pieces no_pieces) (each_child (said ts) k (Some a) (Some b) None None None (printed (at us a)) (printed (at us b)) no_pieces no_pieces no_pieces (said_child a) (said_child b) none none none) (steps_of x (inner p)))
  told_node (node.Three f s a b c) p = let x : Node = node.Three f s a b c in
      told_between ts (opening p (rank_of x)) (closing p (rank_of x)) (map (work_of x k) (steps_of x (inner p))) _
      (told_steps ts x k (chosen (printed (at us a)) (printed (at us b)) (printed (at us c)) no_pieces no_pieces) (each_child (said ts) k (Some a) (Some b) (Some c) None None (printed (at us a)) (printed (at us b)) (printed (at us c)) no_pieces no_pieces (said_child a) (said_child b) (said_child c) none none) (steps_of x (inner p)))
  told_node (node.Four f s a b c d) p = let x : Node = node.Four f s a b c d in
      told_between ts (opening p (rank_of x)) (closing p (rank_of x)) (map (work_of x k) (steps_of x (inner p))) _
      (told_steps ts x k (chosen (printed (at us a)) (printed (at us b)) (printed (at us c)) (printed (at us d)) no_pieces) (each_child (said ts) k (Some a) (Some b) (Some c) (Some d) None (printed (at us a)) (printed (at us b)) (printed (at us c)) (printed (at us d)) no_pieces (said_child a) (said_child b) (said_child c) (said_child d) none) (steps_of x (inner p)))
  told_node (node.Five f s a b c d e) p = let x : Node = node.Five f s a b c d e in
      told_between ts (opening p (rank_of x)) (closing p (rank_of x)) (map (work_of x k) (steps_of x (inner p))) _
      (told_steps ts x k (chosen (printed (at us a)) (printed (at us b)) (printed (at us c)) (printed (at us d)) (printed (at us e))) (each_child (said ts) k (Some a) (Some b) (Some c) (Some d) (Some e) (printed (at us a)) (printed (at us b)) (printed (at us c)) (printed (at us d)) (printed (at us e)) (said_child a) (said_child b) (said_child c) (said_child d) (said_child e)) (steps_of x (inner p)))

module _ (ns : List Node) (k : ℕ) (p : Context) where
  missing : (t : Tree) → t ≡ Missing → [] ≡ printed t p
  unfolding printed
  missing t e = ap (λ y. printed y p) (sym e)

  within : (x : Node) (b a : List Node) → ns ≡ b ++ x ∷ a → length b ≡ k → told (trees ns) (expansion x k p) ≡ printed (at (trees ns) k) p
  within x b a e l =
      let f : at (trees ns) k ≡ at (trees (b ++ x ∷ a)) k = ap (λ y. at (trees y) k) e in
      told_node (trees ns) (trees b) k (λ c h. ap (λ y. at (trees y) c) e ∙ tree_before b a x k l c h) (λ c h. tree_behind b a x k l c h) x p
      ∙ ap (λ y. printed y p) (sym (f ∙ tree_at b a x k l))

  by_node : (o : Option Node) → slice_get ns k ≡ o → told (trees ns) (opened ns k p) ≡ printed (at (trees ns) k) p
  by_node None e = ap (λ y. told (trees ns) (work_at y k p)) e ∙ told_none (trees ns) ∙ missing (at (trees ns) k) (tree_past ns k e)
  by_node (Some x) e = let r = split ns k x e in ap (λ y. told (trees ns) (work_at y k p)) e ∙ within x r.0 r.1 r.2 r.3

  -- the work of a number says what its tree is printed as
  pub told_opened : told (trees ns) (opened ns k p) ≡ printed (at (trees ns) k) p
  told_opened = by_node (slice_get ns k) refl
