-- How many turns the work that is still to do takes.
use Rattle.std.proofs.Common.{◌≡◌, ℕ, ◌+◌, ◌<◌, ◌≤◌, true, false, nat_lt, List, [], ◌∷◌, ◌++◌, length, map, Option, Some, None, refl, sym, ap, ◌∙◌, if◌then◌else◌, arith}
use Rattle.std.specs.Prelude.{slice_get}
use Rattle.ink_grammar.proofs.Bools.{by_cases}
use Rattle.ink_grammar.specs.declared.tree.Node.{Node}
use Rattle.ink_grammar.specs.declared.tree.Node.TheVariants as node
use Rattle.ink_grammar.specs.Tree.{Tree, Missing, Leaf, Empty, One, Two, Three, Four, Five}
use Rattle.ink_grammar.specs.Built.{at, grow, trees}
use Rattle.ink_print.specs.declared.context.Context.{Context}
use Rattle.ink_print.specs.declared.step.Sign.{Sign}
use Rattle.ink_print.specs.declared.step.Slot.{Slot}
use Rattle.ink_print.specs.declared.step.Step.{Step}
use Rattle.ink_print.specs.declared.step.Step.TheVariants as step
use Rattle.ink_print.specs.declared.work.Work.{Work}
use Rattle.ink_print.specs.declared.work.Work.TheVariants as work
use Rattle.ink_print.specs.Table.{one, two, three, four, five}
use Rattle.ink_print.specs.Surround.{opening, closing, inner}
use Rattle.ink_print.specs.Printed.{chosen}
use Rattle.ink_print.specs.Work.{child, rank_of, steps_of, child_work, work_of, sign_work, token_work, expansion, work_at, opened}
use Rattle.ink_print.proofs.Trees.{split, tree_past, tree_at, tree_before, tree_behind}
use Rattle.ink_print.proofs.Told.{each_child}

-- the turns of some steps, given those of each child
abbrev pub count : (Slot → Context → ℕ) → List Step → ℕ
count f [] = 0
count f (step.Sign s ∷ steps) = 1 + count f steps
count f (step.Child k p ∷ steps) = f k p + count f steps

-- the turn of a child that isn't there
abbrev pub one_turn : Context → ℕ
one_turn p = 1

-- the turns of a tree
unfoldable pub turns : Tree → Context → ℕ
turns Missing p = 1
turns (Leaf t) p = 4
turns Empty p = 3
turns (One form s a) p = 3 + count (chosen (turns a) one_turn one_turn one_turn one_turn) (one form (inner p))
turns (Two form s a b) p = 3 + count (chosen (turns a) (turns b) one_turn one_turn one_turn) (two form (inner p))
turns (Three form s a b c) p = 3 + count (chosen (turns a) (turns b) (turns c) one_turn one_turn) (three form)
turns (Four form s a b c d) p = 3 + count (chosen (turns a) (turns b) (turns c) (turns d) one_turn) (four form)
turns (Five form s a b c d e) p = 3 + count (chosen (turns a) (turns b) (turns c) (turns d) (turns e)) (five form)

-- the turns of one work
abbrev pub turns_of : List Tree → Work → ℕ
turns_of ts work.Nothing = 1
turns_of ts (work.Piece p) = 1
turns_of ts (work.Node c p) = turns (at ts c) p

-- the turns of all work
unfoldable pub cost : List Tree → List Work → ℕ
cost ts [] = 0
cost ts (w ∷ ws) = turns_of ts w + cost ts ws

pub cost_next : (ts : List Tree) (w : Work) (ws : List Work) → cost ts (w ∷ ws) ≡ turns_of ts w + cost ts ws
unfolding cost
cost_next ts w ws = refl

pub cost_both : (ts : List Tree) (vs ws : List Work) → cost ts (vs ++ ws) ≡ cost ts vs + cost ts ws
unfolding cost
cost_both ts [] ws = omega arith
cost_both ts (v ∷ vs) ws = omega (arith, cost_both ts vs ws)

cost_sign : (ts : List Tree) (s : Option Sign) → cost ts (sign_work s) ≤ 1
unfolding cost
cost_sign ts None = omega arith
cost_sign ts (Some s) = omega arith

cost_steps : (ts : List Tree) (x : Node) (k : ℕ) (f : Slot → Context → ℕ) → ((s : Slot) (p : Context) → turns_of ts (child_work k (child x s) p) ≡ f s p) → (steps : List Step) → cost ts (map (work_of x k) steps) ≡ count f steps
unfolding cost
cost_steps ts x k f h [] = refl
cost_steps ts x k f h (step.Sign s ∷ steps) = ap (λ y. 1 + y) (cost_steps ts x k f h steps)
cost_steps ts x k f h (step.Child s p ∷ steps) = ap (λ y. y + cost ts (map (work_of x k) steps)) (h s p) ∙ ap (λ y. f s p + y) (cost_steps ts x k f h steps)

-- the turns of a node's work are those of its steps, and one for each sign
cost_between : (ts : List Tree) (o c : Option Sign) (ws : List Work) (n : ℕ) → cost ts ws ≡ n → cost ts (sign_work o ++ (ws ++ sign_work c)) < 3 + n
cost_between ts o c ws n e = omega (arith, cost_both ts (sign_work o) (ws ++ sign_work c), cost_both ts ws (sign_work c), cost_sign ts o, cost_sign ts c)

cost_one : (ts : List Tree) (w : Work) → cost ts (w ∷ []) ≡ turns_of ts w
unfolding cost
cost_one ts w = omega arith

cost_none : (ts : List Tree) → cost ts [] ≡ 0
unfolding cost
cost_none ts = refl

module _ (ts us : List Tree) (k : ℕ) (near : (c : ℕ) → nat_lt c k ≡ true → at ts c ≡ at us c) (far : (c : ℕ) → nat_lt c k ≡ false → Missing ≡ at us c) where
  turns_missing : (t : Tree) (p : Context) → Missing ≡ t → 1 ≡ turns t p
  unfolding turns
  turns_missing t p e = ap (λ y. turns y p) e

  turns_child : (c : ℕ) (p : Context) → turns_of ts (child_work k (Some c) p) ≡ turns (at us c) p
  turns_child c p = by_cases (nat_lt c k)
      (λ e. ap (λ b. turns_of ts (if b then work.Node c p else work.Nothing)) e ∙ ap (λ y. turns y p) (near c e))
      (λ e. ap (λ b. turns_of ts (if b then work.Node c p else work.Nothing)) e ∙ turns_missing (at us c) p (far c e))

  none : (p : Context) → turns_of ts (child_work k None p) ≡ one_turn p
  none p = refl

  pub cost_node : (x : Node) (p : Context) → cost ts (expansion x k p) < turns (grow us x) p
  unfolding turns
  cost_node (node.Leaf t) p = cost_between ts (opening p (rank_of (node.Leaf t))) (closing p (rank_of (node.Leaf t))) (token_work (node.Leaf t) p) 1 (cost_one ts _)
  cost_node node.Empty p = cost_between ts (opening p (rank_of node.Empty)) (closing p (rank_of node.Empty)) [] 0 (cost_none ts)
  cost_node (node.One f s a) p = let x : Node = node.One f s a in
      cost_between ts (opening p (rank_of x)) (closing p (rank_of x)) (map (work_of x k) (steps_of x (inner p))) _
      (cost_steps ts x k (chosen (turns (at us a)) one_turn one_turn one_turn one_turn) (each_child (turns_of ts) k (Some a) None None None None (turns (at us a)) one_turn one_turn one_turn one_turn (turns_child a) none none none none) (steps_of x (inner p)))
  cost_node (node.Two f s a b) p = let x : Node = node.Two f s a b in
      cost_between ts (opening p (rank_of x)) (closing p (rank_of x)) (map (work_of x k) (steps_of x (inner p))) _
      (cost_steps ts x k (chosen (turns (at us a)) (turns (at us b)) one_turn one_turn one_turn) (each_child (turns_of ts) k (Some a) (Some b) None None None (turns (at us a)) (turns (at us b)) one_turn one_turn one_turn (turns_child a) (turns_child b) none none none) (steps_of x (inner p)))
  cost_node (node.Three f s a b c) p = let x : Node = node.Three f s a b c in
      cost_between ts (opening p (rank_of x)) (closing p (rank_of x)) (map (work_of x k) (steps_of x (inner p))) _
      (cost_steps ts x k (chosen (turns (at us a)) (turns (at us b)) (turns (at us c)) one_turn one_turn) (each_child (turns_of ts) k (Some a) (Some b) (Some c) None None (turns (at us a)) (turns (at us b)) (turns (at us c)) one_turn one_turn (turns_child a) (turns_child b) (turns_child c) none none) (steps_of x (inner p)))
  cost_node (node.Four f s a b c d) p = let x : Node = node.Four f s a b c d in
      cost_between ts (opening p (rank_of x)) (closing p (rank_of x)) (map (work_of x k) (steps_of x (inner p))) _
      (cost_steps ts x k (chosen (turns (at us a)) (turns (at us b)) (turns (at us c)) (turns (at us d)) one_turn) (each_child (turns_of ts) k (Some a) (Some b) (Some c) (Some d) None (turns (at us a)) (turns (at us b)) (turns (at us c)) (turns (at us d)) one_turn (turns_child a) (turns_child b) (turns_child c) (turns_child d) none) (steps_of x (inner p)))
  cost_node (node.Five f s a b c d e) p = let x : Node = node.Five f s a b c d e in
      cost_between ts (opening p (rank_of x)) (closing p (rank_of x)) (map (work_of x k) (steps_of x (inner p))) _
      (cost_steps ts x k (chosen (turns (at us a)) (turns (at us b)) (turns (at us c)) (turns (at us d)) (turns (at us e))) (each_child (turns_of ts) k (Some a) (Some b) (Some c) (Some d) (Some e) (turns (at us a)) (turns (at us b)) (turns (at us c)) (turns (at us d)) (turns (at us e)) (turns_child a) (turns_child b) (turns_child c) (turns_child d) (turns_child e)) (steps_of x (inner p)))

module _ (ns : List Node) (k : ℕ) (p : Context) where
  missing : (t : Tree) → t ≡ Missing → 1 ≡ turns t p
  unfolding turns
  missing t e = ap (λ y. turns y p) (sym e)

  within : (x : Node) (b a : List Node) → ns ≡ b ++ x ∷ a → length b ≡ k → cost (trees ns) (expansion x k p) < turns (at (trees ns) k) p
  within x b a e l =
      let f : turns (at (trees ns) k) p ≡ turns (grow (trees b) x) p = ap (λ y. turns (at (trees y) k) p) e ∙ ap (λ y. turns y p) (tree_at b a x k l) in
      omega (arith, cost_node (trees ns) (trees b) k (λ c h. ap (λ y. at (trees y) c) e ∙ tree_before b a x k l c h) (λ c h. tree_behind b a x k l c h) x p, f)

  by_node : (o : Option Node) → slice_get ns k ≡ o → cost (trees ns) (opened ns k p) < turns (at (trees ns) k) p
  by_node None e = omega (arith, ap (λ y. cost (trees ns) (work_at y k p)) e, cost_none (trees ns), missing (at (trees ns) k) (tree_past ns k e))
  by_node (Some x) e = let r = split ns k x e in omega (arith, ap (λ y. cost (trees ns) (work_at y k p)) e, within x r.0 r.1 r.2 r.3)

  -- the work of a number takes fewer turns than the number
  pub cost_opened : cost (trees ns) (opened ns k p) < turns (at (trees ns) k) p
  cost_opened = by_node (slice_get ns k) refl
