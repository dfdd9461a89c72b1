-- The tree of a number, over the trees of the nodes before it.
use Rattle.std.proofs.Common.{◌≡◌, ℕ, zero, suc, ◌+◌, ◌<◌, ◌≤◌, true, false, nat_lt, List, [], ◌∷◌, ◌++◌, length, Some, None, refl, sym, ap, ◌∙◌, arith, length-append}
use Rattle.std.specs.Prelude.{slice_get}
use Rattle.std.proofs.lemmas.Bool.{ltb-true, ltb-false}
use Rattle.std.proofs.lemmas.List.{get_or_past, get_or_append_left, get_or_push}
use Rattle.ink_grammar.specs.declared.tree.Node.{Node}
use Rattle.ink_grammar.specs.Tree.{Tree, Missing}
use Rattle.ink_grammar.specs.Built.{at, grow, onto, trees}

-- a node of this number, between those before and behind it
pub split : (ns : List Node) (k : ℕ) (x : Node) → slice_get ns k ≡ Some x → (b : List Node) × (a : List Node) × (ns ≡ b ++ x ∷ a) × (length b ≡ k)
split [] k x e = let bad : None ≡ Some x = e in cc
split (y ∷ ys) zero x e = let same : y ≡ x = cc in ([], ys, ap (λ z. z ∷ ys) same, refl)
split (y ∷ ys) (suc k) x e = let r = split ys k x e in (y ∷ r.0, r.1, ap (λ z. y ∷ z) r.2, ap suc r.3)

onto_both : (ts : List Tree) (xs ys : List Node) → onto ts (xs ++ ys) ≡ onto (onto ts xs) ys
onto_both ts [] ys = refl
onto_both ts (x ∷ xs) ys = onto_both (ts ++ grow ts x ∷ []) xs ys

onto_length : (ts : List Tree) (ns : List Node) → length (onto ts ns) ≡ length ts + length ns
onto_length ts [] = omega arith
onto_length ts (n ∷ ns) = omega (arith, onto_length (ts ++ grow ts n ∷ []) ns, length-append ts (grow ts n ∷ []))

-- a known tree stays
onto_keeps : (ts : List Tree) (ns : List Node) (c : ℕ) → c < length ts → at (onto ts ns) c ≡ at ts c
onto_keeps ts [] c h = refl
onto_keeps ts (n ∷ ns) c h = onto_keeps (ts ++ grow ts n ∷ []) ns c (omega (arith, length-append ts (grow ts n ∷ []))) ∙ get_or_append_left ts (grow ts n ∷ []) Missing c h

-- past the nodes there is nothing
pub tree_past : (ns : List Node) (k : ℕ) → slice_get ns k ≡ None → at (trees ns) k ≡ Missing
unfolding trees
tree_past ns k e = get_or_past (onto [] ns) k Missing (omega (arith, onto_length [] ns, none_past ns k e)) where
  none_past : (xs : List Node) (i : ℕ) → slice_get xs i ≡ None → length xs ≤ i
  none_past [] i h = omega arith
  none_past (x ∷ xs) zero h = let bad : Some x ≡ None = h in cc
  none_past (x ∷ xs) (suc i) h = omega (arith, none_past xs i h)

module _ (b a : List Node) (x : Node) (k : ℕ) (l : length b ≡ k) where
  before : List Tree
  before = onto [] b

  before_length : length before ≡ k
  unfolding before
  before_length = omega (arith, onto_length [] b)

  -- the tree of a node is made of those before it
  pub tree_at : at (trees (b ++ x ∷ a)) k ≡ grow (trees b) x
  unfolding trees before
  tree_at = ap (λ t. at t k) (onto_both [] b (x ∷ a)) ∙ onto_keeps (before ++ grow before x ∷ []) a k (omega (arith, before_length, length-append before (grow before x ∷ []))) ∙ get_or_push before (grow before x) Missing k before_length

  -- a child before it is the tree of that number
  pub tree_before : (c : ℕ) → nat_lt c k ≡ true → at (trees (b ++ x ∷ a)) c ≡ at (trees b) c
  unfolding trees before
  tree_before c e = let h : c < k = ltb-true c k e in ap (λ t. at t c) (onto_both [] b (x ∷ a)) ∙ onto_keeps before (x ∷ a) c (omega (arith, before_length))

  -- another child is none
  pub tree_behind : (c : ℕ) → nat_lt c k ≡ false → Missing ≡ at (trees b) c
  unfolding trees before
  tree_behind c e = let h : k ≤ c = ltb-false c k e in sym (get_or_past before c Missing (omega (arith, before_length)))
