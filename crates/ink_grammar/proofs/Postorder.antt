-- Nodes that come each after its children: one more is read and added.
use Rattle.std.proofs.Common.{◌≡◌, ℕ, ◌+◌, ◌<◌, ◌≤◌, List, [], ◌∷◌, ◌++◌, Bool, true, false, if◌then◌else◌, Some, None, length, refl, sym, ap, subst, ◌∙◌, arith, length-append, append_assoc, zero, suc, zero-add}
use Rattle.std.specs.Prelude.{slice_get, Option}
use Rattle.std.specs.List.{AllByRecursion}
use Rattle.std.proofs.lemmas.List.Elements.{recursion_from_All, All-from_recursion}
use Rattle.std.proofs.lemmas.List.{get_or_at, get_or_past, append-nil}
use Rattle.ink_grammar.specs.declared.tree.Node.{Node}
use Rattle.ink_grammar.specs.declared.tree.Node.TheVariants as n
use Rattle.ink_grammar.specs.Tree.{Tree, Missing, no_node}
use Rattle.ink_grammar.specs.declared.tree.Module.{Module}
use Rattle.ink_grammar.specs.Views.{tree_at, tree_of, AreBefore}
use Rattle.ink_grammar.specs.Built.{at, grow, onto, trees, children, AreKnown, IsPostorder}
use Rattle.ink_grammar.proofs.Grown.{onto_length, trees_length, same_at}

-- more trees change no child of a node that is known
kept_at : (ts us : List Tree) (child : ℕ) → length (ts ++ us) ≤ no_node → (length ts ≤ child → child ≡ no_node) → at (ts ++ us) child ≡ at ts child
kept_at ts [] child few h = ap (λ y. at y child) (append-nil ts)
kept_at ts (u ∷ us) child few h =
    let longer : length ts + suc (length us) ≤ no_node = omega (arith, length-append ts (u ∷ us), few) in
    let one = same_at ts u child (omega arith) h in
    let more = kept_at (ts ++ u ∷ []) us child (omega (arith, few, ap length (append_assoc ts (u ∷ []) us))) (λ l. h (omega (arith, length-append ts (u ∷ [])))) in
    ap (λ y. at y child) (sym (append_assoc ts (u ∷ []) us)) ∙ more ∙ one

grow_kept : (ts us : List Tree) (node : Node) → length (ts ++ us) ≤ no_node → AreKnown (length ts) node → grow (ts ++ us) node ≡ grow ts node
grow_kept ts us (n.Leaf t) few h = refl
grow_kept ts us n.Empty few h = refl
grow_kept ts us (n.One form s a) few h = cc (kept_at ts us a few h.0)
grow_kept ts us (n.Two form s a b) few h = cc (kept_at ts us a few h.0, kept_at ts us b few h.1.0)
grow_kept ts us (n.Three form s a b c) few h = cc (kept_at ts us a few h.0, kept_at ts us b few h.1.0, kept_at ts us c few h.1.1.0)
grow_kept ts us (n.Four form s a b c d) few h =
    cc (kept_at ts us a few h.0, kept_at ts us b few h.1.0, kept_at ts us c few h.1.1.0, kept_at ts us d few h.1.1.1.0)
grow_kept ts us (n.Five form s a b c d e) few h =
    cc (kept_at ts us a few h.0, kept_at ts us b few h.1.0, kept_at ts us c few h.1.1.0, kept_at ts us d few h.1.1.1.0, kept_at ts us e few h.1.1.1.1.0)

-- the trees that were known stand first
onto_split : (ts : List Tree) (xs : List Node) → (us : List Tree) × (onto ts xs ≡ ts ++ us)
onto_split ts [] = ([], sym (append-nil ts))
onto_split ts (x ∷ xs) = let p = onto_split (ts ++ grow ts x ∷ []) xs in (grow ts x ∷ p.0, p.1 ∙ append_assoc ts (grow ts x ∷ []) p.0)

onto_at : (ts : List Tree) (xs : List Node) (i number : ℕ) (node : Node) → length ts + length xs ≤ no_node →
    slice_get xs i ≡ Some node → number ≡ length ts + i → AreKnown number node → at (onto ts xs) number ≡ grow (onto ts xs) node
onto_at ts [] i number node few e m h = cc
onto_at ts (x ∷ xs) zero number node few e m h =
    let same : x ≡ node = cc in
    let here : number ≡ length ts = omega arith in
    let g = grow ts x in
    let p = onto_split ts (x ∷ xs) in
    let q = onto_split (ts ++ g ∷ []) xs in
    let whole : onto ts (x ∷ xs) ≡ ts ++ (g ∷ q.0) = q.1 ∙ append_assoc ts (g ∷ []) q.0 in
    let short : length (ts ++ (g ∷ q.0)) ≤ no_node = omega (arith, ap length whole, onto_length ts (x ∷ xs), few) in
    ap (λ y. at y number) whole ∙ get_or_at ts g q.0 Missing number (sym here) ∙ ap (λ y. grow ts y) same
    ∙ sym (grow_kept ts (g ∷ q.0) node short (subst (λ k. AreKnown k node) here h)) ∙ ap (λ y. grow y node) (sym whole)
onto_at ts (x ∷ xs) (suc i) number node few e m h =
    onto_at (ts ++ grow ts x ∷ []) xs i number node (omega (arith, length-append ts (grow ts x ∷ []))) e (omega (arith, length-append ts (grow ts x ∷ []))) h

known_at : (xs : List Node) (number : ℕ) (node : Node) → IsPostorder xs → slice_get xs number ≡ Some node → AreKnown number node
known_at xs number node order e = recursion_from_All (λ child. number ≤ child → child ≡ no_node) (children node) (order.behind number node e)

-- the tree of a number is that of its node
pub tree_there : (xs : List Node) (number : ℕ) (node : Node) → IsPostorder xs → slice_get xs number ≡ Some node → at (trees xs) number ≡ grow (trees xs) node
unfolding trees
tree_there xs number node order e = onto_at [] xs number number node (omega (arith, order.few)) e (omega arith) (known_at xs number node order e)

-- past the nodes there is nothing
pub tree_past : (xs : List Node) (number : ℕ) → length xs ≤ number → at (trees xs) number ≡ Missing
tree_past xs number h = get_or_past (trees xs) number Missing (omega (arith, trees_length xs))

none_past : (xs : List Node) (number : ℕ) → None ≡ slice_get xs number → length xs ≤ number
none_past [] number e = omega arith
none_past (x ∷ xs) zero e = cc
none_past (x ∷ xs) (suc number) e = omega (arith, none_past xs number e)

missing_past : (xs : List Node) (number child : ℕ) → length xs ≤ no_node → (number ≤ child → child ≡ no_node) → number ≤ child → at (trees xs) child ≡ Missing
missing_past xs number child few h l = tree_past xs child (omega (arith, h l))

-- children that are known, and those of them that are no node
missing_all : (xs : List Node) (number : ℕ) (cs : List ℕ) → length xs ≤ no_node →
    AllByRecursion (λ child. number ≤ child → child ≡ no_node) cs → AllByRecursion (λ child. number ≤ child → at (trees xs) child ≡ Missing) cs
missing_all xs number [] few h = h
missing_all xs number (c ∷ cs) few h = (missing_past xs number c few h.0, missing_all xs number cs few h.1)

pub children_before : (xs : List Node) (number : ℕ) (node : Node) → IsPostorder xs → slice_get xs number ≡ Some node →
    AllByRecursion (λ child. number ≤ child → at (trees xs) child ≡ Missing) (children node)
children_before xs number node order e = missing_all xs number (children node) order.few (known_at xs number node order e)

-- what is read of a module by a number
pub node_tree : (m : Module) (number : ℕ) (node : Option Node) → IsPostorder m.nodes.items → node ≡ slice_get m.nodes.items number → tree_at m number ≡ tree_of m node
node_tree m number None order e = tree_past m.nodes.items number (none_past m.nodes.items number e)
node_tree m number (Some node) order e = tree_there m.nodes.items number node order (sym e)

pub node_before : (m : Module) (number : ℕ) (node : Option Node) → IsPostorder m.nodes.items → node ≡ slice_get m.nodes.items number → AreBefore m number node
node_before m number None order e = tt
node_before m number (Some node) order e = children_before m.nodes.items number node order (sym e)

-- one node more
one_more : (k : ℕ) (xs : List Node) (x : Node) → ((i : ℕ) (node : Node) → slice_get xs i ≡ Some node → AreKnown (k + i) node) → AreKnown (k + length xs) x →
    (i : ℕ) (node : Node) → slice_get (xs ++ x ∷ []) i ≡ Some node → AreKnown (k + i) node
one_more k [] x h known zero node e = let same : x ≡ node = cc in subst (λ y. AreKnown (k + zero) y) same known
one_more k [] x h known (suc i) node e = cc
one_more k (y ∷ xs) x h known zero node e = h zero node e
one_more k (y ∷ xs) x h known (suc i) node e =
    let s : (j : ℕ) → k + suc j ≡ suc k + j = λ j. omega arith in
    subst (λ m. AreKnown m node) (sym (s i))
    (one_more (suc k) xs x (λ j z f. subst (λ m. AreKnown m z) (s j) (h (suc j) z f)) (subst (λ m. AreKnown m x) (s (length xs)) known) i node e)

pub no_nodes : (xs : List Node) → xs ≡ [] → IsPostorder xs
no_nodes [] e = record { few = omega arith; behind = λ i node f. cc }
no_nodes (x ∷ xs) e = cc

pub added : (done : Bool) (xs ys : List Node) (x : Node) → ys ≡ (if done then xs ++ x ∷ [] else xs) → length xs < no_node → AreKnown (length xs) x → IsPostorder xs → IsPostorder ys
added true xs ys x e few known order = record {
  few = omega (arith, ap length e, length-append xs (x ∷ []));
  behind = λ i node f. All-from_recursion (λ child. i ≤ child → child ≡ no_node) (children node) (rw zero-add at (one_more 0 xs x (λ j z g. rw zero-add (known_at xs j z order g)) (rw zero-add known) i node (ap (λ y. slice_get y i) (sym e) ∙ f)));
}
added false xs ys x e few known order = subst IsPostorder (sym e) order
