-- What is known of the nodes that were read is what is known of their trees.
use Rattle.std.proofs.Common.{◌≡◌, ℕ, ◌+◌, ◌<◌, List, [], ◌∷◌, ◌++◌, length, map, take, get_or, refl, sym, ap, ◌∙◌, add-one}
use Rattle.std.proofs.lemmas.List.{map-append}
use Rattle.std.proofs.Math.ListN.{get_or-map}
use Rattle.std.proofs.Math.Seq.{take-suc}
use Rattle.ink_grammar.specs.declared.tree.Node.{Node}
use Rattle.ink_grammar.specs.declared.tree.Node.TheVariants as n
use Rattle.ink_grammar.specs.Tree.{Tree, Missing}
use Rattle.ink_grammar.specs.Built as built
use Rattle.ink_grammar.specs.Built.{grow, onto, trees}
use Rattle.ink_heights.specs.declared.measure.Measure.{Measure}
use Rattle.ink_heights.specs.Measures.{two, three, four, five}
use Rattle.ink_heights.specs.Heights.{measure}
use Rattle.ink_heights.specs.Known.{at, measured}

onto-push : (before : List Tree) (nodes : List Node) (node : Node) →
    onto before (nodes ++ node ∷ []) ≡ onto before nodes ++ grow (onto before nodes) node ∷ []
onto-push before [] node = refl
onto-push before (first ∷ nodes) node = onto-push (before ++ grow before first ∷ []) nodes node

trees-push : (nodes : List Node) (node : Node) → trees (nodes ++ node ∷ []) ≡ trees nodes ++ grow (trees nodes) node ∷ []
unfolding trees
trees-push nodes node = onto-push [] nodes node

pub trees-none : trees [] ≡ []
unfolding trees
trees-none = refl

-- what is known by a number is what is known of the tree of that number
pub known-at : (most : ℕ) (grown : List Tree) (number : ℕ) →
    at (map (measure most) grown) number ≡ measure most (built.at grown number)
known-at most grown number = get_or-map (measure most) grown number Missing

measured-grow : (most : ℕ) (grown : List Tree) (node : Node) →
    measured most (map (measure most) grown) node ≡ measure most (grow grown node)
unfolding measured
measured-grow most grown (n.Leaf token) = refl
measured-grow most grown n.Empty = refl
measured-grow most grown (n.One form start a) = known-at most grown a
measured-grow most grown (n.Two form start a b) =
    ap (λ x. two most form start x (at (map (measure most) grown) b)) (known-at most grown a)
    ∙ ap (λ y. two most form start (measure most (built.at grown a)) y) (known-at most grown b)
measured-grow most grown (n.Three form start a b c) =
    ap (λ x. three most form start x (at (map (measure most) grown) b) (at (map (measure most) grown) c)) (known-at most grown a)
    ∙ ap (λ y. three most form start (measure most (built.at grown a)) y (at (map (measure most) grown) c)) (known-at most grown b)
    ∙ ap (λ z. three most form start (measure most (built.at grown a)) (measure most (built.at grown b)) z) (known-at most grown c)
measured-grow most grown (n.Four form start a b c d) =
    ap (λ x. four most form start x (at (map (measure most) grown) c) (at (map (measure most) grown) d)) (known-at most grown b)
    ∙ ap (λ y. four most form start (measure most (built.at grown b)) y (at (map (measure most) grown) d)) (known-at most grown c)
    ∙ ap (λ z. four most form start (measure most (built.at grown b)) (measure most (built.at grown c)) z) (known-at most grown d)
measured-grow most grown (n.Five form start a b c d e) =
    ap (λ x. five form x (at (map (measure most) grown) e)) (known-at most grown d)
    ∙ ap (λ y. five form (measure most (built.at grown d)) y) (known-at most grown e)

-- one node more
pub known-more : (most : ℕ) (nodes : List Node) (i : ℕ) (known read more : List Measure) (last : Measure) (default : Node) →
    i < length nodes → known ≡ map (measure most) (trees (take i nodes)) →
    read ≡ known → last ≡ measured most read (get_or nodes i default) → more ≡ known ++ last ∷ [] →
    more ≡ map (measure most) (trees (take (i + 1) nodes))
known-more most nodes i known read more last default inside is_known is_read is_last is_more =
    let node = get_or nodes i default in
    let grown = trees (take i nodes) in
    let is_next : last ≡ measure most (grow grown node) =
    is_last ∙ ap (λ k. measured most k node) (is_read ∙ is_known) ∙ measured-grow most grown node in
    let is_taken : take (i + 1) nodes ≡ take i nodes ++ node ∷ [] = rw add-one (take-suc nodes i default inside) in
    is_more ∙ ap (λ k. k ++ last ∷ []) is_known
    ∙ ap (λ m. map (measure most) grown ++ m ∷ []) is_next
    ∙ sym (map-append (measure most) grown (grow grown node ∷ []))
    ∙ ap (map (measure most)) (sym (trees-push (take i nodes) node))
    ∙ ap (λ ns. map (measure most) (trees ns)) (sym is_taken)
