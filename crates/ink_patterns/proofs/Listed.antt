-- The table at the items of a list.
use Rattle.std.proofs.Common.{◌≡◌, ℕ, List, [], ◌∷◌, ◌++◌, map, refl, sym, ap, ◌∙◌}
use Rattle.std.proofs.lemmas.List.{map-append}
use Rattle.ink_grammar.specs.declared.tree.TwoChildren.TheVariants as two_of
use Rattle.ink_grammar.specs.Tree.{Tree, Two}
use Rattle.ink_grammar.specs.Views.{tree_at}
use Rattle.ink_forms.specs.Trees.{Written, Pat, OneField}
use Rattle.ink_lexicon.specs.declared.surface.Surface.{Surface}
use Rattle.ink_lexicon.specs.Trees.{items_of, alternatives_of}
use Rattle.ink_patterns.specs.Types.{written, written_in, types_at}
use Rattle.ink_patterns.specs.Patterns.{pattern, patterns_in, alternatives_in, fields_in, field, patterns_at, field_of}

map_map : {A B C : Type 0} (f : A → B) (g : B → C) (xs : List A) → map g (map f xs) ≡ map (λ x. g (f x)) xs
map_map f g [] = refl
map_map f g (x ∷ xs) = ap (λ ys. g (f x) ∷ ys) (map_map f g xs)

written_listed : (x : Surface) (list : Tree) → written_in x list ≡ map (written x) (items_of list)
unfolding written
written_listed x (Two two_of.More start list item) = ap (λ ts. ts ++ written x item ∷ []) (written_listed x list) ∙ sym (map-append (written x) (items_of list) (item ∷ []))
written_listed x _ = refl

pub types_at_items : (x : Surface) (numbers : List ℕ) (list : Tree) → map (tree_at x.module.now) numbers ≡ items_of list → types_at x numbers ≡ written_in x list
types_at_items x numbers list e = sym (map_map (tree_at x.module.now) (written x) numbers) ∙ ap (map (written x)) e ∙ sym (written_listed x list)

patterns_listed : (x : Surface) (list : Tree) → patterns_in x list ≡ map (pattern x) (items_of list)
unfolding pattern
patterns_listed x (Two two_of.More start list item) = ap (λ ts. ts ++ pattern x item ∷ []) (patterns_listed x list) ∙ sym (map-append (pattern x) (items_of list) (item ∷ []))
patterns_listed x _ = refl

pub patterns_at_items : (x : Surface) (numbers : List ℕ) (list : Tree) → map (tree_at x.module.now) numbers ≡ items_of list → patterns_at x numbers ≡ patterns_in x list
patterns_at_items x numbers list e = sym (map_map (tree_at x.module.now) (pattern x) numbers) ∙ ap (map (pattern x)) e ∙ sym (patterns_listed x list)

alternatives_listed : (x : Surface) (tree : Tree) → alternatives_in x tree (pattern x tree) ≡ map (pattern x) (alternatives_of tree)
unfolding pattern
alternatives_listed x (Two two_of.Either start a b) = ap (λ ts. ts ++ pattern x b ∷ []) (alternatives_listed x a) ∙ sym (map-append (pattern x) (alternatives_of a) (b ∷ []))
alternatives_listed x _ = refl

pub alternatives_at : (x : Surface) (numbers : List ℕ) (n : ℕ) (tree : Tree) → map (tree_at x.module.now) numbers ≡ alternatives_of tree →
    patterns_at x (numbers ++ n ∷ []) ≡ alternatives_in x tree (pattern x tree) ++ pattern x (tree_at x.module.now n) ∷ []
alternatives_at x numbers n tree e =
    map-append (λ k. pattern x (tree_at x.module.now k)) numbers (n ∷ [])
    ∙ ap (λ ts. ts ++ pattern x (tree_at x.module.now n) ∷ []) (sym (map_map (tree_at x.module.now) (pattern x) numbers) ∙ ap (map (pattern x)) e ∙ sym (alternatives_listed x tree))

pub fields_listed : (x : Surface) (list : Tree) → fields_in x list ≡ map (field x) (items_of list)
unfolding pattern
fields_listed x (Two two_of.More start list (Two two_of.FieldPattern at named part)) =
    let item = Two two_of.FieldPattern at named part in
    ap (λ ts. ts ++ field x item ∷ []) (fields_listed x list) ∙ sym (map-append (field x) (items_of list) (item ∷ []))
fields_listed x (Two two_of.More start list item) = ap (λ ts. ts ++ field x item ∷ []) (fields_listed x list) ∙ sym (map-append (field x) (items_of list) (item ∷ []))
fields_listed x _ = refl

pub fields_at_items : (x : Surface) (numbers : List ℕ) (list : Tree) → map (tree_at x.module.now) numbers ≡ items_of list → map (field_of x) numbers ≡ fields_in x list
fields_at_items x numbers list e = sym (map_map (tree_at x.module.now) (field x) numbers) ∙ ap (map (field x)) e ∙ sym (fields_listed x list)
