-- The steps of what is read are those of the trees that it shows.
use Rattle.std.proofs.Common.{◌≡◌, ℕ, List, [], ◌∷◌, ◌++◌, Option, Some, None, refl, ap, ◌∙◌}
use Rattle.ink_forms.specs.declared.arena.Arena.{Arena}
use Rattle.ink_forms.specs.declared.expr.Arm.{Arm}
use Rattle.ink_forms.specs.declared.expr.Argument.{Argument}
use Rattle.ink_forms.specs.declared.expr.Expr.{Expr}
use Rattle.ink_forms.specs.declared.expr.Expr.TheVariants as e
use Rattle.ink_forms.specs.Trees.{Spot}
use Rattle.ink_forms.specs.Built.{Lists, Item, spot, grow_term}
use Rattle.ink_forms.specs.Order.{number_of, all, all_arguments, all_arms, guarded, step, steps, argument_steps, guard_steps, arm_steps}
use Rattle.ink_forms.specs.Views as view
use Rattle.ink_forms.proofs.Readers.{term_of_node}

number_grown : (ls : Lists) (ts : List Item) (s : Spot) (x : Expr) → number_of (grow_term ls ts s x) ≡ s.number
number_grown ls ts s (e.Lit x) = refl
number_grown ls ts s (e.Var x) = refl
number_grown ls ts s e.SelfValue = refl
number_grown ls ts s (e.Field x a) = refl
number_grown ls ts s (e.Borrow x a) = refl
number_grown ls ts s (e.Set a b) = refl
number_grown ls ts s (e.Swap a b) = refl
number_grown ls ts s (e.Let x a) = refl
number_grown ls ts s (e.TypedLet x t a) = refl
number_grown ls ts s (e.Block k c) = refl
number_grown ls ts s (e.New x c) = refl
number_grown ls ts s (e.NewOf x y c) = refl
number_grown ls ts s (e.Arr c) = refl
number_grown ls ts s (e.Call x a c) = refl
number_grown ls ts s (e.Operate x a b) = refl
number_grown ls ts s (e.Fn x c) = refl
number_grown ls ts s (e.Static x y c) = refl
number_grown ls ts s (e.Match x a c) = refl
number_grown ls ts s (e.Loop a) = refl
number_grown ls ts s e.Break = refl
number_grown ls ts s e.Next = refl
number_grown ls ts s (e.Return a) = refl
number_grown ls ts s (e.Recover a) = refl
number_grown ls ts s (e.Panic c) = refl
number_grown ls ts s (e.Drop a) = refl
number_grown ls ts s (e.Statement a) = refl

-- an expression has the number by which it is read
pub number_read : (a : Arena) (n : ℕ) → number_of (view.term a n) ≡ n
number_read a n = let r = term_of_node (view.lists_of a) a.nodes.items n a.fit in ap number_of r.1 ∙ number_grown (view.lists_of a) (view.items_of a) (spot n r.0.start r.0.place) r.0.expr

pub all_read : (a : Arena) (ns : List ℕ) → all (view.terms a ns) ≡ steps ns
all_read a [] = refl
all_read a (n ∷ ns) = ap (λ k. step k ∷ all (view.terms a ns)) (number_read a n) ∙ ap (λ ks. step n ∷ ks) (all_read a ns)

pub arguments_read : (a : Arena) (xs : List Argument) → all_arguments (view.arguments a xs) ≡ argument_steps xs
arguments_read a [] = refl
arguments_read a (x ∷ xs) = ap (λ k. step k ∷ all_arguments (view.arguments a xs)) (number_read a x.value) ∙ ap (λ ks. step x.value ∷ ks) (arguments_read a xs)

guard_read : (a : Arena) (o : Option ℕ) → guarded (view.guard a o) ≡ guard_steps o
guard_read a None = refl
guard_read a (Some n) = ap (λ k. step k ∷ []) (number_read a n)

pub arms_read : (a : Arena) (xs : List Arm) → all_arms (view.arms a xs) ≡ arm_steps xs
arms_read a [] = refl
arms_read a (x ∷ xs) =
    ap (λ gs. gs ++ (step (number_of (view.term a x.value)) ∷ all_arms (view.arms a xs))) (guard_read a x.guard)
    ∙ ap (λ k. guard_steps x.guard ++ (step k ∷ all_arms (view.arms a xs))) (number_read a x.value)
    ∙ ap (λ ks. guard_steps x.guard ++ (step x.value ∷ ks)) (arms_read a xs)
