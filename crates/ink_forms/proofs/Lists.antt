-- What a node more, or a list more, leaves as it was.
use Rattle.std.proofs.Common.{◌≡◌, ℕ, ◌-◌, ◌≤◌, List, [], ◌∷◌, ◌++◌, length, take, drop, Some, refl, sym, ap, subst, ◌∙◌, arith, length-append, length-drop, Bool, true, false, if◌then◌else◌}
use Rattle.std.specs.Prelude.{slice_get}
use Rattle.std.proofs.lemmas.List.{take-append-le, drop-append-le}
use Rattle.ink_forms.specs.declared.node.Node.{Node}
use Rattle.ink_forms.specs.declared.expr.Arm.{Arm}
use Rattle.ink_forms.specs.declared.expr.Argument.{Argument}
use Rattle.ink_forms.specs.declared.pattern.FieldPattern.{FieldPattern}
use Rattle.ink_forms.specs.Trees.{Term, Pat, Written, ParameterTree, MethodTree}
use Rattle.ink_forms.specs.Built.{Lists, Item, IsTerm, IsPat, IsWritten, IsParameter, IsMethod, all_lists, part, term_or, pat_or, written_or, parameter_or, method_or, term_at, pat_at, written_at, parameter_at, method_at, items}
use Rattle.ink_forms.specs.Fits.{AreFit}
use Rattle.ink_forms.specs.Kept.{Lengthened, Lengthens, Agrees}
use Rattle.ink_forms.proofs.Grown.{get_here, items_lists, items_length, items_push, more_items, same_items}

lengthened : {A : Type 0} (b : Bool) (xs ys zs : List A) → zs ≡ (if b then xs ++ ys else xs) → Lengthened xs zs
lengthened true xs ys zs e = λ c i j.
    ap (λ us. part us c) e
    ∙ ap (take (c.end - c.start)) (drop-append-le c.start xs ys (omega arith))
    ∙ take-append-le (c.end - c.start) (drop c.start xs) ys (omega (arith, length-drop c.start xs))
lengthened false xs ys zs e = λ c i j. ap (λ us. part us c) e

longer : {A : Type 0} (b : Bool) (xs ys zs : List A) → zs ≡ (if b then xs ++ ys else xs) → length xs ≤ length zs
longer true xs ys zs e = rw e (omega (arith, length-append xs ys))
longer false xs ys zs e = rw e (omega arith)

pub numbers_kept : (b : Bool) (ns ms ns' : List ℕ) (as' : List Arm) (xs : List Argument) (fs : List FieldPattern) → ns' ≡ (if b then ns ++ ms else ns) →
    Lengthens (all_lists ns as' xs fs) (all_lists ns' as' xs fs)
numbers_kept b ns ms ns' as' xs fs e = record {
  numbers = lengthened b ns ms ns' e;
  arms = λ c i j. refl;
  arguments = λ c i j. refl;
  fields = λ c i j. refl;
  more_numbers = longer b ns ms ns' e;
  more_arms = omega arith;
  more_arguments = omega arith;
  more_fields = omega arith;
}

pub arms_kept : (b : Bool) (ns : List ℕ) (as' bs cs : List Arm) (xs : List Argument) (fs : List FieldPattern) → cs ≡ (if b then as' ++ bs else as') →
    Lengthens (all_lists ns as' xs fs) (all_lists ns cs xs fs)
arms_kept b ns as' bs cs xs fs e = record {
  numbers = λ c i j. refl;
  arms = lengthened b as' bs cs e;
  arguments = λ c i j. refl;
  fields = λ c i j. refl;
  more_numbers = omega arith;
  more_arms = longer b as' bs cs e;
  more_arguments = omega arith;
  more_fields = omega arith;
}

pub arguments_kept : (b : Bool) (ns : List ℕ) (as' : List Arm) (xs ys zs : List Argument) (fs : List FieldPattern) → zs ≡ (if b then xs ++ ys else xs) →
    Lengthens (all_lists ns as' xs fs) (all_lists ns as' zs fs)
arguments_kept b ns as' xs ys zs fs e = record {
  numbers = λ c i j. refl;
  arms = λ c i j. refl;
  arguments = lengthened b xs ys zs e;
  fields = λ c i j. refl;
  more_numbers = omega arith;
  more_arms = omega arith;
  more_arguments = longer b xs ys zs e;
  more_fields = omega arith;
}

pub fields_kept : (b : Bool) (ns : List ℕ) (as' : List Arm) (xs : List Argument) (fs gs hs : List FieldPattern) → hs ≡ (if b then fs ++ gs else fs) →
    Lengthens (all_lists ns as' xs fs) (all_lists ns as' xs hs)
fields_kept b ns as' xs fs gs hs e = record {
  numbers = λ c i j. refl;
  arms = λ c i j. refl;
  arguments = λ c i j. refl;
  fields = lengthened b fs gs hs e;
  more_numbers = omega arith;
  more_arms = omega arith;
  more_arguments = omega arith;
  more_fields = longer b fs gs hs e;
}

pub trees_kept : (ls ls' : Lists) (xs : List Node) (n : ℕ) → Lengthens ls ls' → AreFit ls xs → Agrees n (items ls xs) (items ls' xs)
trees_kept ls ls' xs n l h = subst (λ (us : List Item). Agrees n (items ls xs) us) (sym (items_lists ls ls' xs l h)) (same_items n (items ls xs))

pub trees_pushed : (b : Bool) (ls : Lists) (xs ys : List Node) (x : Node) → ys ≡ (if b then xs ++ x ∷ [] else xs) → Agrees (length xs) (items ls xs) (items ls ys)
trees_pushed true ls xs ys x e =
    subst (λ (us : List Item). Agrees (length xs) (items ls xs) us) (sym (ap (items ls) e ∙ items_push ls xs x))
    (more_items (items ls xs) _ (length xs) (omega (arith, items_length ls xs)))
trees_pushed false ls xs ys x e = subst (λ (us : List Item). Agrees (length xs) (items ls xs) us) (sym (ap (items ls) e)) (same_items (length xs) (items ls xs))

pub nodes_more : (b : Bool) (xs ys : List Node) (x : Node) → ys ≡ (if b then xs ++ x ∷ [] else xs) → length xs ≤ length ys
nodes_more b xs ys x e = longer b xs (x ∷ []) ys e

-- the node that was made
at_end : (ts us : List Item) (i : Item) (n m : ℕ) → us ≡ ts ++ i ∷ [] → n ≡ m → length ts ≡ m → slice_get us n ≡ Some i
at_end ts us i n m e h k = ap (λ zs. slice_get zs n) e ∙ ap (slice_get (ts ++ i ∷ [])) (h ∙ sym k) ∙ get_here ts i []

module _ (ts us : List Item) (n m : ℕ) (h : n ≡ m) (k : length ts ≡ m) where
  pub term_made : (t : ℕ → Term) → us ≡ ts ++ IsTerm (t m) ∷ [] → term_at us n ≡ t n
  term_made t e = ap (term_or n) (at_end ts us (IsTerm (t m)) n m e h k) ∙ ap t (sym h)

  pub pat_made : (t : ℕ → Pat) → us ≡ ts ++ IsPat (t m) ∷ [] → pat_at us n ≡ t n
  pat_made t e = ap (pat_or n) (at_end ts us (IsPat (t m)) n m e h k) ∙ ap t (sym h)

  pub written_made : (t : ℕ → Written) → us ≡ ts ++ IsWritten (t m) ∷ [] → written_at us n ≡ t n
  written_made t e = ap (written_or n) (at_end ts us (IsWritten (t m)) n m e h k) ∙ ap t (sym h)

  pub parameter_made : (t : ℕ → ParameterTree) → us ≡ ts ++ IsParameter (t m) ∷ [] → parameter_at us n ≡ t n
  parameter_made t e = ap (parameter_or us n) (at_end ts us (IsParameter (t m)) n m e h k) ∙ ap t (sym h)

  pub method_made : (t : ℕ → MethodTree) → us ≡ ts ++ IsMethod (t m) ∷ [] → method_at us n ≡ t n
  method_made t e = ap (method_or us n) (at_end ts us (IsMethod (t m)) n m e h k) ∙ ap t (sym h)
