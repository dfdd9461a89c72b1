-- What an arena showed before it grew, it shows still: for rooms that make one.
use Rattle.std.proofs.Common.{◌≡◌, ℕ, ◌<◌, ◌≤◌, List, length, map, All, ap, ◌∙◌, arith}
use Rattle.std.proofs.lemmas.List.Elements.{recursion_from_All}
use Rattle.ink_forms.specs.declared.arena.Arena.{Arena}
use Rattle.ink_forms.specs.declared.expr.Arm.{Arm}
use Rattle.ink_forms.specs.declared.expr.Argument.{Argument}
use Rattle.ink_forms.specs.declared.pattern.FieldPattern.{FieldPattern}
use Rattle.ink_forms.specs.Trees as tree
use Rattle.ink_forms.specs.Built.{Item, Lists}
use Rattle.ink_forms.specs.Kept.{Lengthened, Lengthens, Agrees}
use Rattle.ink_forms.specs.Views as view
use Rattle.ink_forms.specs.Views.{Keeps}
use Rattle.ink_forms.proofs.Grown.{map_same, same_items, same_lists, arm_alike, argument_alike, field_alike}

pub keeps_self : (a : Arena) → Keeps a a
keeps_self a = record { grows = omega arith; lists = same_lists (view.lists_of a); trees = same_items (view.count a) (view.items_of a) }

lengthened_then : {A : Type 0} (xs ys zs : List A) → length xs ≤ length ys → Lengthened xs ys → Lengthened ys zs → Lengthened xs zs
lengthened_then xs ys zs m h k = λ c i j. k c i (omega arith) ∙ h c i j

lengthens_then : (a b c : Lists) → Lengthens a b → Lengthens b c → Lengthens a c
lengthens_then a b c h k = record {
  numbers = lengthened_then a.numbers b.numbers c.numbers h.more_numbers h.numbers k.numbers;
  arms = lengthened_then a.arms b.arms c.arms h.more_arms h.arms k.arms;
  arguments = lengthened_then a.arguments b.arguments c.arguments h.more_arguments h.arguments k.arguments;
  fields = lengthened_then a.fields b.fields c.fields h.more_fields h.fields k.fields;
  more_numbers = omega (arith, h.more_numbers, k.more_numbers);
  more_arms = omega (arith, h.more_arms, k.more_arms);
  more_arguments = omega (arith, h.more_arguments, k.more_arguments);
  more_fields = omega (arith, h.more_fields, k.more_fields);
}

agrees_then : (m n : ℕ) (a b c : List Item) → m ≤ n → Agrees m a b → Agrees n b c → Agrees m a c
agrees_then m n a b c l h k = record {
  term = λ i j. k.term i (omega arith) ∙ h.term i j;
  pat = λ i j. k.pat i (omega arith) ∙ h.pat i j;
  written = λ i j. k.written i (omega arith) ∙ h.written i j;
  parameter = λ i j. k.parameter i (omega arith) ∙ h.parameter i j;
  method = λ i j. k.method i (omega arith) ∙ h.method i j;
}

pub keeps_then : (a b c : Arena) → Keeps a b → Keeps b c → Keeps a c
keeps_then a b c h k = record {
  grows = omega (arith, h.grows, k.grows);
  lists = lengthens_then (view.lists_of a) (view.lists_of b) (view.lists_of c) h.lists k.lists;
  trees = agrees_then (view.count a) (view.count b) (view.items_of a) (view.items_of b) (view.items_of c) h.grows h.trees k.trees;
}

-- what these numbers show, and what these arms, arguments and fields do
module _ (a b : Arena) (k : Keeps a b) where
  numbers_kept : {R : Type 0} (f g : ℕ → R) → ((n : ℕ) → n < view.count a → f n ≡ g n) → (ns : List ℕ) → All (view.IsBefore (view.count a)) ns →
      ◌≡◌ {A = List R} (map f ns) (map g ns)
  numbers_kept f g h ns x = map_same f g (view.IsBefore (view.count a)) h ns (recursion_from_All (view.IsBefore (view.count a)) ns x)

  pub terms_kept : (ns : List ℕ) → All (view.IsBefore (view.count a)) ns → view.terms b ns ≡ view.terms a ns
  terms_kept ns x = ap tree.terms (numbers_kept (view.term b) (view.term a) k.trees.term ns x)

  pub pats_kept : (ns : List ℕ) → All (view.IsBefore (view.count a)) ns → view.pats b ns ≡ view.pats a ns
  pats_kept ns x = ap tree.pats (numbers_kept (view.pat b) (view.pat a) k.trees.pat ns x)

  pub written_kept : (ns : List ℕ) → All (view.IsBefore (view.count a)) ns → view.written_list b ns ≡ view.written_list a ns
  written_kept ns x = ap tree.written_list (numbers_kept (view.written b) (view.written a) k.trees.written ns x)

  pub parameters_kept : (ns : List ℕ) → All (view.IsBefore (view.count a)) ns → view.parameters b ns ≡ view.parameters a ns
  parameters_kept ns x = numbers_kept (view.parameter b) (view.parameter a) k.trees.parameter ns x

  pub arm_kept : (x : Arm) → view.IsArmBefore (view.count a) x → view.arm b x ≡ view.arm a x
  arm_kept x h = arm_alike (view.lists_of a) (view.lists_of b) (view.items_of a) (view.items_of b) (view.count a) k.lists k.trees x h

  pub arms_kept : (xs : List Arm) → All (view.IsArmBefore (view.count a)) xs → view.arms b xs ≡ view.arms a xs
  arms_kept xs h =
      ap tree.arms (map_same (view.arm b) (view.arm a) (view.IsArmBefore (view.count a)) arm_kept xs (recursion_from_All (view.IsArmBefore (view.count a)) xs h))

  pub argument_kept : (x : Argument) → view.IsArgumentBefore (view.count a) x → view.argument b x ≡ view.argument a x
  argument_kept x h = argument_alike (view.lists_of a) (view.lists_of b) (view.items_of a) (view.items_of b) (view.count a) k.lists k.trees x h

  pub arguments_kept : (xs : List Argument) → All (view.IsArgumentBefore (view.count a)) xs → view.arguments b xs ≡ view.arguments a xs
  arguments_kept xs h =
      ap tree.arguments
      (map_same (view.argument b) (view.argument a) (view.IsArgumentBefore (view.count a)) argument_kept xs (recursion_from_All (view.IsArgumentBefore (view.count a)) xs h))

  pub field_kept : (x : FieldPattern) → view.IsFieldBefore (view.count a) x → view.field b x ≡ view.field a x
  field_kept x h = field_alike (view.lists_of a) (view.lists_of b) (view.items_of a) (view.items_of b) (view.count a) k.lists k.trees x h

  pub fields_kept : (xs : List FieldPattern) → All (view.IsFieldBefore (view.count a)) xs → view.fields b xs ≡ view.fields a xs
  fields_kept xs h =
      ap tree.field_pats
      (map_same (view.field b) (view.field a) (view.IsFieldBefore (view.count a)) field_kept xs (recursion_from_All (view.IsFieldBefore (view.count a)) xs h))
