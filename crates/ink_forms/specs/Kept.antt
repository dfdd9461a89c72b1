-- What stays while an arena grows.
use Rattle.std.specs.Prelude.{◌≡◌, ℕ, ◌<◌, ◌≤◌, List, length}
use Rattle.ink_forms.specs.declared.list.Children.{Children}
use Rattle.ink_forms.specs.Built.{Lists, Item, part, term_at, pat_at, written_at, parameter_at, method_at}

-- what is in a list, and that it is there, stays
abbrev pub Lengthened : {A : Type 0} → List A → List A → Type 0
Lengthened xs ys = (c : Children) → c.start ≤ c.end → c.end ≤ length xs → part ys c ≡ part xs c

pub record Lengthens (old new : Lists) : Type 0 where
  pub numbers : Lengthened old.numbers new.numbers
  pub arms : Lengthened old.arms new.arms
  pub arguments : Lengthened old.arguments new.arguments
  pub fields : Lengthened old.fields new.fields
  pub more_numbers : length old.numbers ≤ length new.numbers
  pub more_arms : length old.arms ≤ length new.arms
  pub more_arguments : length old.arguments ≤ length new.arguments
  pub more_fields : length old.fields ≤ length new.fields

-- what stands before a number stays
pub record Agrees (n : ℕ) (old new : List Item) : Type 0 where
  pub term : (k : ℕ) → k < n → term_at new k ≡ term_at old k
  pub pat : (k : ℕ) → k < n → pat_at new k ≡ pat_at old k
  pub written : (k : ℕ) → k < n → written_at new k ≡ written_at old k
  pub parameter : (k : ℕ) → k < n → parameter_at new k ≡ parameter_at old k
  pub method : (k : ℕ) → k < n → method_at new k ≡ method_at old k
