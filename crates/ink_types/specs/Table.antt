-- The terms by their numbers: each is made of what stands before it.
use Rattle.std.specs.Prelude.{◌≡◌, ℕ, ◌+◌, ◌<◌, ◌≤◌, Bool, false, List, [], ◌∷◌, ◌++◌, length, map, take, Option, Some, None, slice_get}
use Rattle.ink_types.specs.declared.term.Term.{Term}
use Rattle.ink_types.specs.declared.term.Term.TheVariants as term
use Rattle.ink_types.specs.declared.term.ArgumentList.{ArgumentList}
use Rattle.ink_types.specs.declared.term.ArgumentList.TheVariants as list
use Rattle.ink_types.specs.declared.term.Key.{Key}
use Rattle.ink_types.specs.declared.term.Key.TheVariants as key
use Rattle.ink_types.specs.TypeTerms.{TypeTerm, TypeTerms, Parameter, Of, Ref, Mut, Uni, NoTerms, AndTerm, never}

-- what stands at a number
pub data Item : Type 0 where
  IsType : TypeTerm → Item
  IsList : TypeTerms → Item

-- what stands at each number, and whether each kind is async
pub record TypeTable : Type 0 where
  pub items : List Item
  pub kinds : List Bool

-- the kinds 0 to 12
abbrev pub first_kinds : List Bool
first_kinds = false ∷ false ∷ false ∷ false ∷ false ∷ false ∷ false ∷ false ∷ false ∷ false ∷ false ∷ false ∷ false ∷ []

-- A number that is no type's stands for Never, and one that is no list's for the empty one.
abbrev pub type_or : Option Item → TypeTerm
type_or (Some (IsType t)) = t
type_or (Some (IsList ts)) = never
type_or None = never

abbrev pub list_or : Option Item → TypeTerms
list_or (Some (IsList ts)) = ts
list_or (Some (IsType t)) = NoTerms
list_or None = NoTerms

abbrev pub type_in : List Item → ℕ → TypeTerm
type_in xs n = type_or (slice_get xs n)

abbrev pub list_in : List Item → ArgumentList → TypeTerms
list_in xs list.Empty = NoTerms
list_in xs (list.Cell n) = list_or (slice_get xs n)

abbrev pub types_in : List Item → List ℕ → List TypeTerm
types_in xs ns = map (type_in xs) ns

-- the type of a number
abbrev pub type_at : TypeTable → ℕ → TypeTerm
type_at s t = type_in s.items t

-- the types of numbers
abbrev pub types_at : TypeTable → List ℕ → List TypeTerm
types_at s ts = types_in s.items ts

abbrev pub list_at : TypeTable → ArgumentList → TypeTerms
list_at s l = list_in s.items l

-- a term over what stands before it
abbrev pub grown_type : List Item → Term → TypeTerm
grown_type xs (term.Parameter n) = Parameter n
grown_type xs (term.Of k l) = Of k (list_in xs l)
grown_type xs (term.Ref t) = Ref (type_in xs t)
grown_type xs (term.Mut t) = Mut (type_in xs t)
grown_type xs (term.Uni t) = Uni (type_in xs t)

abbrev pub grown : List Item → Key → Item
grown xs (key.Term t) = IsType (grown_type xs t)
grown xs (key.Arguments a l) = IsList (AndTerm (type_in xs a) (list_in xs l))

abbrev pub onto : List Item → List Key → List Item
onto xs [] = xs
onto xs (k ∷ ks) = onto (xs ++ grown xs k ∷ []) ks

unfoldable pub items_of : List Key → List Item
items_of ks = onto [] ks

-- a type stands at a number
abbrev pub HoldsType : List Item → ℕ → Type 0
HoldsType xs t = slice_get xs t ≡ Some (IsType (type_in xs t))

abbrev pub HoldsList : List Item → ArgumentList → Type 0
HoldsList xs list.Empty = Unit {0}
HoldsList xs (list.Cell n) = slice_get xs n ≡ Some (IsList (list_in xs (list.Cell n)))

-- the parts of a term stand there
abbrev pub TermFits : List Item → Term → Type 0
TermFits xs (term.Parameter n) = Unit {0}
TermFits xs (term.Of k l) = HoldsList xs l
TermFits xs (term.Ref t) = HoldsType xs t
TermFits xs (term.Mut t) = HoldsType xs t
TermFits xs (term.Uni t) = HoldsType xs t

abbrev pub Fits : List Item → Key → Type 0
Fits xs (key.Term t) = TermFits xs t
Fits xs (key.Arguments a l) = HoldsType xs a × HoldsList xs l

-- the number behind a list's own
abbrev pub list_height : ArgumentList → ℕ
list_height list.Empty = 0
list_height (list.Cell n) = n + 1

-- the parts of a term have smaller numbers than this one
abbrev pub TermIsBehind : ℕ → Term → Type 0
TermIsBehind n (term.Parameter m) = Unit {0}
TermIsBehind n (term.Of k l) = list_height l ≤ n
TermIsBehind n (term.Ref t) = t < n
TermIsBehind n (term.Mut t) = t < n
TermIsBehind n (term.Uni t) = t < n

abbrev pub IsBehind : ℕ → Key → Type 0
IsBehind n (key.Term t) = TermIsBehind n t
IsBehind n (key.Arguments a l) = (a < n) × (list_height l ≤ n)

pub record IsTable (ks : List Key) : Type 0 where
  pub behind : (i : ℕ) (k : Key) → slice_get ks i ≡ Some k → IsBehind i k
  pub fits : (i : ℕ) (k : Key) → slice_get ks i ≡ Some k → Fits (items_of ks) k
  pub apart : (i j : ℕ) (x : Item) → slice_get (items_of ks) i ≡ Some x → slice_get (items_of ks) j ≡ Some x → i ≡ j
  pub few : length ks < 4294967295

-- What stood at a number stays there, and the kinds stay.
pub record Keeps (old new : TypeTable) : Type 0 where
  pub kinds : new.kinds ≡ old.kinds
  pub more : length old.items ≤ length new.items
  pub same : (i : ℕ) (x : Item) → slice_get old.items i ≡ Some x → slice_get new.items i ≡ Some x
  pub before : (n : ℕ) → n ≤ length old.items → take n new.items ≡ take n old.items

-- what a list is, by its first and the rest
abbrev pub list_of : TypeTable → Option (ℕ × ArgumentList) → TypeTerms
list_of s None = NoTerms
list_of s (Some p) = AndTerm (type_at s p.0) (list_at s p.1)

-- the types found for places stand there
abbrev pub AreHeld : TypeTable → List (Option ℕ) → Type 0
AreHeld s found = (n t : ℕ) → slice_get found n ≡ Some (Some t) → HoldsType s.items t
