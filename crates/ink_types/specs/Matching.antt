-- Arguments for the parameters of a type, with which it is another type.
use Rattle.std.specs.Prelude.{◌≡◌, ℕ, ◌+◌, [], ◌∷◌, ◌==◌, ◌&&◌, ◌||◌, Bool, true, false, List, length, map, Option, Some, None, is_some, slice_get, if◌then◌else◌, unwrap_or}
use Rattle.std.specs.Option.{option_map}
use Rattle.ink_types.specs.declared.matching.Under.{Under}
use Rattle.ink_types.specs.declared.matching.Under.TheVariants as under
use Rattle.ink_types.specs.TypeTerms.{TypeTerm, TypeTerms, Parameter, Of, Ref, Mut, Uni, NoTerms, AndTerm, never, same_type, is_value_kind, is_borrow, ref_of, mut_of, substitute}
use Rattle.ink_types.specs.Table.{TypeTable, type_at}
use Rattle.ink_types.specs.declared.kind.TheConstants.{FUTURE, PROMISE}

-- The types that were found: each parameter has a place, with its type or none.
abbrev pub found_types : TypeTable → List (Option ℕ) → List (Option TypeTerm)
found_types s found = map (option_map (type_at s)) found

-- a type for each parameter that has a place, which is the one that was found where one was
pub record Fills (found : List (Option TypeTerm)) (xs : List TypeTerm) : Type 0 where
  pub places : length xs ≡ length found
  pub agrees : (n : ℕ) (t : TypeTerm) → slice_get found n ≡ Some (Some t) → slice_get xs n ≡ Some t

-- No arguments make the pattern the other type.
pub record NoneFits (kinds : List Bool) (found : List (Option TypeTerm)) (pattern actual : TypeTerm) : Type 0 where
  pub never_same : (xs : List TypeTerm) → Fills found xs → substitute kinds xs pattern ≡ actual → ⊥

-- All arguments that agree with what is found now make the pattern the other type. What was found before stays. Of what
-- could be found newly, it is what isn't a borrow.
pub record IsMatched (kinds : List Bool) (old new : List (Option TypeTerm)) (pattern actual : TypeTerm) : Type 0 where
  pub same : (xs : List TypeTerm) → Fills new xs → substitute kinds xs pattern ≡ actual
  pub kept : (n : ℕ) (t : TypeTerm) → slice_get old n ≡ Some (Some t) → slice_get new n ≡ Some (Some t)
  pub bare : (xs : List TypeTerm) → Fills old xs → substitute kinds xs pattern ≡ actual →
      (n : ℕ) (t x : TypeTerm) → slice_get new n ≡ Some (Some t) → slice_get xs n ≡ Some x → is_borrow x ≡ false → x ≡ t

-- How it is found. Below a prefix, a type is another where the prefix makes it that one.
abbrev pub below : List Bool → Under → TypeTerm → TypeTerm
below kinds under.Nothing t = t
below kinds under.Ref t = ref_of kinds t
below kinds under.Mut t = mut_of kinds t

abbrev pub is_below : List Bool → Under → TypeTerm → TypeTerm → Bool
is_below kinds u t a = same_type (below kinds u t) a

-- a `mut` below a prefix
abbrev pub then_mut : Under → Under
then_mut under.Nothing = under.Mut
then_mut under.Mut = under.Mut
then_mut under.Ref = under.Ref

abbrev pub same_under : Under → Under → Bool
same_under under.Nothing under.Nothing = true
same_under under.Ref under.Ref = true
same_under under.Mut under.Mut = true
same_under under.Nothing under.Ref = false
same_under under.Nothing under.Mut = false
same_under under.Ref under.Nothing = false
same_under under.Ref under.Mut = false
same_under under.Mut under.Nothing = false
same_under under.Mut under.Ref = false

-- what stands behind a prefix
abbrev pub bare : Under → TypeTerm → TypeTerm
bare under.Nothing t = t
bare under.Ref (Ref t) = t
bare under.Ref (Mut t) = Mut t
bare under.Ref (Uni t) = Uni t
bare under.Ref (Of k ts) = Of k ts
bare under.Ref (Parameter n) = Parameter n
bare under.Mut (Mut t) = t
bare under.Mut (Ref t) = Ref t
bare under.Mut (Uni t) = Uni t
bare under.Mut (Of k ts) = Of k ts
bare under.Mut (Parameter n) = Parameter n

-- the type that isn't a borrow and that below a prefix is this one, or else any that is
unfoldable pub type_below : List Bool → Under → TypeTerm → Option TypeTerm
type_below kinds u a =
    if is_below kinds u (bare u a) a then Some (bare u a) else (if is_below kinds u a a then Some a else None)

abbrev pub arguments_of_kind : ℕ → TypeTerm → Option TypeTerms
arguments_of_kind k (Of j ts) = if j == k then Some ts else None
arguments_of_kind k (Parameter n) = None
arguments_of_kind k (Ref t) = None
arguments_of_kind k (Mut t) = None
arguments_of_kind k (Uni t) = None

abbrev pub arguments_if : ℕ → Option TypeTerm → Option TypeTerms
arguments_if k None = None
arguments_if k (Some t) = arguments_of_kind k t

-- the arguments with which a kind, below a prefix, is a type
abbrev pub arguments_below : List Bool → Under → ℕ → TypeTerm → Option TypeTerms
arguments_below kinds u k a = arguments_if k (type_below kinds u a)

-- `uni` of a value type, of Future and of Promise is the type itself
abbrev pub is_unique_itself : List Bool → TypeTerm → Bool
is_unique_itself kinds (Of k ts) = is_value_kind kinds k || ((k == FUTURE) || (k == PROMISE))
is_unique_itself kinds (Parameter n) = false
is_unique_itself kinds (Ref t) = false
is_unique_itself kinds (Mut t) = false
is_unique_itself kinds (Uni t) = false

-- the type whose `uni` is this one
abbrev pub unique_part : List Bool → TypeTerm → Option TypeTerm
unique_part kinds (Uni t) = if is_unique_itself kinds t then None else Some t
unique_part kinds (Of k ts) = if is_unique_itself kinds (Of k ts) then Some (Of k ts) else None
unique_part kinds (Parameter n) = None
unique_part kinds (Ref t) = None
unique_part kinds (Mut t) = None

abbrev pub unique_if : List Bool → Option TypeTerm → Option TypeTerm
unique_if kinds None = None
unique_if kinds (Some t) = unique_part kinds t

-- the type whose `uni`, below a prefix, is a type
abbrev pub unique_below : List Bool → Under → TypeTerm → Option TypeTerm
unique_below kinds u a = unique_if kinds (type_below kinds u a)

abbrev pub is_below_if : List Bool → Under → Option TypeTerm → TypeTerm → Bool
is_below_if kinds u None a = false
is_below_if kinds u (Some t) a = is_below kinds u t a

-- a pattern below a prefix is a type, with what is chosen for its parameters
unfoldable mutual
  pub fits_below : List Bool → (ℕ → Option TypeTerm) → Under → TypeTerm → TypeTerm → Bool
  fits_below kinds choose u (Parameter n) a = is_below_if kinds u (choose n) a
  fits_below kinds choose u (Of k ts) a = is_some (arguments_below kinds u k a) && fit_all kinds choose ts (unwrap_or (arguments_below kinds u k a) NoTerms)
  fits_below kinds choose u (Ref t) a = fits_below kinds choose under.Ref t a
  fits_below kinds choose u (Mut t) a = fits_below kinds choose (then_mut u) t a
  fits_below kinds choose u (Uni t) a = is_some (unique_below kinds u a) && fits_below kinds choose under.Nothing t (unwrap_or (unique_below kinds u a) never)

  pub fit_all : List Bool → (ℕ → Option TypeTerm) → TypeTerms → TypeTerms → Bool
  fit_all kinds choose NoTerms NoTerms = true
  fit_all kinds choose NoTerms (AndTerm a as') = false
  fit_all kinds choose (AndTerm t ts) NoTerms = false
  fit_all kinds choose (AndTerm t ts) (AndTerm a as') = fits_below kinds choose under.Nothing t a && fit_all kinds choose ts as'

abbrev pub or_else : Option TypeTerm → Option TypeTerm → Option TypeTerm
or_else (Some t) o = Some t
or_else None o = o

-- what the first occurrence of a parameter below a prefix b asks for
unfoldable mutual
  pub asked : List Bool → ℕ → Under → Under → TypeTerm → TypeTerm → Option TypeTerm
  asked kinds n b u (Parameter m) a = if (m == n) && same_under u b then type_below kinds u a else None
  asked kinds n b u (Of k ts) a = if is_some (arguments_below kinds u k a) then asked_among kinds n b ts (unwrap_or (arguments_below kinds u k a) NoTerms) else None
  asked kinds n b u (Ref t) a = asked kinds n b under.Ref t a
  asked kinds n b u (Mut t) a = asked kinds n b (then_mut u) t a
  asked kinds n b u (Uni t) a = if is_some (unique_below kinds u a) then asked kinds n b under.Nothing t (unwrap_or (unique_below kinds u a) never) else None

  pub asked_among : List Bool → ℕ → Under → TypeTerms → TypeTerms → Option TypeTerm
  asked_among kinds n b NoTerms as' = None
  asked_among kinds n b (AndTerm t ts) NoTerms = None
  asked_among kinds n b (AndTerm t ts) (AndTerm a as') = or_else (asked kinds n b under.Nothing t a) (asked_among kinds n b ts as')

-- what the strictest occurrence of a parameter asks for
abbrev pub wanted : List Bool → TypeTerm → TypeTerm → ℕ → Option TypeTerm
wanted kinds pattern actual n =
    or_else (asked kinds n under.Nothing under.Nothing pattern actual)
    (or_else (asked kinds n under.Mut under.Nothing pattern actual) (asked kinds n under.Ref under.Nothing pattern actual))

-- what stands for a parameter: the type found, else the one wanted, and its own where it has no place
abbrev pub chosen_at : Option (Option TypeTerm) → Option TypeTerm → TypeTerm → Option TypeTerm
chosen_at (Some found) wish own = or_else found wish
chosen_at None wish own = Some own

abbrev pub chosen : List Bool → List (Option TypeTerm) → TypeTerm → TypeTerm → ℕ → Option TypeTerm
chosen kinds found pattern actual n = chosen_at (slice_get found n) (wanted kinds pattern actual n) (Parameter n)

-- a pattern is a type, with the types found and wanted
abbrev pub fits : List Bool → List (Option TypeTerm) → TypeTerm → TypeTerm → Bool
fits kinds found pattern actual = fits_below kinds (chosen kinds found pattern actual) under.Nothing pattern actual

-- each place with its type, or with the one that is wished for it
abbrev pub filled_from : (ℕ → Option TypeTerm) → ℕ → List (Option TypeTerm) → List (Option TypeTerm)
filled_from wish n [] = []
filled_from wish n (o ∷ found) = or_else o (wish n) ∷ filled_from wish (n + 1) found

-- what is found once a pattern was matched: the type found before, else the one wanted
abbrev pub filled : List Bool → List (Option TypeTerm) → TypeTerm → TypeTerm → List (Option TypeTerm)
filled kinds found pattern actual = filled_from (wanted kinds pattern actual) 0 found
