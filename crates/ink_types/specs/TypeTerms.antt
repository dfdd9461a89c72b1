-- Type terms, and what holds of one: whether it is a value type, may be borrowed or sent, and stands for another.
use Rattle.std.specs.Prelude.{ℕ, Bool, true, false, ◌==◌, ◌||◌, ◌&&◌, List, [], ◌∷◌, unwrap_or, slice_get, nat_le, if◌then◌else◌}
use Rattle.ink_base.specs.declared.ident.BorrowKind.{BorrowKind}
use Rattle.ink_base.specs.declared.ident.BorrowKind.TheVariants as borrow
use Rattle.ink_types.specs.declared.kind.TheConstants.{NEVER, FUTURE, PROMISE}

mutual
  -- a parameter by its number, a kind with its arguments, or one of the three prefixes
  pub data TypeTerm : Type 0 where
    Parameter : ℕ → TypeTerm
    Of : ℕ → TypeTerms → TypeTerm
    Ref : TypeTerm → TypeTerm
    Mut : TypeTerm → TypeTerm
    Uni : TypeTerm → TypeTerm

  pub data TypeTerms : Type 0 where
    NoTerms : TypeTerms
    AndTerm : TypeTerm → TypeTerms → TypeTerms

abbrev pub terms : List TypeTerm → TypeTerms
terms [] = NoTerms
terms (t ∷ ts) = AndTerm t (terms ts)

abbrev pub listed : TypeTerms → List TypeTerm
listed NoTerms = []
listed (AndTerm t ts) = t ∷ listed ts

abbrev pub never : TypeTerm
never = Of NEVER NoTerms

-- the arguments of a type
abbrev pub arguments : TypeTerm → List TypeTerm
arguments (Of k ts) = listed ts
arguments (Parameter n) = []
arguments (Ref t) = []
arguments (Mut t) = []
arguments (Uni t) = []

-- which kinds are async is told by a list
abbrev pub is_async : List Bool → ℕ → Bool
is_async kinds k = unwrap_or (slice_get kinds k) false

-- Int, Bool, String, Nil and the async kinds are of values
abbrev pub is_value_kind : List Bool → ℕ → Bool
is_value_kind kinds k = nat_le k 3 || is_async kinds k

abbrev pub is_value : List Bool → TypeTerm → Bool
is_value kinds (Of k ts) = is_value_kind kinds k
is_value kinds (Parameter n) = false
is_value kinds (Ref t) = false
is_value kinds (Mut t) = false
is_value kinds (Uni t) = false

-- `uni T`, Future and Promise
abbrev pub is_unborrowable : TypeTerm → Bool
is_unborrowable (Of k ts) = (k == FUTURE) || (k == PROMISE)
is_unborrowable (Uni t) = true
is_unborrowable (Parameter n) = false
is_unborrowable (Ref t) = false
is_unborrowable (Mut t) = false

-- value types and unborrowable ones
abbrev pub is_sendable : List Bool → TypeTerm → Bool
is_sendable kinds t = is_value kinds t || is_unborrowable t

abbrev pub is_borrow : TypeTerm → Bool
is_borrow (Ref t) = true
is_borrow (Mut t) = true
is_borrow (Parameter n) = false
is_borrow (Of k ts) = false
is_borrow (Uni t) = false

-- `ref T` in normal form
unfoldable pub ref_of : List Bool → TypeTerm → TypeTerm
ref_of kinds (Of k ts) = if is_value_kind kinds k then Of k ts else Ref (Of k ts)
ref_of kinds (Ref t) = Ref t
ref_of kinds (Mut t) = Ref t
ref_of kinds (Parameter n) = Ref (Parameter n)
ref_of kinds (Uni t) = Ref (Uni t)

-- `mut T` in normal form
unfoldable pub mut_of : List Bool → TypeTerm → TypeTerm
mut_of kinds (Of k ts) = if is_value_kind kinds k then Of k ts else Mut (Of k ts)
mut_of kinds (Ref t) = Ref t
mut_of kinds (Mut t) = Mut t
mut_of kinds (Parameter n) = Mut (Parameter n)
mut_of kinds (Uni t) = Mut (Uni t)

-- `uni T` in normal form
unfoldable pub uni_of : List Bool → TypeTerm → TypeTerm
uni_of kinds (Of k ts) = if is_value_kind kinds k || ((k == FUTURE) || (k == PROMISE)) then Of k ts else Uni (Of k ts)
uni_of kinds (Ref t) = Uni (Ref t)
uni_of kinds (Mut t) = Uni (Mut t)
uni_of kinds (Parameter n) = Uni (Parameter n)
uni_of kinds (Uni t) = Uni (Uni t)

abbrev pub borrow_of : List Bool → BorrowKind → TypeTerm → TypeTerm
borrow_of kinds borrow.Ref t = ref_of kinds t
borrow_of kinds borrow.Mut t = mut_of kinds t

-- two types are one
unfoldable mutual
  pub same_type : TypeTerm → TypeTerm → Bool
  same_type (Parameter m) (Parameter n) = m == n
  same_type (Of k ts) (Of l us) = (k == l) && same_types ts us
  same_type (Ref t) (Ref u) = same_type t u
  same_type (Mut t) (Mut u) = same_type t u
  same_type (Uni t) (Uni u) = same_type t u
  same_type _ _ = false

  pub same_types : TypeTerms → TypeTerms → Bool
  same_types NoTerms NoTerms = true
  same_types (AndTerm t ts) (AndTerm u us) = same_type t u && same_types ts us
  same_types _ _ = false

abbrev pub is_ref_of : TypeTerm → TypeTerm → Bool
is_ref_of t (Ref u) = same_type t u
is_ref_of t _ = false

abbrev pub is_mut_of : TypeTerm → TypeTerm → Bool
is_mut_of t (Mut u) = same_type t u
is_mut_of t _ = false

abbrev pub is_empty : TypeTerms → Bool
is_empty NoTerms = true
is_empty (AndTerm t ts) = false

abbrev pub is_never : TypeTerm → Bool
is_never (Of k ts) = (k == NEVER) && is_empty ts
is_never (Parameter n) = false
is_never (Ref t) = false
is_never (Mut t) = false
is_never (Uni t) = false

-- A value of the first type may stand where one of the second is expected: t where t is, `uni T` where T is, `mut T`
-- where `ref T` is, and Never anywhere.
unfoldable pub is_assignable : TypeTerm → TypeTerm → Bool
is_assignable (Uni t) u = same_type (Uni t) u || same_type t u
is_assignable (Mut t) u = same_type (Mut t) u || is_ref_of t u
is_assignable t u = is_never t || same_type t u

-- what stands at a parameter: its argument, and the parameter itself where there is none
abbrev pub argument_or : List TypeTerm → ℕ → TypeTerm
argument_or xs n = unwrap_or (slice_get xs n) (Parameter n)

-- each parameter by its argument, in normal form
unfoldable mutual
  pub substitute : List Bool → List TypeTerm → TypeTerm → TypeTerm
  substitute kinds xs (Parameter n) = argument_or xs n
  substitute kinds xs (Of k ts) = Of k (substitute_all kinds xs ts)
  substitute kinds xs (Ref t) = ref_of kinds (substitute kinds xs t)
  substitute kinds xs (Mut t) = mut_of kinds (substitute kinds xs t)
  substitute kinds xs (Uni t) = uni_of kinds (substitute kinds xs t)

  pub substitute_all : List Bool → List TypeTerm → TypeTerms → TypeTerms
  substitute_all kinds xs NoTerms = NoTerms
  substitute_all kinds xs (AndTerm t ts) = AndTerm (substitute kinds xs t) (substitute_all kinds xs ts)

-- a `uni` of a borrow stands somewhere in a type
unfoldable mutual
  pub has_uni_of_borrow : TypeTerm → Bool
  has_uni_of_borrow (Parameter n) = false
  has_uni_of_borrow (Of k ts) = any_uni_of_borrow ts
  has_uni_of_borrow (Ref t) = has_uni_of_borrow t
  has_uni_of_borrow (Mut t) = has_uni_of_borrow t
  has_uni_of_borrow (Uni t) = is_borrow t || has_uni_of_borrow t

  pub any_uni_of_borrow : TypeTerms → Bool
  any_uni_of_borrow NoTerms = false
  any_uni_of_borrow (AndTerm t ts) = has_uni_of_borrow t || any_uni_of_borrow ts
