-- What the definitions give in small cases.
use Rattle.std.proofs.Common.{◌≡◌, Bool, true, false, Option, None, Some, List, [], ◌∷◌, refl}
use Rattle.ink_types.specs.TypeTerms.{TypeTerm, TypeTerms, Parameter, Of, Ref, Mut, Uni, NoTerms, AndTerm, never, same_type, same_types, ref_of, mut_of, uni_of, is_assignable, is_sendable, substitute, substitute_all}
use Rattle.ink_types.specs.Table.{first_kinds}
use Rattle.ink_types.specs.Matching.{fits, filled, fits_below, fit_all, asked, asked_among, type_below}

-- Int, a kind of the module's own, and its parameter
abbrev int : TypeTerm
int = Of 0 NoTerms

abbrev cat : TypeTerm
cat = Of 13 NoTerms

abbrev param : TypeTerm
param = Parameter 0

abbrev pair : TypeTerm → TypeTerm → TypeTerm
pair t u = Of 8 (AndTerm t (AndTerm u NoTerms))

ref_of_mut : ref_of first_kinds (Mut cat) ≡ Ref cat
unfolding ref_of
ref_of_mut = refl

mut_of_ref : mut_of first_kinds (Ref cat) ≡ Ref cat
unfolding mut_of
mut_of_ref = refl

ref_of_value : ref_of first_kinds int ≡ int
unfolding ref_of
ref_of_value = refl

uni_of_future : uni_of first_kinds (Of 11 (AndTerm cat NoTerms)) ≡ Of 11 (AndTerm cat NoTerms)
unfolding uni_of
uni_of_future = refl

uni_for_owned : is_assignable (Uni cat) cat ≡ true
unfolding is_assignable same_type same_types
uni_for_owned = refl

mut_for_ref : is_assignable (Mut cat) (Ref cat) ≡ true
unfolding is_assignable same_type same_types
mut_for_ref = refl

mut_for_owned : is_assignable (Mut cat) cat ≡ false
unfolding is_assignable same_type same_types
mut_for_owned = refl

never_for_all : is_assignable never cat ≡ true
unfolding is_assignable
never_for_all = refl

never_not_sent : is_sendable first_kinds never ≡ false
never_not_sent = refl

ref_of_argument : substitute first_kinds (int ∷ []) (pair (Ref param) param) ≡ pair int int
unfolding substitute substitute_all ref_of
ref_of_argument = refl

-- (ref T, T) against (ref Cat, ref Cat): T is ref Cat
strictest : filled first_kinds (None ∷ []) (pair (Ref param) param) (pair (Ref cat) (Ref cat)) ≡ Some (Ref cat) ∷ []
unfolding asked asked_among type_below same_type same_types ref_of mut_of
strictest = refl

strictest_fits : fits first_kinds (None ∷ []) (pair (Ref param) param) (pair (Ref cat) (Ref cat)) ≡ true
unfolding fits_below fit_all asked asked_among type_below same_type same_types ref_of mut_of
strictest_fits = refl

-- (ref T, mut T) against (ref Cat, mut Cat): T is Cat, which isn't a borrow
not_a_borrow : filled first_kinds (None ∷ []) (pair (Ref param) (Mut param)) (pair (Ref cat) (Mut cat)) ≡ Some cat ∷ []
unfolding asked asked_among type_below same_type same_types ref_of mut_of
not_a_borrow = refl

-- (T, T) against (Int, Cat): there is none
none_for_both : fits first_kinds (None ∷ []) (pair param param) (pair int cat) ≡ false
unfolding fits_below fit_all asked asked_among type_below same_type same_types ref_of mut_of
none_for_both = refl

-- Option[T] against Option[Int] where T was found as Bool
found_otherwise : fits first_kinds (Some (Of 1 NoTerms) ∷ []) (Of 5 (AndTerm param NoTerms)) (Of 5 (AndTerm int NoTerms)) ≡ false
unfolding fits_below fit_all asked asked_among type_below same_type same_types ref_of mut_of
found_otherwise = refl
