-- A code for tables of types: the steps that make each item on a stack.
use Rattle.std.specs.Prelude.{◌≡◌, ℕ, Bool, List, [], ◌∷◌, ◌++◌, refl}
use Rattle.std.proofs.Common.{zero, suc, append_assoc, ap, sym, ◌∙◌}
use Rattle.std.proofs.lemmas.List.{append-nil}
use Rattle.std.specs.Coded.{Coded, code_by, coded×, coded_ℕ, coded_bool, coded_list}
use Rattle.ink_types.specs.TypeTerms.{TypeTerm, TypeTerms, Parameter, Of, Ref, Mut, Uni, NoTerms, AndTerm}
use Rattle.ink_types.specs.Table.{Item, IsType, IsList, TypeTable}

abbrev pub Steps : Type 0
Steps = List (ℕ × ℕ)

abbrev mutual
  pub type_steps : TypeTerm → Steps
  type_steps (Parameter n) = (0, n) ∷ []
  type_steps (Of k ts) = list_steps ts ++ (1, k) ∷ []
  type_steps (Ref t) = type_steps t ++ (2, 0) ∷ []
  type_steps (Mut t) = type_steps t ++ (3, 0) ∷ []
  type_steps (Uni t) = type_steps t ++ (4, 0) ∷ []

  pub list_steps : TypeTerms → Steps
  list_steps NoTerms = (5, 0) ∷ []
  list_steps (AndTerm t ts) = type_steps t ++ (list_steps ts ++ (6, 0) ∷ [])

abbrev pub steps : Item → Steps
steps (IsType t) = type_steps t
steps (IsList ts) = list_steps ts

abbrev pub item_type : Item → TypeTerm
item_type (IsType t) = t
item_type (IsList ts) = Parameter 0

abbrev pub item_list : Item → TypeTerms
item_list (IsList ts) = ts
item_list (IsType t) = NoTerms

abbrev pub top : List Item → Item
top [] = IsList NoTerms
top (x ∷ xs) = x

abbrev pub below : List Item → List Item
below [] = []
below (x ∷ xs) = xs

abbrev pub top_type : List Item → TypeTerm
top_type xs = item_type (top xs)

abbrev pub top_list : List Item → TypeTerms
top_list xs = item_list (top xs)

abbrev pub step : ℕ → ℕ → List Item → List Item
step zero n xs = IsType (Parameter n) ∷ xs
step (suc zero) n xs = IsType (Of n (top_list xs)) ∷ below xs
step (suc (suc zero)) n xs = IsType (Ref (top_type xs)) ∷ below xs
step (suc (suc (suc zero))) n xs = IsType (Mut (top_type xs)) ∷ below xs
step (suc (suc (suc (suc zero)))) n xs = IsType (Uni (top_type xs)) ∷ below xs
step (suc (suc (suc (suc (suc zero))))) n xs = IsList NoTerms ∷ xs
step _ n xs = IsList (AndTerm (top_type (below xs)) (top_list xs)) ∷ below (below xs)

abbrev pub run : Steps → List Item → List Item
run [] xs = xs
run (s ∷ ss) xs = run ss (step s.0 s.1 xs)

mutual
  type-run : (t : TypeTerm) (ss : Steps) (xs : List Item) → run (type_steps t ++ ss) xs ≡ run ss (IsType t ∷ xs)
  type-run (Parameter n) ss xs = refl
  type-run (Of k ts) ss xs = rw append_assoc (list-run ts ((1, k) ∷ ss) xs)
  type-run (Ref t) ss xs = rw append_assoc (type-run t ((2, 0) ∷ ss) xs)
  type-run (Mut t) ss xs = rw append_assoc (type-run t ((3, 0) ∷ ss) xs)
  type-run (Uni t) ss xs = rw append_assoc (type-run t ((4, 0) ∷ ss) xs)

  list-run : (ts : TypeTerms) (ss : Steps) (xs : List Item) → run (list_steps ts ++ ss) xs ≡ run ss (IsList ts ∷ xs)
  list-run NoTerms ss xs = refl
  list-run (AndTerm t ts) ss xs =
      rw (append_assoc (type_steps t) (list_steps ts ++ (6, 0) ∷ []) ss, append_assoc (list_steps ts) ((6, 0) ∷ []) ss)
      (type-run t (list_steps ts ++ (6, 0) ∷ ss) xs ∙ list-run ts ((6, 0) ∷ ss) (IsType t ∷ xs))

pub step-last : (x : Item) → run (steps x) [] ≡ x ∷ []
step-last (IsType t) = ap (λ ss. run ss []) (sym (append-nil (type_steps t))) ∙ type-run t [] []
step-last (IsList ts) = ap (λ ss. run ss []) (sym (append-nil (list_steps ts))) ∙ list-run ts [] []

abbrev pub coded_item : Coded Item
coded_item = code_by Steps (coded_list (coded× coded_ℕ coded_ℕ)) steps (λ ss. top (run ss [])) (λ x. ap top (step-last x))

abbrev pub coded_table : Coded TypeTable
coded_table =
    code_by (List Item × List Bool) (coded× (coded_list coded_item) (coded_list coded_bool))
    (λ s. (s.items, s.kinds)) (λ p. record { items = p.0; kinds = p.1 }) (λ s. refl)
