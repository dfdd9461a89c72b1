-- Lists of nodes and of values that grow at their ends.
use Rattle.std.proofs.Common.{◌≡◌, ℕ, ◌+◌, ◌-◌, ◌<◌, ◌≤◌, ◌⊎◌, inl, inr, Bool, false, List, [], ◌∷◌, ◌++◌, length, map, reverse, Some, None, refl, sym, ap, subst, ◌∙◌, arith, length-append, nat_lt, All}
use Rattle.std.proofs.lemmas.Bool.{ltb-true, ltb-false}
use Rattle.ink_grammar.proofs.Bools.{by_cases}
use Rattle.std.specs.Prelude.{slice_get}
use Rattle.std.proofs.lemmas.List.{reverse-append, map-append, get_or_past, get_or_append_left, get_or_push}
use Rattle.std.proofs.lemmas.List.Elements.{recursion_from_All}
use Rattle.std.proofs.lemmas.Option.{slice_get_read}
use Rattle.std.specs.List.{AllByRecursion}
use Rattle.ink_grammar.specs.declared.tree.Node.{Node}
use Rattle.ink_grammar.specs.declared.builder.Value.{Value}
use Rattle.ink_grammar.specs.Tree.{Tree, Missing, Found, first, start, rest, is_place, no_node}
use Rattle.ink_grammar.specs.Built.{at, grow, onto, trees, found_at, found_of}

onto_push : (ts : List Tree) (ns : List Node) (x : Node) → onto ts (ns ++ x ∷ []) ≡ onto ts ns ++ grow (onto ts ns) x ∷ []
onto_push ts [] x = refl
onto_push ts (n ∷ ns) x = onto_push (ts ++ grow ts n ∷ []) ns x

trees_push : (ns : List Node) (x : Node) → trees (ns ++ x ∷ []) ≡ trees ns ++ grow (trees ns) x ∷ []
unfolding trees
trees_push ns x = onto_push [] ns x

pub onto_length : (ts : List Tree) (ns : List Node) → length (onto ts ns) ≡ length ts + length ns
onto_length ts [] = omega arith
onto_length ts (n ∷ ns) = omega (arith, onto_length (ts ++ grow ts n ∷ []) ns, length-append ts (grow ts n ∷ []))

pub trees_length : (ns : List Node) → length (trees ns) ≡ length ns
unfolding trees
trees_length ns = omega (arith, onto_length [] ns)

found_push : (ts : List Tree) (vs : List Value) (v : Value) → found_of ts (vs ++ v ∷ []) ≡ found_at ts v ∷ found_of ts vs
unfolding found_of
found_push ts vs v = ap reverse (map-append (λ x. found_at ts x) vs (v ∷ [])) ∙ reverse-append (map (λ x. found_at ts x) vs) (found_at ts v ∷ [])

found_none : (ts : List Tree) → found_of ts [] ≡ []
unfolding found_of
found_none ts = refl

-- a number that stands for a tree, or for nothing
abbrev pub Known : ℕ → Value → Type 0
Known n v = n ≤ v.node → v.node ≡ no_node

pub same_at : (ts : List Tree) (t : Tree) (k : ℕ) → length ts < no_node → (length ts ≤ k → k ≡ no_node) → at (ts ++ t ∷ []) k ≡ at ts k
same_at ts t k few h = by_cases (nat_lt k (length ts))
    (λ e. let l : k < length ts = ltb-true k (length ts) e in get_or_append_left ts (t ∷ []) Missing k l)
    (λ e. let m : k ≡ no_node = h (ltb-false k (length ts) e) in get_or_past (ts ++ t ∷ []) k Missing (omega (arith, length-append ts (t ∷ []), m)) ∙ sym (get_or_past ts k Missing (omega (arith, m))))

map_more : (ts : List Tree) (t : Tree) (vs : List Value) → length ts < no_node → AllByRecursion (λ (v : Value). Known (length ts) v) vs → map (λ x. found_at (ts ++ t ∷ []) x) vs ≡ map (λ x. found_at ts x) vs
map_more ts t [] few h = refl
map_more ts t (v ∷ vs) few h =
    let e : at (ts ++ t ∷ []) v.node ≡ at ts v.node = same_at ts t v.node few h.0 in
    let e2 : found_at (ts ++ t ∷ []) v ≡ found_at ts v = ap (λ (y : Tree). record { tree = y; start = v.start; is_place = v.is_place }) e in
    ap (λ y. y ∷ map (λ x. found_at (ts ++ t ∷ []) x) vs) e2 ∙ ap (λ y. found_at ts v ∷ y) (map_more ts t vs few h.1)

found_more : (ts : List Tree) (t : Tree) (vs : List Value) → length ts < no_node → All (λ (v : Value). Known (length ts) v) vs → found_of (ts ++ t ∷ []) vs ≡ found_of ts vs
unfolding found_of
found_more ts t vs few h = ap reverse (map_more ts t vs few (recursion_from_All (λ (v : Value). Known (length ts) v) vs h))

pub none_missing : (ns : List Node) → length ns ≤ no_node → at (trees ns) no_node ≡ Missing
none_missing ns h = get_or_past (trees ns) no_node Missing (omega (arith, trees_length ns))

-- a value of no node
pub nothing_pushed : (ns : List Node) (fs fs' : List Found) → length ns ≤ no_node → fs' ≡ record { tree = at (trees ns) no_node; start = 0; is_place = false } ∷ fs → fs' ≡ record { tree = Missing; start = 0; is_place = false } ∷ fs
nothing_pushed ns fs fs' h e = e ∙ ap (λ (y : Tree). record { tree = y; start = 0; is_place = false } ∷ fs) (none_missing ns h)

-- a node and its value at the ends
pub pushed : (ns ns' : List Node) (vs vs' : List Value) (x : Node) (s : ℕ) (b : Bool) (k : ℕ) → All (λ (v : Value). length ns ≤ v.node → v.node ≡ no_node) vs → k ≡ length ns → k < no_node → ns' ≡ ns ++ x ∷ [] → vs' ≡ vs ++ record { node = k; start = s; is_place = b } ∷ [] →
    found_of (trees ns') vs' ≡ record { tree = grow (trees ns) x; start = s; is_place = b } ∷ found_of (trees ns) vs
pushed ns ns' vs vs' x s b k h m few e f =
    let g = subst (λ n. All (λ (v : Value). Known n v) vs) (sym (trees_length ns)) h in
    let here : at (trees ns ++ grow (trees ns) x ∷ []) k ≡ grow (trees ns) x = get_or_push (trees ns) (grow (trees ns) x) Missing k (trees_length ns ∙ sym m) in
    ap (λ y. found_of (trees y) vs') e ∙ ap (λ y. found_of y vs') (trees_push ns x) ∙ ap (λ y. found_of (trees ns ++ grow (trees ns) x ∷ []) y) f
    ∙ found_push (trees ns ++ grow (trees ns) x ∷ []) vs (record { node = k; start = s; is_place = b })
    ∙ ap (λ (y : Tree). record { tree = y; start = s; is_place = b } ∷ found_of (trees ns ++ grow (trees ns) x ∷ []) vs) here
    ∙ ap (λ y. record { tree = grow (trees ns) x; start = s; is_place = b } ∷ y) (found_more (trees ns) (grow (trees ns) x) vs (omega (arith, trees_length ns)) g)

-- a value whose node is there already
pub pushed_value : (ns : List Node) (vs vs' : List Value) (k s : ℕ) → vs' ≡ vs ++ record { node = k; start = s; is_place = false } ∷ [] → found_of (trees ns) vs' ≡ record { tree = at (trees ns) k; start = s; is_place = false } ∷ found_of (trees ns) vs
pushed_value ns vs vs' k s e = ap (λ y. found_of (trees ns) y) e ∙ found_push (trees ns) vs (record { node = k; start = s; is_place = false })

-- the last value goes
module _ (ns : List Node) (vs vs' : List Value) (v : Value) (e : vs ≡ vs' ++ v ∷ []) where
  popped : found_of (trees ns) vs ≡ found_at (trees ns) v ∷ found_of (trees ns) vs'
  popped = ap (λ y. found_of (trees ns) y) e ∙ found_push (trees ns) vs' v

  pub popped_first : at (trees ns) v.node ≡ first (found_of (trees ns) vs)
  popped_first = sym (ap first popped)

  pub popped_start : v.start ≡ start (found_of (trees ns) vs)
  popped_start = sym (ap start popped)

  pub popped_rest : found_of (trees ns) vs' ≡ rest (found_of (trees ns) vs)
  popped_rest = sym (ap rest popped)

module _ (ns : List Node) (vs vs' : List Value) (e : vs ≡ vs' ++ []) (none : length vs ≡ 0) where
  empty : (xs : List Value) → length xs ≡ 0 → xs ≡ []
  empty [] h = refl
  empty (x ∷ xs) h = let bad : ⊥ = omega arith in absurd bad

  no_values : found_of (trees ns) vs ≡ []
  no_values = ap (λ y. found_of (trees ns) y) (empty vs none) ∙ found_none (trees ns)

  same_values : found_of (trees ns) vs' ≡ []
  same_values = ap (λ y. found_of (trees ns) y) (empty vs' (omega (arith, length-append vs' [], ap length e))) ∙ found_none (trees ns)

  pub unpopped_first : length ns ≤ no_node → at (trees ns) no_node ≡ first (found_of (trees ns) vs)
  unpopped_first h = none_missing ns h ∙ sym (ap first no_values)

  pub unpopped_rest : found_of (trees ns) vs' ≡ rest (found_of (trees ns) vs)
  unpopped_rest = same_values ∙ sym (ap rest no_values)

  pub unpopped_start : 0 ≡ start (found_of (trees ns) vs)
  unpopped_start = sym (ap start no_values)

ends : (vs : List Value) → (vs ≡ []) ⊎ ((ys : List Value) × (v : Value) × (vs ≡ ys ++ v ∷ []))
ends [] = inl refl
ends (x ∷ xs) = elim (ends xs) [ inl h ↦ inr ([], x, ap (λ y. x ∷ y) h) | inr h ↦ inr (x ∷ h.0, h.1, ap (λ y. x ∷ y) h.2) ]

last_of : (ys : List Value) (v : Value) → slice_get (ys ++ v ∷ []) (length (ys ++ v ∷ []) - 1) ≡ Some v
last_of ys v = let l = length-append ys (v ∷ []) in
    slice_get_read (ys ++ v ∷ []) (length (ys ++ v ∷ [])) (length (ys ++ v ∷ []) - 1) v refl (omega arith) (sym (get_or_push ys v v (length (ys ++ v ∷ []) - 1) (omega arith)))

pub last_place : (ts : List Tree) (vs : List Value) (x : Value) → Some x ≡ slice_get vs (length vs - 1) → x.is_place ≡ is_place (found_of ts vs)
last_place ts vs x e = elim (ends vs) [
  | inl h ↦ let bad : Some x ≡ None = e ∙ ap (λ (y : List Value). slice_get y (length y - 1)) h in cc
  | inr h ↦ let same : Some x ≡ Some h.1 = e ∙ ap (λ (y : List Value). slice_get y (length y - 1)) h.2 ∙ last_of h.0 h.1 in
      let here : x ≡ h.1 = cc in
      ap (λ (y : Value). y.is_place) here ∙ sym (ap is_place (ap (λ y. found_of ts y) h.2 ∙ found_push ts h.0 h.1))
]

pub no_last_place : (ts : List Tree) (vs : List Value) → None ≡ slice_get vs (length vs - 1) → false ≡ is_place (found_of ts vs)
no_last_place ts vs e = elim (ends vs) [
  | inl h ↦ sym (ap is_place (ap (λ y. found_of ts y) h ∙ found_none ts))
  | inr h ↦ let bad : None ≡ Some h.1 = e ∙ ap (λ (y : List Value). slice_get y (length y - 1)) h.2 ∙ last_of h.0 h.1 in cc
]

pub no_values_at : (ns : List Node) (vs : List Value) → vs ≡ [] → found_of (trees ns) vs ≡ []
no_values_at ns vs e = ap (λ y. found_of (trees ns) y) e ∙ found_none (trees ns)
