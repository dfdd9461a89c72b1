-- The trees of an arena that grows.
use Rattle.std.proofs.Common.{◌≡◌, ℕ, ◌+◌, ◌<◌, ◌≤◌, List, [], ◌∷◌, ◌++◌, length, map, Option, Some, None, refl, sym, ap, subst, ◌∙◌, arith, length-append, append_assoc, zero, suc, add-zero, zero-add, Bool, true, false, if◌then◌else◌}
use Rattle.std.specs.Prelude.{slice_get, IfSome}
use Rattle.std.specs.List.{AllByRecursion}
use Rattle.std.proofs.lemmas.List.{append-nil}
use Rattle.std.proofs.lemmas.List.Elements.{recursion_from_All}
use Rattle.ink_forms.specs.declared.node.Node.{Node}
use Rattle.ink_forms.specs.declared.node.Form.{Form}
use Rattle.ink_forms.specs.declared.node.Form.TheVariants as f
use Rattle.ink_forms.specs.declared.expr.Arm.{Arm}
use Rattle.ink_forms.specs.declared.expr.Argument.{Argument}
use Rattle.ink_forms.specs.declared.expr.Expr.{Expr}
use Rattle.ink_forms.specs.declared.expr.Expr.TheVariants as e
use Rattle.ink_forms.specs.declared.list.Children.{Children}
use Rattle.ink_forms.specs.declared.method.Method.{Method}
use Rattle.ink_forms.specs.declared.method.Parameter.{Parameter}
use Rattle.ink_forms.specs.declared.pattern.FieldPattern.{FieldPattern}
use Rattle.ink_forms.specs.declared.pattern.Pattern.{Pattern}
use Rattle.ink_forms.specs.declared.pattern.Pattern.TheVariants as p
use Rattle.ink_forms.specs.declared.written.WrittenType.{WrittenType}
use Rattle.ink_forms.specs.declared.written.WrittenType.TheVariants as w
use Rattle.ink_forms.specs.Trees.{Spot, Written, Named, Tuple, Pat, Constructor, Either, Fields, ByName, Plain, Of, Term, Guard, Block, New, Arr, Call, Fn, Static, Match, Panic, When, OneArm, OneArgument, OneField, ParameterTree, MethodTree, written_list, pats, field_pats, terms, arguments, arms}
use Rattle.ink_forms.specs.Built.{Lists, Item, IsTerm, IsPat, IsWritten, IsParameter, IsMethod, spot, term_or, pat_or, written_or, parameter_or, method_or, term_at, pat_at, written_at, parameter_at, guard_at, arm_at, argument_at, field_at, part, terms_at, pats_at, written_list_at, parameters_at, arms_at, arguments_at, fields_at, grow_term, grow_pat, grow_written, grow_parameter, grow_method, grow, onto, items}
use Rattle.ink_forms.specs.Fits.{IsBelow, IsArmBelow, IsArgumentBelow, IsFieldBelow, Holds, NumbersFit, ArmsFit, ArgumentsFit, FieldsFit, ExprFits, PatternFits, WrittenFits, MethodFits, Fits, AreFit}
use Rattle.ink_forms.specs.Kept.{Lengthened, Lengthens, Agrees}

pub get_left : {A : Type 0} (xs ys : List A) (k : ℕ) → k < length xs → slice_get (xs ++ ys) k ≡ slice_get xs k
get_left [] ys k h = let bad : ⊥ = omega arith in absurd bad
get_left (x ∷ xs) ys zero h = refl
get_left (x ∷ xs) ys (suc k) h = get_left xs ys k (omega arith)

pub get_here : {A : Type 0} (xs : List A) (y : A) (ys : List A) → slice_get (xs ++ y ∷ ys) (length xs) ≡ Some y
get_here [] y ys = refl
get_here (x ∷ xs) y ys = get_here xs y ys

pub get_past : {A : Type 0} (xs : List A) (k : ℕ) → length xs ≤ k → slice_get xs k ≡ None
get_past [] k h = refl
get_past (x ∷ xs) zero h = let bad : ⊥ = omega arith in absurd bad
get_past (x ∷ xs) (suc k) h = get_past xs k (omega arith)

pub map_same : {A B : Type 0} (f g : A → B) (P : A → Type 0) → ((a : A) → P a → f a ≡ g a) → (xs : List A) → AllByRecursion P xs → map f xs ≡ map g xs
map_same f g P h [] q = refl
map_same f g P h (x ∷ xs) q = ap (λ y. y ∷ map f xs) (h x q.0) ∙ ap (λ ys. g x ∷ ys) (map_same f g P h xs q.1)

-- what is read of a list that holds what is read alike
part_same : {A B : Type 0} (f g : A → B) (P : A → Type 0) (xs ys : List A) (c : Children) → ((a : A) → P a → f a ≡ g a) → Lengthened xs ys → Holds xs P c →
    map f (part ys c) ≡ map g (part xs c)
part_same f g P xs ys c h l q = ap (map f) (l c q.0 q.1.0) ∙ map_same f g P h (part xs c) (recursion_from_All P (part xs c) q.1.1)

module _ (ls ls' : Lists) (ts ts' : List Item) (n : ℕ) (l : Lengthens ls ls') (g : Agrees n ts ts') where
  terms_alike : (c : Children) → NumbersFit ls n c → terms_at ts' (part ls'.numbers c) ≡ terms_at ts (part ls.numbers c)
  terms_alike c h = ap terms (part_same (term_at ts') (term_at ts) (IsBelow n) ls.numbers ls'.numbers c g.term l.numbers h)

  pats_alike : (c : Children) → NumbersFit ls n c → pats_at ts' (part ls'.numbers c) ≡ pats_at ts (part ls.numbers c)
  pats_alike c h = ap pats (part_same (pat_at ts') (pat_at ts) (IsBelow n) ls.numbers ls'.numbers c g.pat l.numbers h)

  written_list_alike : (c : Children) → NumbersFit ls n c → written_list_at ts' (part ls'.numbers c) ≡ written_list_at ts (part ls.numbers c)
  written_list_alike c h = ap written_list (part_same (written_at ts') (written_at ts) (IsBelow n) ls.numbers ls'.numbers c g.written l.numbers h)

  parameters_alike : (c : Children) → NumbersFit ls n c → parameters_at ts' (part ls'.numbers c) ≡ parameters_at ts (part ls.numbers c)
  parameters_alike c h = part_same (parameter_at ts') (parameter_at ts) (IsBelow n) ls.numbers ls'.numbers c g.parameter l.numbers h

  guard_alike : (o : Option ℕ) → IfSome o (IsBelow n) → guard_at ts' o ≡ guard_at ts o
  guard_alike None h = refl
  guard_alike (Some k) h = ap When (g.term k h)

  pub arm_alike : (x : Arm) → IsArmBelow n x → arm_at ts' x ≡ arm_at ts x
  arm_alike x h =
      let a : pat_at ts' x.pattern ≡ pat_at ts x.pattern = g.pat x.pattern h.0 in
      let b : guard_at ts' x.guard ≡ guard_at ts x.guard = guard_alike x.guard h.1.1 in
      let c : term_at ts' x.value ≡ term_at ts x.value = g.term x.value h.1.0 in
      ap (λ (i : Pat). let r : OneArm = record { pattern = i; guard = guard_at ts' x.guard; value = term_at ts' x.value } in r) a
      ∙ ap (λ (j : Guard). let r : OneArm = record { pattern = pat_at ts x.pattern; guard = j; value = term_at ts' x.value } in r) b
      ∙ ap (λ (k : Term). let r : OneArm = record { pattern = pat_at ts x.pattern; guard = guard_at ts x.guard; value = k } in r) c

  pub argument_alike : (x : Argument) → IsArgumentBelow n x → argument_at ts' x ≡ argument_at ts x
  argument_alike x h = ap (λ (k : Term). let r : OneArgument = record { label = x.label; value = k } in r) (g.term x.value h)

  pub field_alike : (x : FieldPattern) → IsFieldBelow n x → field_at ts' x ≡ field_at ts x
  field_alike x h = ap (λ (k : Pat). let r : OneField = record { field = x.field; pattern = k } in r) (g.pat x.pattern h)

  arms_alike : (c : Children) → ArmsFit ls n c → arms_at ts' (part ls'.arms c) ≡ arms_at ts (part ls.arms c)
  arms_alike c h = ap arms (part_same (arm_at ts') (arm_at ts) (IsArmBelow n) ls.arms ls'.arms c arm_alike l.arms h)

  arguments_alike : (c : Children) → ArgumentsFit ls n c → arguments_at ts' (part ls'.arguments c) ≡ arguments_at ts (part ls.arguments c)
  arguments_alike c h = ap arguments (part_same (argument_at ts') (argument_at ts) (IsArgumentBelow n) ls.arguments ls'.arguments c argument_alike l.arguments h)

  fields_alike : (c : Children) → FieldsFit ls n c → fields_at ts' (part ls'.fields c) ≡ fields_at ts (part ls.fields c)
  fields_alike c h = ap field_pats (part_same (field_at ts') (field_at ts) (IsFieldBelow n) ls.fields ls'.fields c field_alike l.fields h)

  term_alike : (s : Spot) (x : Expr) → ExprFits ls n x → grow_term ls' ts' s x ≡ grow_term ls ts s x
  term_alike s (e.Lit x) h = refl
  term_alike s (e.Var x) h = refl
  term_alike s e.SelfValue h = refl
  term_alike s (e.Field x a) h = cc (g.term a h)
  term_alike s (e.Borrow x a) h = cc (g.term a h)
  term_alike s (e.Set a b) h = cc (g.term a h.0, g.term b h.1)
  term_alike s (e.Swap a b) h = cc (g.term a h.0, g.term b h.1)
  term_alike s (e.Let x a) h = cc (g.term a h)
  term_alike s (e.TypedLet x t a) h = cc (g.written t h.0, g.term a h.1)
  term_alike s (e.Block k c) h = ap (Block s k) (terms_alike c h)
  term_alike s (e.New x c) h = ap (New s (Plain x)) (arguments_alike c h)
  term_alike s (e.NewOf x y c) h = ap (New s (Of x y)) (arguments_alike c h)
  term_alike s (e.Arr c) h = ap (Arr s) (terms_alike c h)
  term_alike s (e.Call x a c) h = ap (λ i. Call s (ByName x) i (terms_at ts' (part ls'.numbers c))) (g.term a h.0) ∙ ap (Call s (ByName x) (term_at ts a)) (terms_alike c h.1)
  term_alike s (e.Operate x a b) h = cc (g.term a h.0, g.term b h.1)
  term_alike s (e.Fn x c) h = ap (Fn s x) (terms_alike c h)
  term_alike s (e.Static x y c) h = ap (Static s x y) (terms_alike c h)
  term_alike s (e.Match x a c) h = ap (λ i. Match s x i (arms_at ts' (part ls'.arms c))) (g.term a h.0) ∙ ap (Match s x (term_at ts a)) (arms_alike c h.1)
  term_alike s (e.Loop a) h = cc (g.term a h)
  term_alike s e.Break h = refl
  term_alike s e.Next h = refl
  term_alike s (e.Return a) h = cc (g.term a h)
  term_alike s (e.Recover a) h = cc (g.term a h)
  term_alike s (e.Panic c) h = ap (Panic s) (terms_alike c h)
  term_alike s (e.Drop a) h = cc (g.term a h)
  term_alike s (e.Statement a) h = cc (g.term a h)

  pat_alike : (s : Spot) (x : Pattern) → PatternFits ls n x → grow_pat ls' ts' s x ≡ grow_pat ls ts s x
  pat_alike s p.Wildcard h = refl
  pat_alike s (p.Lit x) h = refl
  pat_alike s (p.Name m x) h = refl
  pat_alike s (p.Constructor x c) h = ap (Constructor s x) (pats_alike c h)
  pat_alike s (p.Either c) h = ap (Either s) (pats_alike c h)
  pat_alike s (p.Fields c) h = ap (Fields s) (fields_alike c h)

  written_alike : (s : Spot) (x : WrittenType) → WrittenFits ls n x → grow_written ls' ts' s x ≡ grow_written ls ts s x
  written_alike s (w.Named x c) h = ap (Named s x) (written_list_alike c h)
  written_alike s (w.Prefixed x a) h = cc (g.written a h)
  written_alike s (w.Tuple c) h = ap (Tuple s) (written_list_alike c h)

  parameter_alike : (s : Spot) (x : Parameter) → x.annotation < n → grow_parameter ts' s x ≡ grow_parameter ts s x
  parameter_alike s x h = ap (λ (k : Written). let r : ParameterTree = record { spot = s; name = x.name; annotation = k } in r) (g.written x.annotation h)

  method_alike : (s : Spot) (x : Method) → MethodFits ls n x → grow_method ls' ts' s x ≡ grow_method ls ts s x
  method_alike s x h =
      ap (λ (k : List ParameterTree). let r : MethodTree = record { spot = s; mode = x.mode; is_async = x.is_async; parameters = k; body = term_at ts' x.body } in r) (parameters_alike x.parameters h.1)
      ∙ ap (λ (k : Term). let r : MethodTree = record { spot = s; mode = x.mode; is_async = x.is_async; parameters = parameters_at ts (part ls.numbers x.parameters); body = k } in r) (g.term x.body h.0)

  pub grow_alike : (s : Spot) (x : Form) → Fits ls n x → grow ls' ts' s x ≡ grow ls ts s x
  grow_alike s (f.Expr x) h = ap IsTerm (term_alike s x h)
  grow_alike s (f.Pattern x) h = ap IsPat (pat_alike s x h)
  grow_alike s (f.Written x) h = ap IsWritten (written_alike s x h)
  grow_alike s (f.Parameter x) h = ap IsParameter (parameter_alike s x h)
  grow_alike s (f.Method x) h = ap IsMethod (method_alike s x h)

parameter_stays : (ts us : List Item) (k : ℕ) (o : Option Item) → written_at us k ≡ written_at ts k → parameter_or us k o ≡ parameter_or ts k o
parameter_stays ts us k (Some (IsParameter t)) h = refl
parameter_stays ts us k (Some (IsTerm t)) h = cc h
parameter_stays ts us k (Some (IsPat t)) h = cc h
parameter_stays ts us k (Some (IsWritten t)) h = cc h
parameter_stays ts us k (Some (IsMethod t)) h = cc h
parameter_stays ts us k None h = cc h

method_stays : (ts us : List Item) (k : ℕ) (o : Option Item) → term_at us k ≡ term_at ts k → method_or us k o ≡ method_or ts k o
method_stays ts us k (Some (IsMethod t)) h = refl
method_stays ts us k (Some (IsTerm t)) h = cc h
method_stays ts us k (Some (IsPat t)) h = cc h
method_stays ts us k (Some (IsWritten t)) h = cc h
method_stays ts us k (Some (IsParameter t)) h = cc h
method_stays ts us k None h = cc h

-- more nodes
pub more_items : (ts us : List Item) (n : ℕ) → n ≤ length ts → Agrees n ts (ts ++ us)
more_items ts us n h = record {
  term = λ k i. ap (term_or k) (get_left ts us k (omega arith));
  pat = λ k i. ap (pat_or k) (get_left ts us k (omega arith));
  written = λ k i. ap (written_or k) (get_left ts us k (omega arith));
  parameter = λ k i. ap (parameter_or (ts ++ us) k) (get_left ts us k (omega arith)) ∙ parameter_stays ts (ts ++ us) k (slice_get ts k) (ap (written_or k) (get_left ts us k (omega arith)));
  method = λ k i. ap (method_or (ts ++ us) k) (get_left ts us k (omega arith)) ∙ method_stays ts (ts ++ us) k (slice_get ts k) (ap (term_or k) (get_left ts us k (omega arith)));
}

pub same_items : (n : ℕ) (ts : List Item) → Agrees n ts ts
same_items n ts = record { term = λ k i. refl; pat = λ k i. refl; written = λ k i. refl; parameter = λ k i. refl; method = λ k i. refl }

pub same_lists : (ls : Lists) → Lengthens ls ls
same_lists ls = record {
  numbers = λ c i j. refl;
  arms = λ c i j. refl;
  arguments = λ c i j. refl;
  fields = λ c i j. refl;
  more_numbers = omega arith;
  more_arms = omega arith;
  more_arguments = omega arith;
  more_fields = omega arith;
}

-- the lists grow, and the trees stay
onto_lists : (ls ls' : Lists) (ts : List Item) (xs : List Node) → Lengthens ls ls' →
    ((j : ℕ) (y : Node) → slice_get xs j ≡ Some y → Fits ls (length ts + j) y.form) → onto ls' ts xs ≡ onto ls ts xs
onto_lists ls ls' ts [] l h = refl
onto_lists ls ls' ts (x ∷ xs) l h =
    let s = spot (length ts) x.start x.place in
    let fits : Fits ls (length ts) x.form = rw add-zero at (h zero x refl) in
    let same : grow ls' ts s x.form ≡ grow ls ts s x.form = grow_alike ls ls' ts ts (length ts) l (same_items (length ts) ts) s x.form fits in
    let g = grow ls ts s x.form in
    let len : (j : ℕ) → length (ts ++ g ∷ []) + j ≡ length ts + suc j = λ j. omega (arith, length-append ts (g ∷ [])) in
    ap (λ (i : Item). onto ls' (ts ++ i ∷ []) xs) same
    ∙ onto_lists ls ls' (ts ++ g ∷ []) xs l (λ j y k. subst (λ m. Fits ls m y.form) (sym (len j)) (h (suc j) y k))

pub items_lists : (ls ls' : Lists) (xs : List Node) → Lengthens ls ls' → AreFit ls xs → items ls' xs ≡ items ls xs
unfolding items
items_lists ls ls' xs l h = onto_lists ls ls' [] xs l (λ j y k. rw zero-add (h j y k))

-- a node more
onto_push : (ls : Lists) (ts : List Item) (xs : List Node) (x : Node) →
    onto ls ts (xs ++ x ∷ []) ≡ onto ls ts xs ++ grow ls (onto ls ts xs) (spot (length (onto ls ts xs)) x.start x.place) x.form ∷ []
onto_push ls ts [] x = refl
onto_push ls ts (y ∷ xs) x = onto_push ls (ts ++ grow ls ts (spot (length ts) y.start y.place) y.form ∷ []) xs x

onto_split : (ls : Lists) (ts : List Item) (xs : List Node) → (us : List Item) × (onto ls ts xs ≡ ts ++ us) × (length (onto ls ts xs) ≡ length ts + length xs)
onto_split ls ts [] = ([], sym (append-nil ts), omega arith)
onto_split ls ts (x ∷ xs) =
    let g = grow ls ts (spot (length ts) x.start x.place) x.form in
    let q = onto_split ls (ts ++ g ∷ []) xs in
    (g ∷ q.0, q.1 ∙ append_assoc ts (g ∷ []) q.0, omega (arith, q.2, length-append ts (g ∷ [])))

pub items_length : (ls : Lists) (xs : List Node) → length (items ls xs) ≡ length xs
unfolding items
items_length ls xs = omega (arith, (onto_split ls [] xs).2)

pub items_push : (ls : Lists) (xs : List Node) (x : Node) →
    items ls (xs ++ x ∷ []) ≡ items ls xs ++ grow ls (items ls xs) (spot (length xs) x.start x.place) x.form ∷ []
unfolding items
items_push ls xs x = onto_push ls [] xs x ∙ ap (λ n. onto ls [] xs ++ grow ls (onto ls [] xs) (spot n x.start x.place) x.form ∷ []) (omega (arith, (onto_split ls [] xs).2))

-- what stands at a number
onto_at : (ls : Lists) (ts : List Item) (xs : List Node) (i n : ℕ) (x : Node) →
    ((j : ℕ) (y : Node) → slice_get xs j ≡ Some y → Fits ls (length ts + j) y.form) → slice_get xs i ≡ Some x → n ≡ length ts + i →
    slice_get (onto ls ts xs) n ≡ Some (grow ls (onto ls ts xs) (spot n x.start x.place) x.form)
onto_at ls ts [] i n x h e m = cc
onto_at ls ts (y ∷ xs) zero n x h e m =
    let yx : y ≡ x = cc in
    let len : n ≡ length ts = omega arith in
    let s = spot (length ts) y.start y.place in
    let g = grow ls ts s y.form in
    let q = onto_split ls (ts ++ g ∷ []) xs in
    let w : onto ls (ts ++ g ∷ []) xs ≡ ts ++ (g ∷ q.0) = q.1 ∙ append_assoc ts (g ∷ []) q.0 in
    let fits : Fits ls (length ts) y.form = rw add-zero at (h zero y refl) in
    let same = grow_alike ls ls ts (ts ++ (g ∷ q.0)) (length ts) (same_lists ls) (more_items ts (g ∷ q.0) (length ts) (omega arith)) s y.form fits in
    ap (λ u. slice_get u n) w ∙ ap (slice_get (ts ++ (g ∷ q.0))) len ∙ get_here ts g q.0
    ∙ ap Some (sym same) ∙ ap (λ (u : List Item). Some (grow ls u s y.form)) (sym w)
    ∙ ap (λ (z : Node). Some (grow ls (onto ls (ts ++ g ∷ []) xs) (spot (length ts) z.start z.place) z.form)) yx
    ∙ ap (λ k. Some (grow ls (onto ls (ts ++ g ∷ []) xs) (spot k x.start x.place) x.form)) (sym len)
onto_at ls ts (y ∷ xs) (suc i) n x h e m =
    let g = grow ls ts (spot (length ts) y.start y.place) y.form in
    let len : (j : ℕ) → length (ts ++ g ∷ []) + j ≡ length ts + suc j = λ j. omega (arith, length-append ts (g ∷ [])) in
    onto_at ls (ts ++ g ∷ []) xs i n x (λ j z k. subst (λ l. Fits ls l z.form) (sym (len j)) (h (suc j) z k)) e (m ∙ sym (len i))

pub item_at : (ls : Lists) (xs : List Node) (i : ℕ) (x : Node) → AreFit ls xs → slice_get xs i ≡ Some x →
    slice_get (items ls xs) i ≡ Some (grow ls (items ls xs) (spot i x.start x.place) x.form)
unfolding items
item_at ls xs i x h e = onto_at ls [] xs i i x (λ j y k. rw zero-add (h j y k)) e (sym (zero-add i))

past : {A : Type 0} (xs : List A) (i : ℕ) → slice_get xs i ≡ None → length xs ≤ i
past [] i h = omega arith
past (x ∷ xs) zero h = cc
past (x ∷ xs) (suc i) h = let k : length xs ≤ i = past xs i h in omega arith

pub item_past : (ls : Lists) (xs : List Node) (i : ℕ) → slice_get xs i ≡ None → slice_get (items ls xs) i ≡ None
item_past ls xs i h = get_past (items ls xs) i (omega (arith, items_length ls xs, past xs i h))

-- a node more fits
fit_after : (ls : Lists) (n : ℕ) (xs : List Node) (x : Node) → ((i : ℕ) (y : Node) → slice_get xs i ≡ Some y → Fits ls (n + i) y.form) →
    Fits ls (n + length xs) x.form → (i : ℕ) (y : Node) → slice_get (xs ++ x ∷ []) i ≡ Some y → Fits ls (n + i) y.form
fit_after ls n [] x h k zero y e = let yx : x ≡ y = cc in subst (λ (z : Node). Fits ls (n + zero) z.form) yx k
fit_after ls n [] x h k (suc i) y e = cc
fit_after ls n (z ∷ xs) x h k zero y e = h zero y e
fit_after ls n (z ∷ xs) x h k (suc i) y e =
    let s : (j : ℕ) → n + suc j ≡ suc n + j = λ j. omega arith in
    subst (λ m. Fits ls m y.form) (sym (s i))
    (fit_after ls (suc n) xs x (λ j w g. subst (λ m. Fits ls m w.form) (s j) (h (suc j) w g)) (subst (λ m. Fits ls m x.form) (s (length xs)) k) i y e)

pub node_fits : (b : Bool) (ls : Lists) (xs xs' : List Node) (x : Node) → xs' ≡ (if b then xs ++ x ∷ [] else xs) → Fits ls (length xs) x.form →
    AreFit ls xs → AreFit ls xs'
node_fits true ls xs xs' x w k h = λ i y e. rw zero-add at (fit_after ls 0 xs x (λ j z g. rw zero-add (h j z g)) (rw zero-add k) i y (sym (ap (λ u. slice_get u i) w) ∙ e))
node_fits false ls xs xs' x w k h = λ i y e. h i y (sym (ap (λ u. slice_get u i) w) ∙ e)
