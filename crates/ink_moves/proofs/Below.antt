-- The steps of an expression's work are of nodes that come before it.
use Rattle.std.proofs.Common.{◌≡◌, ℕ, ◌<◌, Bool, true, false, List, [], ◌∷◌, ◌++◌, Option, Some, None, refl, sym, ap, ◌∙◌, subst}
use Rattle.std.specs.Prelude.{IfSome, slice_get}
use Rattle.std.specs.List.{All, AllByRecursion}
use Rattle.std.proofs.lemmas.List.Elements.{recursion_from_All, All-from_recursion}
use Rattle.ink_forms.specs.declared.arena.Arena.{Arena}
use Rattle.ink_forms.specs.declared.expr.Arm.{Arm}
use Rattle.ink_forms.specs.declared.expr.Argument.{Argument}
use Rattle.ink_forms.specs.declared.expr.Expr.{Expr}
use Rattle.ink_forms.specs.declared.expr.Expr.TheVariants as e
use Rattle.ink_forms.specs.declared.order.Step.{Step}
use Rattle.ink_forms.specs.declared.list.Children.{Children}
use Rattle.ink_forms.specs.declared.node.Form.{Form}
use Rattle.ink_forms.specs.declared.node.Form.TheVariants as f
use Rattle.ink_forms.specs.declared.node.Node.{Node}
use Rattle.ink_forms.specs.Built.{Lists}
use Rattle.ink_forms.specs.Fits.{IsBelow, IsArmBelow, IsArgumentBelow, Fits, ExprFits, AreFit}
use Rattle.ink_forms.specs.Reads as read
use Rattle.ink_forms.specs.Order.{number_of, one, path, all, all_arguments, guarded, all_arms, order}
use Rattle.ink_forms.specs.Views as view
use Rattle.ink_forms.proofs.Ordered.{number_read}
use Rattle.ink_forms.proofs.Readers.{term_reads}

IsStepBelow : ℕ → Step → Type 0
IsStepBelow n s = s.node < n

Below : ℕ → List Step → Type 0
unfolding IsStepBelow
Below n ss = AllByRecursion (IsStepBelow n) ss

module _ (a : Arena) (n : ℕ) where
  below : (k : ℕ) → k < n → number_of (view.term a k) < n
  below k h = rw (number_read a k) h

  joined : (xs ys : List Step) → Below n xs → Below n ys → Below n (xs ++ ys)
  unfolding Below
  joined [] ys h w = w
  joined (x ∷ xs) ys h w = (h.0, joined xs ys h.1 w)

  of_one : (k : ℕ) → k < n → Below n (one (view.term a k))
  unfolding Below IsStepBelow
  of_one k h = (below k h, tt)

  early : (k : ℕ) → k < n → Below n ((path (view.term a k)).early)
  unfolding Below IsStepBelow
  early k h = (below k h, tt)

  late : (k : ℕ) → k < n → Below n ((path (view.term a k)).late)
  unfolding Below IsStepBelow
  late k h = (below k h, tt)

  of_all : (ks : List ℕ) → AllByRecursion (IsBelow n) ks → Below n (all (view.terms a ks))
  unfolding Below IsStepBelow
  of_all [] h = tt
  of_all (k ∷ ks) h = (below k h.0, of_all ks h.1)

  of_arguments : (xs : List Argument) → AllByRecursion (IsArgumentBelow n) xs → Below n (all_arguments (view.arguments a xs))
  unfolding Below IsStepBelow
  of_arguments [] h = tt
  of_arguments (x ∷ xs) h = (below x.value h.0, of_arguments xs h.1)

  of_guard : (o : Option ℕ) → IfSome o (IsBelow n) → Below n (guarded (view.guard a o))
  unfolding Below IsStepBelow
  of_guard None h = tt
  of_guard (Some k) h = (below k h, tt)

  none : Below n []
  unfolding Below
  none = tt

  of_arms : (xs : List Arm) → AllByRecursion (IsArmBelow n) xs → Below n (all_arms (view.arms a xs))
  of_arms [] h = none
  of_arms (x ∷ xs) h =
      joined (guarded (view.guard a x.guard)) (one (view.term a x.value) ++ all_arms (view.arms a xs)) (of_guard x.guard h.0.1.1)
      (joined (one (view.term a x.value)) (all_arms (view.arms a xs)) (of_one x.value h.0.1.0) (of_arms xs h.1))

  between : (k : ℕ) (ys : List Step) → k < n → Below n ys → Below n (((path (view.term a k)).early ++ ys) ++ (path (view.term a k)).late)
  between k ys h w =
      joined ((path (view.term a k)).early ++ ys) (path (view.term a k)).late (joined (path (view.term a k)).early ys (early k h) w) (late k h)

  of_list : (r : Children) → view.AreBefore a n r → Below n (all (view.terms a (view.list a r)))
  of_list r h = of_all (view.list a r) (recursion_from_All (IsBelow n) (view.list a r) h.1.1)

  of_named : (r : Children) → view.AreArgumentsBefore a n r → Below n (all_arguments (view.arguments a (view.argument_list a r)))
  of_named r h = of_arguments (view.argument_list a r) (recursion_from_All (IsArgumentBelow n) (view.argument_list a r) h.1.1)

  of_choice : (r : Children) → view.AreArmsBefore a n r → Below n (all_arms (view.arms a (view.arm_list a r)))
  of_choice r h = of_arms (view.arm_list a r) (recursion_from_All (IsArmBelow n) (view.arm_list a r) h.1.1)

  of_last : (k : ℕ) → k < n → Below n (all (view.terms a (k ∷ [])))
  of_last k h = of_all (k ∷ []) (h, tt)

  both : (c : Bool) (s p : ℕ) (x : Expr) → view.ExprStands a n x → let w = order c (view.expr_tree a n s p x) in Below n w.early × Below n w.late
  both c s p (e.Lit l) h = (none, none)
  both c s p (e.Var x) h = (none, none)
  both c s p e.SelfValue h = (none, none)
  both true s p (e.Field x k) h = (between k [] h none, none)
  both false s p (e.Field x k) h = (early k h, joined (path (view.term a k)).late [] (late k h) none)
  both c s p (e.Borrow x k) h = (of_one k h, none)
  both c s p (e.Set k m) h = (between k (one (view.term a m)) h.0 (of_one m h.1), none)
  both c s p (e.Swap k m) h = (between k (one (view.term a m)) h.0 (of_one m h.1), none)
  both c s p (e.Let x k) h = (of_one k h, none)
  both c s p (e.TypedLet x t k) h = (of_one k h.1, none)
  both c s p (e.Block k r) h = (of_list r h, none)
  both c s p (e.New x r) h = (of_named r h, none)
  both c s p (e.NewOf x y r) h = (of_named r h, none)
  both c s p (e.Arr r) h = (of_list r h, none)
  both c s p (e.Call x k r) h = (between k (all (view.terms a (view.list a r))) h.0 (of_list r h.1), none)
  both c s p (e.Operate x k m) h = (between k (all (view.terms a (m ∷ []))) h.0 (of_last m h.1), none)
  both c s p (e.Fn x r) h = (of_list r h, none)
  both c s p (e.Static x y r) h = (of_list r h, none)
  both c s p (e.Match x k r) h = (joined (one (view.term a k)) (all_arms (view.arms a (view.arm_list a r))) (of_one k h.0) (of_choice r h.1), none)
  both c s p (e.Loop k) h = (of_one k h, none)
  both c s p e.Break h = (none, none)
  both c s p e.Next h = (none, none)
  both c s p (e.Return k) h = (of_one k h, none)
  both c s p (e.Recover k) h = (of_one k h, none)
  both c s p (e.Panic r) h = (of_list r h, none)
  both c s p (e.Drop k) h = (of_one k h, none)
  both c s p (e.Statement k) h = (of_one k h, none)

  -- what is read of a node fits where the node does
  fits_in : (ls : Lists) (s p : ℕ) (form : Form) → Fits ls n form → ExprFits ls n (read.expr_of (Some (record { start = s; place = p; form = form }))).expr
  fits_in ls s p (f.Expr x) h = h
  fits_in ls s p (f.Pattern x) h = tt
  fits_in ls s p (f.Written x) h = tt
  fits_in ls s p (f.Parameter x) h = tt
  fits_in ls s p (f.Method x) h = tt

  fits : (ls : Lists) (xs : List Node) → AreFit ls xs → (o : Option Node) → slice_get xs n ≡ o → ExprFits ls n (read.expr_of o).expr
  fits ls xs h None w = tt
  fits ls xs h (Some x) w = fits_in ls x.start x.place x.form (h n x w)

  steps_below : (c : Bool) → let w = order c (view.term a n) in Below n w.early × Below n w.late
  steps_below c =
      let o = slice_get a.nodes.items n in
      let r = read.expr_of o in
      let same = term_reads (view.lists_of a) a.nodes.items n a.fit a.nodes.items refl o r refl refl in
      let stands = fits (view.lists_of a) a.nodes.items a.fit o refl in
      subst (λ t. Below n (order c t).early × Below n (order c t).late) (sym same) (both c r.start r.place r.expr stands)

  pub early_below : (c : Bool) (old ss : List Step) → old ≡ [] → ss ≡ old ++ (order c (view.term a n)).early → All (λ s. s.node < n) ss
  unfolding Below IsStepBelow
  early_below c old ss w e =
      let same : ss ≡ (order c (view.term a n)).early = e ∙ ap (λ xs. xs ++ (order c (view.term a n)).early) w in
      subst (All (λ s. s.node < n)) (sym same) (All-from_recursion (λ s. s.node < n) (order c (view.term a n)).early (steps_below c).0)

  pub late_below : (c : Bool) (old ss : List Step) → old ≡ [] → ss ≡ old ++ (order c (view.term a n)).late → All (λ s. s.node < n) ss
  unfolding Below IsStepBelow
  late_below c old ss w e =
      let same : ss ≡ (order c (view.term a n)).late = e ∙ ap (λ xs. xs ++ (order c (view.term a n)).late) w in
      subst (All (λ s. s.node < n)) (sym same) (All-from_recursion (λ s. s.node < n) (order c (view.term a n)).late (steps_below c).1)
