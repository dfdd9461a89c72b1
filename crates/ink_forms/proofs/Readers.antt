-- What stands at a number is what its reader gives.
use Rattle.std.proofs.Common.{◌≡◌, ℕ, List, Option, Some, None, refl, ap, subst, sym, ◌∙◌}
use Rattle.std.specs.Prelude.{slice_get}
use Rattle.ink_forms.specs.declared.node.Node.{Node}
use Rattle.ink_forms.specs.declared.node.Form.{Form}
use Rattle.ink_forms.specs.declared.node.Form.TheVariants as f
use Rattle.ink_forms.specs.declared.node.ExprNode.{ExprNode}
use Rattle.ink_forms.specs.declared.node.PatternNode.{PatternNode}
use Rattle.ink_forms.specs.declared.node.WrittenNode.{WrittenNode}
use Rattle.ink_forms.specs.declared.node.ParameterNode.{ParameterNode}
use Rattle.ink_forms.specs.declared.node.MethodNode.{MethodNode}
use Rattle.ink_forms.specs.Built.{Lists, Item, spot, term_or, pat_or, written_or, parameter_or, method_or, term_at, pat_at, written_at, parameter_at, method_at, grow_term, grow_pat, grow_written, grow_parameter, grow_method, grow, items}
use Rattle.ink_forms.specs.Fits.{AreFit}
use Rattle.ink_forms.specs.Reads as read
use Rattle.ink_forms.proofs.Grown.{item_at, item_past}

module _ (ls : Lists) (ts : List Item) (n s q : ℕ) where
  term_in : (x : Form) → let r = read.expr_in s q x in term_or n (Some (grow ls ts (spot n s q) x)) ≡ grow_term ls ts (spot n r.start r.place) r.expr
  term_in (f.Expr x) = refl
  term_in (f.Pattern x) = refl
  term_in (f.Written x) = refl
  term_in (f.Parameter x) = refl
  term_in (f.Method x) = refl

  pat_in : (x : Form) → let r = read.pattern_in s q x in pat_or n (Some (grow ls ts (spot n s q) x)) ≡ grow_pat ls ts (spot n r.start r.place) r.pattern
  pat_in (f.Expr x) = refl
  pat_in (f.Pattern x) = refl
  pat_in (f.Written x) = refl
  pat_in (f.Parameter x) = refl
  pat_in (f.Method x) = refl

  written_in : (x : Form) → let r = read.written_in s q x in written_or n (Some (grow ls ts (spot n s q) x)) ≡ grow_written ls ts (spot n r.start r.place) r.written
  written_in (f.Expr x) = refl
  written_in (f.Pattern x) = refl
  written_in (f.Written x) = refl
  written_in (f.Parameter x) = refl
  written_in (f.Method x) = refl

  parameter_in : (x : Form) → let r = read.parameter_in n s q x in parameter_or ts n (Some (grow ls ts (spot n s q) x)) ≡ grow_parameter ts (spot n r.start r.place) r.parameter
  parameter_in (f.Expr x) = refl
  parameter_in (f.Pattern x) = refl
  parameter_in (f.Written x) = refl
  parameter_in (f.Parameter x) = refl
  parameter_in (f.Method x) = refl

  method_in : (x : Form) → let r = read.method_in n s q x in method_or ts n (Some (grow ls ts (spot n s q) x)) ≡ grow_method ls ts (spot n r.start r.place) r.method
  method_in (f.Expr x) = refl
  method_in (f.Pattern x) = refl
  method_in (f.Written x) = refl
  method_in (f.Parameter x) = refl
  method_in (f.Method x) = refl

module _ (ls : Lists) (xs : List Node) (n : ℕ) (fit : AreFit ls xs) where
  term_of : (o : Option Node) → slice_get xs n ≡ o → let r = read.expr_of o in term_at (items ls xs) n ≡ grow_term ls (items ls xs) (spot n r.start r.place) r.expr
  term_of None e = ap (term_or n) (item_past ls xs n e)
  term_of (Some x) e = ap (term_or n) (item_at ls xs n x fit e) ∙ term_in ls (items ls xs) n x.start x.place x.form

  pat_of : (o : Option Node) → slice_get xs n ≡ o → let r = read.pattern_of o in pat_at (items ls xs) n ≡ grow_pat ls (items ls xs) (spot n r.start r.place) r.pattern
  pat_of None e = ap (pat_or n) (item_past ls xs n e)
  pat_of (Some x) e = ap (pat_or n) (item_at ls xs n x fit e) ∙ pat_in ls (items ls xs) n x.start x.place x.form

  written_of : (o : Option Node) → slice_get xs n ≡ o → let r = read.written_of o in written_at (items ls xs) n ≡ grow_written ls (items ls xs) (spot n r.start r.place) r.written
  written_of None e = ap (written_or n) (item_past ls xs n e)
  written_of (Some x) e = ap (written_or n) (item_at ls xs n x fit e) ∙ written_in ls (items ls xs) n x.start x.place x.form

  parameter_of : (o : Option Node) → slice_get xs n ≡ o → let r = read.parameter_of n o in parameter_at (items ls xs) n ≡ grow_parameter (items ls xs) (spot n r.start r.place) r.parameter
  parameter_of None e = ap (parameter_or (items ls xs) n) (item_past ls xs n e)
  parameter_of (Some x) e = ap (parameter_or (items ls xs) n) (item_at ls xs n x fit e) ∙ parameter_in ls (items ls xs) n x.start x.place x.form

  method_of : (o : Option Node) → slice_get xs n ≡ o → let r = read.method_of n o in method_at (items ls xs) n ≡ grow_method ls (items ls xs) (spot n r.start r.place) r.method
  method_of None e = ap (method_or (items ls xs) n) (item_past ls xs n e)
  method_of (Some x) e = ap (method_or (items ls xs) n) (item_at ls xs n x fit e) ∙ method_in ls (items ls xs) n x.start x.place x.form

pub term_of_node : (ls : Lists) (xs : List Node) (n : ℕ) → AreFit ls xs →
    (r : ExprNode) × (term_at (items ls xs) n ≡ grow_term ls (items ls xs) (spot n r.start r.place) r.expr)
term_of_node ls xs n fit = (read.expr_of (slice_get xs n), term_of ls xs n fit (slice_get xs n) refl)

module _ (ls : Lists) (xs : List Node) (n : ℕ) (fit : AreFit ls xs) (ys : List Node) (same : ys ≡ xs) where
  at : (o : Option Node) → o ≡ slice_get ys n → slice_get xs n ≡ o
  at o e = sym (ap (λ zs. slice_get zs n) same) ∙ sym e

  pub term_reads : (o : Option Node) (r : ExprNode) → o ≡ slice_get ys n → r ≡ read.expr_of o → term_at (items ls xs) n ≡ grow_term ls (items ls xs) (spot n r.start r.place) r.expr
  term_reads o r e w = subst (λ (z : ExprNode). term_at (items ls xs) n ≡ grow_term ls (items ls xs) (spot n z.start z.place) z.expr) (sym w) (term_of ls xs n fit o (at o e))

  pub pat_reads : (o : Option Node) (r : PatternNode) → o ≡ slice_get ys n → r ≡ read.pattern_of o → pat_at (items ls xs) n ≡ grow_pat ls (items ls xs) (spot n r.start r.place) r.pattern
  pat_reads o r e w = subst (λ (z : PatternNode). pat_at (items ls xs) n ≡ grow_pat ls (items ls xs) (spot n z.start z.place) z.pattern) (sym w) (pat_of ls xs n fit o (at o e))

  pub written_reads : (o : Option Node) (r : WrittenNode) → o ≡ slice_get ys n → r ≡ read.written_of o → written_at (items ls xs) n ≡ grow_written ls (items ls xs) (spot n r.start r.place) r.written
  written_reads o r e w = subst (λ (z : WrittenNode). written_at (items ls xs) n ≡ grow_written ls (items ls xs) (spot n z.start z.place) z.written) (sym w) (written_of ls xs n fit o (at o e))

  pub parameter_reads : (o : Option Node) (r : ParameterNode) → o ≡ slice_get ys n → r ≡ read.parameter_of n o → parameter_at (items ls xs) n ≡ grow_parameter (items ls xs) (spot n r.start r.place) r.parameter
  parameter_reads o r e w = subst (λ (z : ParameterNode). parameter_at (items ls xs) n ≡ grow_parameter (items ls xs) (spot n z.start z.place) z.parameter) (sym w) (parameter_of ls xs n fit o (at o e))

  pub method_reads : (o : Option Node) (r : MethodNode) → o ≡ slice_get ys n → r ≡ read.method_of n o → method_at (items ls xs) n ≡ grow_method ls (items ls xs) (spot n r.start r.place) r.method
  method_reads o r e w = subst (λ (z : MethodNode). method_at (items ls xs) n ≡ grow_method ls (items ls xs) (spot n z.start z.place) z.method) (sym w) (method_of ls xs n fit o (at o e))
