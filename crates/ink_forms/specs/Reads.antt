-- What a reader gives for a node, or for none.
use Rattle.std.specs.Prelude.{ℕ, Option, Some, None, false}
use Rattle.ink_forms.specs.declared.node.Node.{Node}
use Rattle.ink_forms.specs.declared.node.Form.{Form}
use Rattle.ink_forms.specs.declared.node.Form.TheVariants as f
use Rattle.ink_forms.specs.declared.node.ExprNode.{ExprNode}
use Rattle.ink_forms.specs.declared.node.PatternNode.{PatternNode}
use Rattle.ink_forms.specs.declared.node.WrittenNode.{WrittenNode}
use Rattle.ink_forms.specs.declared.node.ParameterNode.{ParameterNode}
use Rattle.ink_forms.specs.declared.node.MethodNode.{MethodNode}
use Rattle.ink_forms.specs.declared.expr.Expr.TheVariants as e
use Rattle.ink_forms.specs.declared.pattern.Pattern.TheVariants as p
use Rattle.ink_forms.specs.declared.written.WrittenType.TheVariants as w
use Rattle.ink_forms.specs.declared.word.Literal.TheVariants as literal
use Rattle.ink_forms.specs.declared.method.Mode.TheVariants as mode

abbrev pub no_expr : ExprNode
no_expr = record { start = 0; place = 0; expr = e.Lit literal.Nil }

abbrev pub expr_in : ℕ → ℕ → Form → ExprNode
expr_in s q (f.Expr x) = record { start = s; place = q; expr = x }
expr_in s q (f.Pattern x) = no_expr
expr_in s q (f.Written x) = no_expr
expr_in s q (f.Parameter x) = no_expr
expr_in s q (f.Method x) = no_expr

abbrev pub expr_of : Option Node → ExprNode
expr_of None = no_expr
expr_of (Some x) = expr_in x.start x.place x.form

abbrev pub no_pattern : PatternNode
no_pattern = record { start = 0; place = 0; pattern = p.Wildcard }

abbrev pub pattern_in : ℕ → ℕ → Form → PatternNode
pattern_in s q (f.Pattern x) = record { start = s; place = q; pattern = x }
pattern_in s q (f.Expr x) = no_pattern
pattern_in s q (f.Written x) = no_pattern
pattern_in s q (f.Parameter x) = no_pattern
pattern_in s q (f.Method x) = no_pattern

abbrev pub pattern_of : Option Node → PatternNode
pattern_of None = no_pattern
pattern_of (Some x) = pattern_in x.start x.place x.form

abbrev pub no_written_node : WrittenNode
no_written_node = record { start = 0; place = 0; written = w.Named 0 (record { start = 0; end = 0 }) }

abbrev pub written_in : ℕ → ℕ → Form → WrittenNode
written_in s q (f.Written x) = record { start = s; place = q; written = x }
written_in s q (f.Expr x) = no_written_node
written_in s q (f.Pattern x) = no_written_node
written_in s q (f.Parameter x) = no_written_node
written_in s q (f.Method x) = no_written_node

abbrev pub written_of : Option Node → WrittenNode
written_of None = no_written_node
written_of (Some x) = written_in x.start x.place x.form

abbrev pub no_parameter_node : ℕ → ParameterNode
no_parameter_node n = record { start = 0; place = 0; parameter = record { name = 0; annotation = n } }

abbrev pub parameter_in : ℕ → ℕ → ℕ → Form → ParameterNode
parameter_in n s q (f.Parameter x) = record { start = s; place = q; parameter = x }
parameter_in n s q (f.Expr x) = no_parameter_node n
parameter_in n s q (f.Pattern x) = no_parameter_node n
parameter_in n s q (f.Written x) = no_parameter_node n
parameter_in n s q (f.Method x) = no_parameter_node n

abbrev pub parameter_of : ℕ → Option Node → ParameterNode
parameter_of n None = no_parameter_node n
parameter_of n (Some x) = parameter_in n x.start x.place x.form

abbrev pub no_method_node : ℕ → MethodNode
no_method_node n = record { start = 0; place = 0; method = record { mode = mode.Plain; is_async = false; parameters = record { start = 0; end = 0 }; body = n } }

abbrev pub method_in : ℕ → ℕ → ℕ → Form → MethodNode
method_in n s q (f.Method x) = record { start = s; place = q; method = x }
method_in n s q (f.Expr x) = no_method_node n
method_in n s q (f.Pattern x) = no_method_node n
method_in n s q (f.Written x) = no_method_node n
method_in n s q (f.Parameter x) = no_method_node n

abbrev pub method_of : ℕ → Option Node → MethodNode
method_of n None = no_method_node n
method_of n (Some x) = method_in n x.start x.place x.form
