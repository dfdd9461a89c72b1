use Rattle.std.proofs.Common.{◌≡◌, ◌++◌, drop}
use Rattle.ink_grammar.proofs.stack.Stack.push_all.Given as goal

abbrev pub invariant-loop-i : goal.invariant-loop-i
invariant-loop-i l = l.self ≡ drop l.i l.symbols ++ l.fn.self
