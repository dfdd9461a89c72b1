use Rattle.std.proofs.Common.{◌≡◌, map, drop}
use Rattle.ink_grammar.specs.Grammar as spec
use Rattle.ink_grammar.specs.Machine as machine
use Rattle.ink_grammar.proofs.parser.choose.Given as goal

abbrev pub invariant-loop-rule : goal.invariant-loop-rule
invariant-loop-rule l = machine.pick (spec.rules l.fn.part) l.token ≡ machine.pick (map (λ r. r.now) (drop l.rule-index l.rule-items)) l.token
