use Rattle.ink_findings.proofs.moves.Moves.put.Goals as goal

pub returns-clause-others : goal.returns-clause-others
returns-clause-others c = λ a b apart. c.in_ok-insert.ensures.updates.2 (a, b) apart
