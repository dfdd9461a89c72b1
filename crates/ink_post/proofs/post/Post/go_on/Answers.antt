use Rattle.std.proofs.Common.{refl, sym, ◌∙◌}
use Rattle.ink_post.specs.declared.answer.Came.TheVariants as came
use Rattle.ink_post.proofs.TurningLemmas.{coming_from, goes_as, rests_both, same_rests, went_without}
use Rattle.ink_post.proofs.post.Post.go_on.Goals as goal
use Rattle.ink_proc.specs.State.{state_of}

pub come_again-requires-clause-comes : goal.come_again-requires-clause-comes
come_again-requires-clause-comes c =
    coming_from c.args.code.now c.args.self.now c.args.process _ (state_of c.args.proc) (state_of c.slice-stepped.new.proc) c.slice-stepped.result came.Went c.requires.lent c.slice-stepped.ensures (sym (went_without c.slice-stepped.result (sym c.came_of-came.ensures.memory ∙ c.if-not-memory.true)))

pub check_in-requires-clause-comes : goal.check_in-requires-clause-comes
check_in-requires-clause-comes c =
    coming_from c.args.code.now c.args.self.now c.args.process _ (state_of c.args.proc) (state_of c.slice-stepped.new.proc) c.slice-stepped.result c.came_of-came.result.0 c.requires.lent c.slice-stepped.ensures c.came_of-came.ensures.came

pub returns-in-Ok-clause-goes : goal.returns-in-Ok-clause-goes
returns-in-Ok-clause-goes c =
    goes_as c.args.code.now c.args.process _ (state_of c.args.proc) (state_of c.slice-stepped.new.proc) c.args.self.now c.check_in.new.self c.slice-stepped.result c.came_of-came.result.0 c.in-Ok.answer refl c.slice-stepped.ensures c.came_of-came.ensures.came c.in-Ok.ensures.checks c.in-Ok.ensures.stays

pub returns-clause-fails : goal.returns-clause-fails
returns-clause-fails c =
    rests_both c.args.code.now c.args.self.now c.check_in.new.self c.give_up.new.self (same_rests c.args.code.now c.args.self.now c.check_in.new.self c.check_in.ensures.limits c.in-Err.ensures.checks.0.0) c.give_up.ensures.rests
