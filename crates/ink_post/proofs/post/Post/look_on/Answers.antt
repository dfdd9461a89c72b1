use Rattle.std.proofs.Common.{[], refl, sym, ◌∙◌}
use Rattle.ink_post.specs.Asks.{told_came}
use Rattle.ink_post.specs.Worlds.{world_of}
use Rattle.ink_post.proofs.MeaningLemmas.{sees_wrong}
use Rattle.ink_post.proofs.TurningLemmas.{coming_from, sees_adds, sees_from, sees_looks, went_without, without_rests, without_wrong}
use Rattle.ink_post.proofs.post.Post.look_on.Goals as goal
use Rattle.ink_proc.specs.State.{state_of}

pub returns-then-memory-clause-sees : goal.returns-then-memory-clause-sees
returns-then-memory-clause-sees c =
    sees_from c.args.code.now c.args.process _ (state_of c.args.proc) (state_of c.slice-stepped.new.proc) c.args.self.now c.seen-looked.new.self c.slice-stepped.result c.came_of-came.result.0 c.seen-looked.result refl c.slice-stepped.ensures c.came_of-came.ensures.came c.seen-looked.ensures.sees

pub returns-then-memory-clause-looks : goal.returns-then-memory-clause-looks
returns-then-memory-clause-looks c =
    sees_looks c.args.code.now c.args.process c.came_of-came.result.0 (state_of c.slice-stepped.new.proc) c.args.self.now c.seen-looked.new.self (coming_from c.args.code.now c.args.self.now c.args.process _ (state_of c.args.proc) (state_of c.slice-stepped.new.proc) c.slice-stepped.result c.came_of-came.result.0 c.requires.lent c.slice-stepped.ensures c.came_of-came.ensures.came) c.seen-looked.ensures.limits c.requires.goes c.seen-looked.result c.seen-looked.ensures.sees

pub returns-then-memory-clause-entries : goal.returns-then-memory-clause-entries
returns-then-memory-clause-entries c = sees_adds c.args.process (told_came c.came_of-came.result.0) (state_of c.slice-stepped.new.proc) (world_of c.args.self.now []) (world_of c.seen-looked.new.self []) c.seen-looked.result (c.seen-looked.ensures.sees [])

pub returns-else-memory-clause-entries : goal.returns-else-memory-clause-entries
returns-else-memory-clause-entries c = sees_adds c.args.process (told_came c.came_of-came.result.0) (state_of c.slice-stepped.new.proc) (world_of c.args.self.now []) (world_of c.seen-looked.new.self []) c.seen-looked.result (c.seen-looked.ensures.sees [])

pub returns-else-memory-clause-fails : goal.returns-else-memory-clause-fails
returns-else-memory-clause-fails c =
    without_rests c.args.code.now c.args.process c.came_of-came.result.0 (state_of c.slice-stepped.new.proc) c.args.self.now c.seen-looked.new.self (coming_from c.args.code.now c.args.self.now c.args.process _ (state_of c.args.proc) (state_of c.slice-stepped.new.proc) c.slice-stepped.result c.came_of-came.result.0 c.requires.lent c.slice-stepped.ensures c.came_of-came.ensures.came) c.seen-looked.ensures.limits c.requires.goes c.seen-looked.result (c.came_of-came.ensures.came ∙ went_without c.slice-stepped.result (sym c.came_of-came.ensures.memory ∙ c.if-memory.false)) c.seen-looked.ensures.sees

pub returns-then-memory-clause-tells : goal.returns-then-memory-clause-tells
returns-then-memory-clause-tells c =
    sees_wrong c.args.code.now c.args.self.now c.args.process c.args.process c.came_of-came.result.0 (state_of c.slice-stepped.new.proc) (coming_from c.args.code.now c.args.self.now c.args.process _ (state_of c.args.proc) (state_of c.slice-stepped.new.proc) c.slice-stepped.result c.came_of-came.result.0 c.requires.lent c.slice-stepped.ensures c.came_of-came.ensures.came) c.requires.stands c.seen-looked.new.self c.seen-looked.result c.seen-looked.ensures.sees

pub returns-else-memory-clause-wrong : goal.returns-else-memory-clause-wrong
returns-else-memory-clause-wrong c =
    c.seen-looked.ensures.wrong
    ∙ without_wrong c.args.process c.came_of-came.result.0 (state_of c.slice-stepped.new.proc) (world_of c.args.self.now []) (world_of c.seen-looked.new.self []) c.seen-looked.result c.args.self.now.wrong (c.came_of-came.ensures.came ∙ went_without c.slice-stepped.result (sym c.came_of-came.ensures.memory ∙ c.if-memory.false)) (c.seen-looked.ensures.sees [])
