use Rattle.ink_replay.proofs.LookLemmas.{look_goes, look_rests, look_spends, look_waits}
use Rattle.ink_replay.proofs.rest.stop_at.Goals as goal

pub returns-in-Ok-Waits-clause-finds : goal.returns-in-Ok-Waits-clause-finds
returns-in-Ok-Waits-clause-finds g c = (
  record {
    stands = (rw c.in-Ok-Waits.field-0-is at c.in-Ok-Waits.ensures.looks).0;
    limits = c.look.ensures.limits;
    wrong = (rw c.in-Ok-Waits.field-0-is at c.in-Ok-Waits.ensures.wrong);
    written = (rw c.in-Ok-Waits.field-0-is at c.in-Ok-Waits.ensures.written);
  },
  (rw c.in-Ok-Waits.field-0-is at c.in-Ok-Waits.ensures.looks).1,
  look_rests c.args.code.now c.args.process c.args.world.now.post c.look.new.self.post c.requires.rest (rw c.in-Ok-Waits.field-0-is at c.in-Ok-Waits.ensures.sees),
)

pub returns-in-Ok-Enabled-clause-finds : goal.returns-in-Ok-Enabled-clause-finds
returns-in-Ok-Enabled-clause-finds g c = (
  record {
    stands = (rw c.in-Ok-Enabled.field-0-is at c.in-Ok-Enabled.ensures.looks).0;
    limits = c.look.ensures.limits;
    wrong = (rw c.in-Ok-Enabled.field-0-is at c.in-Ok-Enabled.ensures.wrong);
    written = (rw c.in-Ok-Enabled.field-0-is at c.in-Ok-Enabled.ensures.written);
  },
  (rw c.in-Ok-Enabled.field-0-is at c.in-Ok-Enabled.ensures.looks).1,
  look_goes c.args.code.now c.args.process c.args.world.now.post c.look.new.self.post c.requires.stands c.requires.rest c.requires.first c.look.ensures.limits c.look.ensures.journal (rw c.in-Ok-Enabled.field-0-is at c.in-Ok-Enabled.ensures.sees),
)

pub returns-in-Ok-Spent-clause-finds : goal.returns-in-Ok-Spent-clause-finds
returns-in-Ok-Spent-clause-finds g c = (
  record {
    stands = (rw c.in-Ok-Spent.field-0-is at c.in-Ok-Spent.ensures.looks);
    limits = c.look.ensures.limits;
    wrong = (rw c.in-Ok-Spent.field-0-is at c.in-Ok-Spent.ensures.wrong);
    written = (rw c.in-Ok-Spent.field-0-is at c.in-Ok-Spent.ensures.written);
  },
  look_spends c.args.code.now c.args.process c.in-Ok-Spent.steps c.args.world.now.post c.look.new.self.post (rw c.in-Ok-Spent.field-0-is at c.in-Ok-Spent.ensures.sees),
  look_waits c.args.code.now c.args.process c.args.world.now.post c.look.new.self.post c.requires.stands c.requires.rest c.requires.first c.look.ensures.limits c.look.ensures.journal,
)
