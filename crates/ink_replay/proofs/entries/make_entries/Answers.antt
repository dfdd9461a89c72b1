use Rattle.std.proofs.Common.{sym}
use Rattle.ink_replay.proofs.RestLemmas.{keeps_then}
use Rattle.ink_replay.proofs.TurnLemmas.{ends_in, made_next}
use Rattle.ink_replay.proofs.entries.make_entries.Goals as goal

pub returns-in-Ok-Ends-clause-made : goal.returns-in-Ok-Ends-clause-made
returns-in-Ok-Ends-clause-made g c =
    ends_in c.args.code.now c.in-Some.process c.in-Ok-Ends.end c.loop-index.world.post c.make_entry.new.world.post _ _ c.args.journal.now.entries c.loop-index.index
    (rw c.in-Ok-Ends.field-0-is at c.in-Ok-Ends.ensures.enters) c.loop-index.invariant.made (sym c.in-Some.ensures)

pub loop-index-preserved : goal.loop-index-preserved
loop-index-preserved g c = record {
  keeps = keeps_then c.args.code.now c.args.world.now.post c.loop-index.world.post c.make_entry.new.world.post _ _ _ c.loop-index.invariant.keeps (rw c.in-Ok-Made.field-0-is at c.in-Ok-Made.ensures.enters).0;
  calm = (rw c.in-Ok-Made.field-0-is at c.in-Ok-Made.ensures.calm);
  uncut = (rw c.in-Ok-Made.field-0-is at c.in-Ok-Made.ensures.uncut);
  made = made_next c.args.journal.now.entries c.loop-index.world.post.journal.entries c.make_entry.new.world.post.journal.entries c.loop-index.index c.in-Some.process
      (rw c.in-Ok-Made.field-0-is at c.in-Ok-Made.ensures.enters).1 c.loop-index.invariant.made (sym c.in-Some.ensures);
}
