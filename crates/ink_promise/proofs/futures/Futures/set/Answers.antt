use Rattle.std.proofs.Common.{sym, ◌∙◌}
use Rattle.ink_promise.proofs.Unchanged.{set_stays}
use Rattle.ink_promise.proofs.futures.Futures.set.Goals as goal

pub returns-then-not-is_open-clause-after : goal.returns-then-not-is_open-clause-after
returns-then-not-is_open-clause-after c =
    sym (set_stays c.args.self.now.items c.args.future c.args.value (sym c.is_open.ensures ∙ c.if-not-is_open.true))
