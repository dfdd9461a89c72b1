use Rattle.std.proofs.Common.{◌≡◌, ◌+◌, ◌-◌, length, sym, arith}
use Rattle.ink_proc.proofs.FrontLemmas.{register_past}
use Rattle.ink_proc.proofs.frames.Frames.set.Goals as goal

pub returns-then-from-len-clause-had : goal.returns-then-from-len-clause-had
returns-then-from-len-clause-had c =
    let end : (c.len-count.result - 1) + 1 ≡ length c.self.inside.items.items = omega (arith, c.self.inside.items.ok.0) in
    sym (register_past _ _ c.self.view_is _ c.args.number _ end c.index.ensures (omega arith))
