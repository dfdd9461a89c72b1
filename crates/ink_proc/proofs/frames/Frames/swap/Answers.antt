use Rattle.std.proofs.Common.{◌≡◌, ◌+◌, ◌-◌, length, refl, arith}
use Rattle.ink_proc.proofs.FrontLemmas.{register_past, register_there}
use Rattle.ink_proc.proofs.frames.Frames.swap.Goals as goal

pub returns-then-from-registers-clause-done : goal.returns-then-from-registers-clause-done
returns-then-from-registers-clause-done c =
    let end : (c.len-count.result - 1) + 1 ≡ length c.self.inside.items.items = omega (arith, c.self.inside.items.ok.0) in
    let past = register_past _ _ c.self.view_is _ c.args.one _ end c.index.ensures (omega arith) in
    rw past refl

pub returns-then-from-registers-2-clause-done : goal.returns-then-from-registers-2-clause-done
returns-then-from-registers-2-clause-done c =
    let end : (c.len-count.result - 1) + 1 ≡ length c.self.inside.items.items = omega (arith, c.self.inside.items.ok.0) in
    let there = register_there _ _ c.self.view_is _ c.args.one _ end c.index.ensures (omega arith) in
    let past = register_past _ _ c.self.view_is _ c.args.other _ end c.index.ensures (omega arith) in
    rw (there, past) refl

pub returns-clause-done : goal.returns-clause-done
returns-clause-done c =
    let end : (c.len-count.result - 1) + 1 ≡ length c.self.inside.items.items = omega (arith, c.self.inside.items.ok.0) in
    let one = register_there _ _ c.self.view_is _ c.args.one _ end c.index.ensures (omega arith) in
    let other = register_there _ _ c.self.view_is _ c.args.other _ end c.index.ensures (omega arith) in
    rw (one, other) refl
