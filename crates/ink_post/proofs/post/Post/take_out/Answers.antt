use Rattle.std.proofs.Common.{◌≡◌, Some, false, true, refl, sym, ◌∙◌}
use Rattle.ink_base.specs.Numbered.{numbered}
use Rattle.ink_post.specs.Worlds.{world_of}
use Rattle.ink_post.proofs.HomesLemmas.{copied_none, lends_is, none_home, none_up}
use Rattle.ink_post.proofs.post.Post.take_out.Goals as goal

pub returns-clause-lends : goal.returns-clause-lends
returns-clause-lends c output =
    let proc = c.in-Some-Some.proc in
    let there : numbered c.args.self.now.homes.items c.args.process ≡ Some (Some proc) = cc (c.set.ensures.old, c.in-Some-Some.is, c.in-Some-Some.field-0-is) in
    lends_is (world_of c.args.self.now output) c.args.process c.args.seat proc c.args.self.now.homes.items c.set.new.self.items c.set-in-Some-Some.new.self.items refl there c.set.ensures.after c.set-in-Some-Some.ensures.items (sym c.get.ensures ∙ c.is_ready.ensures.0 c.if-not-is_ready.false)

pub returns-then-not-is_ready-clause-none : goal.returns-then-not-is_ready-clause-none
returns-then-not-is_ready-clause-none c = none_up c.args.self.now c.args.process (λ ready. let e : false ≡ true = c.if-not-is_ready.ensures.1 (c.get.ensures ∙ ready) in absurd (cc))

pub returns-then-is_none-clause-none : goal.returns-then-is_none-clause-none
returns-then-is_none-clause-none c = none_home c.args.self.now c.args.process (sym c.proc.ensures ∙ copied_none c.proc.result c.if-is_none.ensures)
