use Rattle.std.proofs.Common.{[], ap, inl, refl}
use Rattle.ink_leased.proofs.Lent.{abandoned_home}
use Rattle.ink_leased.proofs.Working.{abandoned, apart_from, came_home, comes_home, goes, loses, stands_in}
use Rattle.ink_leased.proofs.lending.LeasedWorkable.check_in.Goals as goal
use Rattle.ink_post.specs.Worlds.{CodeState}
use Rattle.ink_run.specs.Sinks.{sink_of}

pub bring_home-home-requires-clause-goes : goal.bring_home-home-requires-clause-goes
bring_home-home-requires-clause-goes g c = let asked = c.requires.run in (goes (sink_of g.K.Sink.contents g.K.Sink.faults) c.args.self.now asked.0 asked.2 c.if-self.false).0

pub bring_home-home-requires-clause-right : goal.bring_home-home-requires-clause-right
bring_home-home-requires-clause-right g c = let asked = c.requires.run in (goes (sink_of g.K.Sink.contents g.K.Sink.faults) c.args.self.now asked.0 asked.2 c.if-self.false).1

pub bring_home-home-requires-clause-stands : goal.bring_home-home-requires-clause-stands
bring_home-home-requires-clause-stands g c = let asked = c.requires.run in stands_in (sink_of g.K.Sink.contents g.K.Sink.faults) c.args.self.now asked.0 c.args.code.now asked.1 asked.2 asked.3 c.if-self.false

pub bring_home-home-requires-clause-comes : goal.bring_home-home-requires-clause-comes
bring_home-home-requires-clause-comes g c = let asked = c.requires.run in
    comes_home (sink_of g.K.Sink.contents g.K.Sink.faults) c.args.self.now asked.0 c.args.code.now asked.1 c.args.process c.args.seat c.args.work asked.2 asked.3 c.requires.leased asked.4

pub returns-then-self-clause-journal : goal.returns-then-self-clause-journal
returns-then-self-clause-journal g c = inl (ap (λ (s : CodeState). s.journal) (c.abandon.ensures.after []))

pub returns-then-self-clause-stands : goal.returns-then-self-clause-stands
returns-then-self-clause-stands g c = λ began limits is fits run.
    abandoned (sink_of g.K.Sink.contents g.K.Sink.faults) c.args.self.now began c.args.process c.args.seat _ refl refl c.abandon.ensures.limits c.abandon.ensures.wrong
    (ap (sink_of g.K.Sink.contents g.K.Sink.faults) c.abandon.ensures.sink) c.requires.leased c.abandon.ensures.after is

pub returns-then-self-clause-others : goal.returns-then-self-clause-others
returns-then-self-clause-others g c =
    apart_from c.args.process c.args.seat c.args.self.now.world.post.statuses.items c.abandon.new.self.post.statuses.items c.requires.leased
    (abandoned_home c.args.process c.args.self.now.world.post c.abandon.new.self.post c.abandon.ensures.after)

pub returns-then-self-clause-lease : goal.returns-then-self-clause-lease
returns-then-self-clause-lease g c =
    loses c.args.process c.args.seat c.args.self.now.world.post.statuses.items c.abandon.new.self.post.statuses.items c.requires.leased
    (abandoned_home c.args.process c.args.self.now.world.post c.abandon.new.self.post c.abandon.ensures.after)

pub returns-clause-journal : goal.returns-clause-journal
returns-clause-journal g c = c.bring_home-home.ensures.journal

pub returns-clause-stands : goal.returns-clause-stands
returns-clause-stands g c = λ began limits is fits run.
    came_home (sink_of g.K.Sink.contents g.K.Sink.faults) c.args.self.now began c.args.code.now limits c.args.process _ refl fits c.if-self.false c.bring_home-home.ensures is

pub returns-clause-others : goal.returns-clause-others
returns-clause-others g c = apart_from c.args.process c.args.seat c.args.self.now.world.post.statuses.items c.bring_home-home.new.world.post.statuses.items c.requires.leased c.bring_home-home.ensures.home

pub returns-clause-lease : goal.returns-clause-lease
returns-clause-lease g c = loses c.args.process c.args.seat c.args.self.now.world.post.statuses.items c.bring_home-home.new.world.post.statuses.items c.requires.leased c.bring_home-home.ensures.home
