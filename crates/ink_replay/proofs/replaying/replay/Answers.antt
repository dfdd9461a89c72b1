use Rattle.std.proofs.Common.{◌≡◌, List, ℕ, [], ap, refl, sym, subst, ◌∙◌}
use Rattle.ink_replay.proofs.EndLemmas.{whole_as}
use Rattle.ink_replay.proofs.RestLemmas.{nothing_whole, until_limits, until_wrote}
use Rattle.ink_replay.proofs.replaying.replay.Goals as goal
use Rattle.ink_replay.specs.Stops.{WroteBy}
use Rattle.ink_run.specs.Sinks.{sink_of}
use Rattle.ink_run.specs.declared.applied.BeginFault.TheVariants as begin

pub returns-in-Err-clause-whole : goal.returns-in-Err-clause-whole
returns-in-Err-clause-whole g c =
    let both : begin.OutOfMemory c.sink_back.result ≡ begin.OutOfMemory c.args.sink = sym c.sink_back.ensures ∙ c.in-Err.ensures.back in
    let same : c.sink_back.result ≡ c.args.sink = cc in
    whole_as c.args.code.now c.args.limits c.args.limits [] c.new.result.entries _ _ _ refl c.new.ensures (ap (sink_of g.K.Sink.contents g.K.Sink.faults) same)
    (nothing_whole c.args.code.now c.args.limits (sink_of g.K.Sink.contents g.K.Sink.faults c.args.sink))

pub returns-in-Ok-stop_of-clause-wrote : goal.returns-in-Ok-stop_of-clause-wrote
returns-in-Ok-stop_of-clause-wrote g c =
    subst (λ (l : List ℕ). WroteBy c.args.code.now l c.stop_of.new.world.post.journal.entries c.in-Ok-stop_of.stop (sink_of g.K.Sink.contents g.K.Sink.faults c.args.sink) (sink_of g.K.Sink.contents g.K.Sink.faults c.stop_of.new.world.sink))
    (until_limits c.args.code.now c.in-Ok.world.post c.stop_of.new.world.post _ _ c.in-Ok-stop_of.stop c.in-Ok-stop_of.ensures.keeps ∙ c.in-Ok.ensures.limits)
    (until_wrote c.args.code.now c.in-Ok.world.post c.stop_of.new.world.post _ _ c.in-Ok-stop_of.stop _ c.in-Ok.ensures.written c.in-Ok-stop_of.ensures.keeps c.in-Ok-stop_of.ensures.at c.in-Ok-stop_of.ensures.uncut)
