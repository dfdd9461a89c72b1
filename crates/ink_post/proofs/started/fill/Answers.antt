use Rattle.std.proofs.Common.{List, sym, ap, ◌∙◌}
use Rattle.std.specs.FinMap.{insert}
use Rattle.ink_base.specs.Objects.{Objects}
use Rattle.ink_base.specs.declared.value.Value.{Value}
use Rattle.ink_post.specs.Starting.{blank, filled}
use Rattle.ink_post.proofs.Starts as s
use Rattle.ink_post.proofs.started.fill.Goals as goal

pub join-requires : goal.join-requires
join-requires c = s.fresh_apart c.args.heap.now.objects c.args.fields.objects c.args.state (blank c.args.kind) c.requires.alone c.requires.fresh

pub unreachable-requires-in_default-take_out : goal.unreachable-requires-in_default-take_out
unreachable-requires-in_default-take_out c =
    s.state_stays c.join.new.heap.objects c.args.heap.now.objects c.args.fields.objects c.args.state (blank c.args.kind) c.requires.alone c.in-Ok.ensures.objects (sym c.take_out.ensures.object ∙ c.in_default-take_out.is)

pub unreachable-requires-in-Err : goal.unreachable-requires-in-Err
unreachable-requires-in-Err c =
    s.removed_none c.take_out.new.self.objects c.join.new.heap.objects c.args.state c.in-Some.ensures.taken c.in-Err.ensures.there

pub returns : goal.returns
returns c =
    c.in-Ok-put_in.ensures.objects
    ∙ ap (λ (vs : List Value). insert c.take_out.new.self.objects c.args.state (filled c.args.kind vs)) c.in-Ok.ensures.values
    ∙ ap (λ (os : Objects). insert os c.args.state (filled c.args.kind c.args.fields.values)) c.in-Some.ensures.taken
    ∙ s.filled_whole c.join.new.heap.objects c.args.heap.now.objects c.args.fields.objects c.args.state (blank c.args.kind) (filled c.args.kind c.args.fields.values) c.requires.alone c.in-Ok.ensures.objects
