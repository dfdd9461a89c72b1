use Rattle.std.proofs.Common.{refl}
use Rattle.ink_base.specs.Actions as action
use Rattle.ink_base.specs.Actions.{SharedState}
use Rattle.ink_code.specs.Process.{Process}
use Rattle.ink_code.specs.Replies.{Done, answered}
use Rattle.ink_code.specs.Runs.{where_right}
use Rattle.ink_code.specs.Trees.{Parcel}
use Rattle.ink_post.specs.Worlds.{CodeState, world_of}
use Rattle.ink_post.proofs.MakingLemmas.{after_set, finish_moved, shares_is, wronged}
use Rattle.ink_proc.specs.State.{state_of}
use Rattle.ink_post.proofs.post.Post.make_set.Goals as goal

pub returns-then-not-finish-clause-makes : goal.returns-then-not-finish-clause-makes
returns-then-not-finish-clause-makes c output =
    let p : Process = state_of c.args.proc in
    let old : CodeState = world_of c.args.self.now output in
    wronged c.args.code.now c.args.self.now.limits c.args.process p old (record old { shared = record old.shared { futures = c.set.new.self.items } }) (record { homes = refl; statuses = refl; journal = refl; text = refl; halt = refl; output = refl })
    (action.SetFuture c.args.future c.args.value) (where_right (answered c.args.code.now Done p)) (world_of c.finish.new.self output) c.finish.result c.if-not-finish.true (c.finish.ensures.finishes output)
    (after_set c.args.code.now c.args.process old.shared p c.args.future c.args.value)

pub returns-clause-makes : goal.returns-clause-makes
returns-clause-makes c output =
    let p : Process = state_of c.args.proc in
    let old : CodeState = world_of c.args.self.now output in
    let moved = finish_moved c.args.code.now c.args.self.now.limits c.args.process p old (record old { shared = record old.shared { futures = c.set.new.self.items } }) (record { homes = refl; statuses = refl; journal = refl; text = refl; halt = refl; output = refl })
    (action.SetFuture c.args.future c.args.value) (where_right (answered c.args.code.now Done p)) (world_of c.finish.new.self output) (record (world_of c.finish.new.self output) { statuses = c.wake_held.new.self.items })
    (λ (s : SharedState Parcel). s)
    c.finish.result c.requires.goes.halt c.requires.goes.text c.if-not-finish.false (c.finish.ensures.finishes output)
    (after_set c.args.code.now c.args.process old.shared p c.args.future c.args.value)
    refl refl refl
    (shares_is _ _ _ _ output refl c.set.ensures.after)
    refl c.wake_held.ensures.items refl refl refl refl in
    (moved.0, moved.1, refl, moved.2)
