use Rattle.std.proofs.Common.{[], refl, ap}
use Rattle.ink_base.specs.Actions as action
use Rattle.ink_base.specs.Actions.{SharedState}
use Rattle.ink_code.specs.Process.{Process}
use Rattle.ink_code.specs.Replies.{NewPair, answered}
use Rattle.ink_code.specs.Runs.{where_right}
use Rattle.ink_code.specs.Trees.{Parcel}
use Rattle.ink_mail.specs.Boxes.{mail_of}
use Rattle.ink_post.specs.Worlds.{CodeState, world_of}
use Rattle.ink_post.proofs.MakingLemmas.{after_future, beside_shared, finish_moved, shares_is, wronged}
use Rattle.ink_proc.specs.State.{state_of}
use Rattle.ink_post.proofs.post.Post.make_future.Goals as goal

pub new_future-requires : goal.new_future-requires
new_future-requires c = c.requires.whole []

pub returns-then-not-finish-clause-makes : goal.returns-then-not-finish-clause-makes
returns-then-not-finish-clause-makes c output =
    let p : Process = state_of c.args.proc in
    let old : CodeState = world_of c.args.self.now output in
    wronged c.args.code.now c.args.self.now.limits c.args.process p old (world_of c.new_future.new.self output) (beside_shared c.args.self.now c.new_future.new.self output c.new_future.ensures.rest)
    action.NewFuture (where_right (answered c.args.code.now (NewPair c.in-Ok.number) p)) (world_of c.finish.new.self output) c.finish.result c.if-not-finish.true (c.finish.ensures.finishes output)
    (after_future c.args.code.now c.args.process old.shared p c.in-Ok.number c.in-Ok.ensures.number)

pub returns-clause-makes : goal.returns-clause-makes
returns-clause-makes c output =
    let p : Process = state_of c.args.proc in
    let old : CodeState = world_of c.args.self.now output in
    let moved = finish_moved c.args.code.now c.args.self.now.limits c.args.process p old (world_of c.new_future.new.self output) (beside_shared c.args.self.now c.new_future.new.self output c.new_future.ensures.rest)
    action.NewFuture (where_right (answered c.args.code.now (NewPair c.in-Ok.number) p)) (world_of c.finish.new.self output) (world_of c.finish.new.self output)
    (λ (s : SharedState Parcel). s)
    c.finish.result c.requires.goes.halt c.requires.goes.text c.if-not-finish.false (c.finish.ensures.finishes output)
    (after_future c.args.code.now c.args.process old.shared p c.in-Ok.number c.in-Ok.ensures.number)
    refl refl refl
    (shares_is _ _ _ _ output (ap mail_of c.new_future.ensures.mail) c.in-Ok.ensures.made)
    refl refl refl refl refl refl in
    (moved.0, moved.1, refl, moved.2)
