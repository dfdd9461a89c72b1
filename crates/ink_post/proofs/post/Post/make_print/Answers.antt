use Rattle.std.proofs.Common.{ℕ, List, [], ◌∷◌, ◌++◌, refl}
use Rattle.ink_base.specs.Actions as action
use Rattle.ink_base.specs.Actions.{SharedState}
use Rattle.ink_code.specs.Process.{Process}
use Rattle.ink_code.specs.Replies.{Done, answered}
use Rattle.ink_code.specs.Runs.{where_right}
use Rattle.ink_code.specs.Trees.{Parcel}
use Rattle.ink_post.specs.Worlds.{CodeState, world_of}
use Rattle.ink_post.proofs.MakingLemmas.{after_print, beside_itself, finish_moved, wronged}
use Rattle.ink_proc.specs.State.{state_of}
use Rattle.ink_post.proofs.post.Post.make_print.Goals as goal

pub returns-then-not-finish-clause-makes : goal.returns-then-not-finish-clause-makes
returns-then-not-finish-clause-makes c output =
    let p : Process = state_of c.args.proc in
    let old : CodeState = world_of c.args.self.now output in
    wronged c.args.code.now c.args.self.now.limits c.args.process p old old (beside_itself old)
    (action.Print c.args.text) (where_right (answered c.args.code.now Done p)) (world_of c.finish.new.self output) c.finish.result c.if-not-finish.true (c.finish.ensures.finishes output)
    (after_print c.args.code.now c.args.process old.shared p c.args.text)

pub returns-clause-makes : goal.returns-clause-makes
returns-clause-makes c output =
    let p : Process = state_of c.args.proc in
    let old : CodeState = world_of c.args.self.now output in
    let line : List ℕ = c.args.text ++ 10 ∷ [] in
    let moved = finish_moved c.args.code.now c.args.self.now.limits c.args.process p old old (beside_itself old)
    (action.Print c.args.text) (where_right (answered c.args.code.now Done p)) (world_of c.finish.new.self output) (world_of c.finish.new.self (output ++ c.args.text ++ 10 ∷ []))
    (λ (s : SharedState Parcel). record s { output = s.output ++ c.args.text ++ 10 ∷ [] })
    c.finish.result c.requires.goes.halt c.requires.goes.text c.if-not-finish.false (c.finish.ensures.finishes output)
    (after_print c.args.code.now c.args.process old.shared p c.args.text)
    refl refl refl refl refl refl refl refl refl refl in
    (moved.0, moved.1, refl, moved.2)
