use Rattle.std.proofs.Common.{◌≡◌, ℕ, ◌+◌, ◌<◌, [], ◌∷◌, ◌++◌, Some, length, refl, ap, sym, ◌∙◌, arith}
use Rattle.ink_base.specs.Actions as action
use Rattle.ink_base.specs.Actions.{SharedState, reached}
use Rattle.ink_base.specs.Messages.{empty_mailbox}
use Rattle.ink_base.specs.declared.limits.Limit.TheVariants as limit
use Rattle.ink_code.specs.Process.{Process}
use Rattle.ink_code.specs.Replies.{Started, answered}
use Rattle.ink_code.specs.Runs.{begun, where_right}
use Rattle.ink_code.specs.Trees.{Parcel}
use Rattle.ink_post.specs.Worlds.{CodeState, world_of}
use Rattle.ink_post.proofs.HomesLemmas.{homes_length, mail_count}
use Rattle.ink_post.proofs.MakingLemmas.{after_spawn, beside_room, finish_count, finish_moved, shares_is, wronged}
use Rattle.ink_post.proofs.post.Post.make_spawn.Goals as goal
use Rattle.ink_proc.specs.State.{state_of}

pub next_number-number-requires : goal.next_number-number-requires
next_number-number-requires c =
    ap (λ (n : ℕ). reached limit.Processes n c.args.self.now.limits) (sym (mail_count c.args.self.now)) ∙ c.requires.whole []

pub returns-then-not-finish-clause-makes : goal.returns-then-not-finish-clause-makes
returns-then-not-finish-clause-makes c output =
    let p : Process = state_of c.args.proc in
    let old : CodeState = world_of c.args.self.now output in
    wronged c.args.code.now c.args.self.now.limits c.args.process p old (world_of c.reserve_process.new.self output) (beside_room c.args.self.now c.reserve_process.new.self output c.reserve_process.ensures.rest)
    (action.Spawn c.args.kind c.args.fields) (where_right (answered c.args.code.now (Started c.next_number-number.result) p)) (world_of c.finish.new.self output) c.finish.result c.if-not-finish.true (c.finish.ensures.finishes output)
    (after_spawn c.args.code.now c.args.process old.shared p c.args.kind c.args.fields c.next_number-number.result (c.next_number-number.ensures ∙ ap (λ (n : ℕ). n + 1) (sym (mail_count c.args.self.now))))

pub add_process-requires-clause-number : goal.add_process-requires-clause-number
add_process-requires-clause-number c =
    let same : length c.finish.new.self.homes.items ≡ length c.args.self.now.homes.items =
    finish_count c.args.process c.reserve_process.new.self c.finish.new.self _ c.finish.result (c.finish.ensures.finishes [])
    ∙ ap length c.reserve_process.ensures.rest.homes in
    let fits : c.next_number-number.result < 4294967296 = c.next_number-number.type_inv in
    grind (arith, same, fits, c.next_number-number.ensures)

pub returns-clause-makes : goal.returns-clause-makes
returns-clause-makes c output =
    let p : Process = state_of c.args.proc in
    let old : CodeState = world_of c.args.self.now output in
    let fin : CodeState = world_of c.finish.new.self output in
    let share : SharedState Parcel → SharedState Parcel = λ s. record s { mail = s.mail ++ empty_mailbox ∷ [] } in
    let count : length c.finish.new.self.homes.items ≡ length c.args.self.now.homes.items =
    finish_count c.args.process c.reserve_process.new.self c.finish.new.self _ c.finish.result (c.finish.ensures.finishes [])
    ∙ ap length c.reserve_process.ensures.rest.homes in
    let next : c.next_number-number.result ≡ length fin.homes + 1 = c.next_number-number.ensures ∙ ap (λ (n : ℕ). n + 1) (sym (homes_length c.finish.new.self.homes.items ∙ count)) in
    let moved = finish_moved c.args.code.now c.args.self.now.limits c.args.process p old (world_of c.reserve_process.new.self output) (beside_room c.args.self.now c.reserve_process.new.self output c.reserve_process.ensures.rest)
    (action.Spawn c.args.kind c.args.fields) (where_right (answered c.args.code.now (Started c.next_number-number.result) p)) fin (world_of c.add_process.new.self output)
    share
    c.finish.result c.requires.goes.halt c.requires.goes.text c.if-not-finish.false (c.finish.ensures.finishes output)
    (after_spawn c.args.code.now c.args.process old.shared p c.args.kind c.args.fields c.next_number-number.result (c.next_number-number.ensures ∙ ap (λ (n : ℕ). n + 1) (sym (mail_count c.args.self.now))))
    refl refl refl
    (ap (λ (s : CodeState). share s.shared) (c.reserve_process.ensures.same output))
    (c.add_process.ensures.homes ∙ ap (λ (q : Process). fin.homes ++ Some q ∷ []) (c.in-Ok.ensures.starts ∙ ap (λ (n : ℕ). begun n c.args.kind c.args.fields) next))
    c.add_process.ensures.statuses
    (shares_is _ _ _ _ output c.add_process.ensures.mail (ap (λ f. f.items) c.add_process.ensures.futures))
    (ap (λ j. j.entries) c.add_process.ensures.journal) c.add_process.ensures.text c.add_process.ensures.halt in
    (moved.0, moved.1, refl, moved.2)
