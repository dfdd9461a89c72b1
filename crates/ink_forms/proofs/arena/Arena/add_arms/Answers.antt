use Rattle.std.proofs.Common.{is_ok, arith}
use Rattle.ink_forms.specs.Views as view
use Rattle.ink_forms.proofs.Fitting.{fit_more}
use Rattle.ink_forms.proofs.Lists.{arms_kept, trees_kept}
use Rattle.ink_forms.proofs.arena.Arena.add_arms.Goals as goal

pub invariant_of-self-clause-fit : goal.invariant_of-self-clause-fit
invariant_of-self-clause-fit c =
    let old = c.args.self.now in
    fit_more (view.lists_of old) _ old.nodes.items (arms_kept (is_ok c.extend_from_slice.result) old.numbers.items old.arms.items c.args.arms.now c.extend_from_slice.new.self.items old.arguments.items old.fields.items c.extend_from_slice.ensures.items) old.fit

pub returns-clause-keeps : goal.returns-clause-keeps
returns-clause-keeps c =
    let old = c.args.self.now in
    let kept = arms_kept (is_ok c.extend_from_slice.result) old.numbers.items old.arms.items c.args.arms.now c.extend_from_slice.new.self.items old.arguments.items old.fields.items c.extend_from_slice.ensures.items in
    record { grows = omega arith; lists = kept; trees = trees_kept _ _ old.nodes.items (view.count old) kept old.fit }
