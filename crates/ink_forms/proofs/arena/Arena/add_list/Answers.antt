use Rattle.std.proofs.Common.{is_ok, arith}
use Rattle.ink_forms.specs.Views as view
use Rattle.ink_forms.proofs.Fitting.{fit_more}
use Rattle.ink_forms.proofs.Lists.{numbers_kept, trees_kept}
use Rattle.ink_forms.proofs.arena.Arena.add_list.Goals as goal

pub invariant_of-self-clause-fit : goal.invariant_of-self-clause-fit
invariant_of-self-clause-fit c =
    let old = c.args.self.now in
    fit_more (view.lists_of old) _ old.nodes.items (numbers_kept (is_ok c.extend_from_slice.result) old.numbers.items c.args.numbers.now c.extend_from_slice.new.self.items old.arms.items old.arguments.items old.fields.items c.extend_from_slice.ensures.items) old.fit

pub returns-clause-keeps : goal.returns-clause-keeps
returns-clause-keeps c =
    let old = c.args.self.now in
    let kept = numbers_kept (is_ok c.extend_from_slice.result) old.numbers.items c.args.numbers.now c.extend_from_slice.new.self.items old.arms.items old.arguments.items old.fields.items c.extend_from_slice.ensures.items in
    record { grows = omega arith; lists = kept; trees = trees_kept _ _ old.nodes.items (view.count old) kept old.fit }
