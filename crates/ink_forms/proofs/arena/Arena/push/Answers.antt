use Rattle.std.proofs.Common.{is_ok, ap, ◌∙◌}
use Rattle.ink_forms.specs.Built.{items}
use Rattle.ink_forms.specs.Views as view
use Rattle.ink_forms.proofs.Grown.{node_fits, items_push, same_lists}
use Rattle.ink_forms.proofs.Lists.{trees_pushed, nodes_more}
use Rattle.ink_forms.proofs.arena.Arena.push.Goals as goal

pub invariant_of-self-clause-fit : goal.invariant_of-self-clause-fit
invariant_of-self-clause-fit c = node_fits (is_ok c.push.result) (view.lists_of c.args.self.now) c.args.self.now.nodes.items c.push.new.self.items _ c.push.ensures.items c.requires c.args.self.now.fit

pub returns-clause-items : goal.returns-clause-items
returns-clause-items c =
    ap (items (view.lists_of c.args.self.now)) c.in_ok-push.ensures.items ∙ items_push (view.lists_of c.args.self.now) c.args.self.now.nodes.items _

pub returns-clause-keeps : goal.returns-clause-keeps
returns-clause-keeps c =
    let old = c.args.self.now in
    record {
      grows = nodes_more (is_ok c.push.result) old.nodes.items c.push.new.self.items _ c.push.ensures.items;
      lists = same_lists (view.lists_of old);
      trees = trees_pushed (is_ok c.push.result) (view.lists_of old) old.nodes.items c.push.new.self.items _ c.push.ensures.items;
    }
