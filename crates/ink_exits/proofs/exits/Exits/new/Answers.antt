use Rattle.ink_exits.proofs.Tables.{new_shows}
use Rattle.ink_forms.specs.Views as view
use Rattle.ink_exits.proofs.exits.Exits.new.Goals as goal

pub returns : goal.returns
returns c = new_shows _ c.in_ok-table.table.items c.len.result (view.count c.args.arena.now) c.new-variables.ensures.items c.in_ok-table.ensures c.len.ensures.count
