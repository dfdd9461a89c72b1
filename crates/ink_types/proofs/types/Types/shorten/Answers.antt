use Rattle.std.proofs.Common.{◌++◌, take, ap, ◌∙◌, sym, subst}
use Rattle.ink_types.specs.Table.{IsTable, items_of, first_kinds}
use Rattle.ink_types.proofs.Tables.{taken_table, items_take, table_is}
use Rattle.ink_types.proofs.types.Types.shorten.Goals as goal

pub invariant_of-self : goal.invariant_of-self
invariant_of-self c =
    (subst IsTable (sym c.truncate.ensures.keys) (taken_table c.self.inside.keys.keys c.args.count c.self.invariant.0), c.self.invariant.1)

pub returns : goal.returns
returns c =
    table_is (items_of c.truncate.new.self.keys) (take c.args.count c.args.self.now.items) (first_kinds ++ c.self.inside.added.items) c.args.self.now.kinds
    (ap items_of c.truncate.ensures.keys ∙ items_take c.self.inside.keys.keys c.args.count ∙ ap (λ s. take c.args.count s.items) c.self.view_is)
    (ap (λ s. s.kinds) c.self.view_is)
