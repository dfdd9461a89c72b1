use Rattle.std.proofs.Common.{ap, ◌∙◌}
use Rattle.ink_types.proofs.Tables.{read_item}
use Rattle.ink_types.proofs.types.Types.key.Goals as goal

pub returns-clause-item : goal.returns-clause-item
returns-clause-item c =
    read_item c.self.inside.keys.keys c.args.self.now.items (ap (λ s. s.items) c.self.view_is) c.self.invariant.0 c.args.number c.copied.result
    (c.copied.ensures ∙ c.get_index.ensures.key)
