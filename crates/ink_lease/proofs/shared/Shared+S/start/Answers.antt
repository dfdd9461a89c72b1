use Rattle.std.proofs.Common.{List, Option, Some, ◌∷◌, [], ◌++◌, ap, ◌∙◌}
use Rattle.ink_lease.proofs.Ends.{starts_at}
use Rattle.ink_lease.proofs.shared.Shared+S.start.Goals as goal

pub new-requires : goal.new-requires
new-requires g c = starts_at g.S.Leasable.lease g.S.Leasable.journal g.S.Leasable.stands_for g.S.Leasable.fixed c.args.state c.of.result.value c.push_reserved.new.self.items c.args.seats
    (c.push_reserved.ensures.items ∙ ap (λ (l : List (Option g.row.S.Denot)). l ++ Some c.args.state ∷ []) c.in-Ok.ensures.items) c.of.ensures c.requires.seats c.requires.stands c.requires.no_lease
