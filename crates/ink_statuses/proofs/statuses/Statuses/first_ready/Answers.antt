use Rattle.std.proofs.Common.{◌≡◌, ◌+◌, None, Some, ap, sym, ◌∙◌}
use Rattle.std.specs.Option.{option_map}
use Rattle.std.specs.List.{position}
use Rattle.ink_statuses.proofs.Shown.{first_marked}
use Rattle.ink_numbered.specs.Roomy.{Roomy}
use Rattle.ink_statuses.specs.Readings.{is_ready}
use Rattle.ink_worlds.specs.declared.status.Status.{Status}
use Rattle.ink_statuses.proofs.statuses.Statuses.first_ready.Goals as goal

-- src/statuses.rt:235:5
pub returns-in-None : goal.returns-in-None
returns-in-None c =
    let same : c.self.inside.list.items ≡ c.args.self.now.items = ap (λ (r : Roomy Status). r.items) c.self.view_is in
    let found : position is_ready c.self.inside.list.items ≡ None = first_marked is_ready c.self.inside.ready c.self.inside.list.items c.first.result c.self.invariant.2 c.first.ensures ∙ c.in-None.is in
    sym (ap (option_map (λ index. index + 1)) (ap (position is_ready) (sym same) ∙ found))

-- src/statuses.rt:235:5
pub returns-in-Some : goal.returns-in-Some
returns-in-Some c =
    let same : c.self.inside.list.items ≡ c.args.self.now.items = ap (λ (r : Roomy Status). r.items) c.self.view_is in
    let found : position is_ready c.self.inside.list.items ≡ Some c.in-Some.index = first_marked is_ready c.self.inside.ready c.self.inside.list.items c.first.result c.self.invariant.2 c.first.ensures ∙ c.in-Some.is in
    sym (ap (option_map (λ index. index + 1)) (ap (position is_ready) (sym same) ∙ found))
