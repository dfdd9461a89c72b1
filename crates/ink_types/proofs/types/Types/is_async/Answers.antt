use Rattle.std.proofs.Common.{◌≡◌, ◌-◌, Bool, Option, Some, None, arith, false, ap, sym, ◌∙◌}
use Rattle.std.specs.Prelude.{slice_get, unwrap_or}
use Rattle.std.proofs.lemmas.Grind.{common_steps}
use Rattle.std.proofs.lemmas.Option.{gets}
use Rattle.ink_types.proofs.Tables.{async_first, async_added}
use Rattle.ink_types.proofs.types.Types.is_async.Goals as goal

pub returns-then-kind-lt-FIRST_ADDED : goal.returns-then-kind-lt-FIRST_ADDED
returns-then-kind-lt-FIRST_ADDED c =
    ap (λ o. unwrap_or o false) (sym (async_first c.self.inside.added.items c.args.kind c.if-kind-lt-FIRST_ADDED.true)
    ∙ ap (λ s. slice_get s.kinds c.args.kind) c.self.view_is)

pub returns-in-Some : goal.returns-in-Some
returns-in-Some c =
    let added = c.self.inside.added.items in
    let found : Some c.in-Some.is_async.now ≡ slice_get added (c.args.kind - 13) = grind (arith, common_steps, gets, c.in-Some.ensures.lookup, c.deref.ensures.value) in
    async_added added c.args.self.now.kinds c.args.kind (Some c.in-Some.is_async.now) (ap (λ s. s.kinds) c.self.view_is) c.if-kind-lt-FIRST_ADDED.false found

pub returns-in-None : goal.returns-in-None
returns-in-None c =
    let added = c.self.inside.added.items in
    let found : ◌≡◌ {A = Option Bool} None (slice_get added (c.args.kind - 13)) = grind (arith, common_steps, gets, c.in-None.ensures.lookup, c.deref.ensures.value) in
    async_added added c.args.self.now.kinds c.args.kind None (ap (λ s. s.kinds) c.self.view_is) c.if-kind-lt-FIRST_ADDED.false found
