use Rattle.std.proofs.Common.{◌≡◌, Bool, true, ap, sym, ◌∙◌}
use Rattle.ink_types.specs.TypeTerms.{same_type}
use Rattle.ink_types.specs.Table.{type_at}
use Rattle.ink_types.proofs.Same.{same_refl, same_tells, apart_by_number, one_number}
use Rattle.ink_types.proofs.types.Types.same.Goals as goal

-- one number is of one type
one_type : (c : goal.Then-t-u) → true ≡ same_type (type_at c.args.self.now c.args.t) (type_at c.args.self.now c.args.u)
one_type c =
    let s = c.args.self.now in
    sym (ap (λ n. same_type (type_at s c.args.t) (type_at s n)) (sym c.if-t-u.true) ∙ same_refl (type_at s c.args.t))

pub returns-then-t-u-clause-means : goal.returns-then-t-u-clause-means
returns-then-t-u-clause-means c = one_type c

pub returns-then-t-u-clause-tells : goal.returns-then-t-u-clause-tells
returns-then-t-u-clause-tells c = same_tells true (type_at c.args.self.now c.args.t) (type_at c.args.self.now c.args.u) (one_type c)

pub returns-clause-means : goal.returns-clause-means
returns-clause-means c =
    c.are_never.ensures
    ∙ apart_by_number c.self.inside.keys.keys c.args.self.now.items c.args.t c.args.u (ap (λ s. s.items) c.self.view_is) c.self.invariant.0 c.if-t-u.false

pub returns-clause-tells : goal.returns-clause-tells
returns-clause-tells c =
    same_tells c.are_never.result (type_at c.args.self.now c.args.t) (type_at c.args.self.now c.args.u)
    (c.are_never.ensures
    ∙ apart_by_number c.self.inside.keys.keys c.args.self.now.items c.args.t c.args.u (ap (λ s. s.items) c.self.view_is) c.self.invariant.0 c.if-t-u.false)

pub returns-clause-one_number : goal.returns-clause-one_number
returns-clause-one_number c =
    one_number c.self.inside.keys.keys c.args.self.now.items c.args.t c.args.u (ap (λ s. s.items) c.self.view_is) c.self.invariant.0
