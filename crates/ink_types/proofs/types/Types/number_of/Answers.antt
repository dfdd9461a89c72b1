use Rattle.std.proofs.Common.{◌++◌, ap, sym, subst, arith}
use Rattle.ink_types.specs.Table.{Keeps, items_of, first_kinds}
use Rattle.ink_types.specs.contracts.term.KeyPartialEq.TheImpl as k
use Rattle.ink_types.proofs.Tables.{found_item, taken_grows, taken_keeps, taken_at, made_table}
use Rattle.ink_types.proofs.Keys.{key_true, key_refl}
use Rattle.ink_types.proofs.types.Types.number_of.Goals as goal

pub returns-in-Some-clause-means : goal.returns-in-Some-clause-means
returns-in-Some-clause-means c =
    found_item c.self.inside.keys.keys c.args.self.now.items (ap (λ s. s.items) c.self.view_is) c.self.invariant.0
    (k.eq-value.it c.args.key) c.args.key c.in-Some.number (key_true c.args.key) (sym c.in-Some.ensures.index)

pub invariant_of-self-2 : goal.invariant_of-self-2
invariant_of-self-2 c = (
  taken_grows c.self.inside.keys.keys c.insert.new.self.keys c.args.self.now.items (k.eq-value.it c.args.key) c.args.key
      (ap (λ s. s.items) c.self.view_is) c.self.invariant.0 (key_refl c.args.key) (sym c.in_default.ensures.found) c.in_ok-insert.ensures.keys
      (omega (arith, c.len-number.ensures.len)) c.requires,
  c.self.invariant.1,
)

pub returns-clause-keeps : goal.returns-clause-keeps
returns-clause-keeps c =
    let kinds = first_kinds ++ c.self.inside.added.items in
    let after = made_table (items_of c.insert.new.self.keys) kinds in
    subst (λ js. Keeps (made_table c.args.self.now.items js) after) (ap (λ s. s.kinds) c.self.view_is)
    (taken_keeps c.self.inside.keys.keys c.insert.new.self.keys c.args.self.now.items (k.eq-value.it c.args.key) c.args.key
    (ap (λ s. s.items) c.self.view_is) c.self.invariant.0 (key_refl c.args.key) (sym c.in_default.ensures.found) c.in_ok-insert.ensures.keys kinds)

pub returns-clause-means : goal.returns-clause-means
returns-clause-means c =
    taken_at c.self.inside.keys.keys c.insert.new.self.keys c.args.self.now.items (k.eq-value.it c.args.key) c.args.key
    (ap (λ s. s.items) c.self.view_is) c.self.invariant.0 (key_refl c.args.key) (sym c.in_default.ensures.found) c.in_ok-insert.ensures.keys
    c.len-number.result c.len-number.ensures.len
