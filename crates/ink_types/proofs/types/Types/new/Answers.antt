use Rattle.std.proofs.Common.{[], ◌++◌, length, ap, ◌∙◌, arith}
use Rattle.std.proofs.lemmas.List.{append-nil}
use Rattle.ink_types.specs.Table.{first_kinds, items_of}
use Rattle.ink_types.proofs.Tables.{empty_table, no_items, none_left, table_is}
use Rattle.ink_types.proofs.types.Types.new.Goals as goal

pub invariant_of-result : goal.invariant_of-result
invariant_of-result c = (empty_table c.new.result.keys (none_left c.new.result.keys c.new.ensures.len), omega (arith, ap length c.new-2.ensures.items))

pub returns : goal.returns
returns c =
    table_is (items_of c.new.result.keys) [] (first_kinds ++ c.new-2.result.items) first_kinds
    (ap items_of (none_left c.new.result.keys c.new.ensures.len) ∙ no_items) (ap (λ xs. first_kinds ++ xs) c.new-2.ensures.items ∙ append-nil first_kinds)
