use Rattle.std.proofs.Common.{◌<◌, ◌∙◌, ap, length, arith, sym}
use Rattle.std.specs.List.{slice_get}
use Rattle.ink_quick.proofs.RowLemmas.{row_made}
use Rattle.ink_quick.proofs.moves.put_row.Goals as goal

pub returns : goal.returns
returns c =
    let there : c.args.to < length c.args.registers.now = omega arith in
    rw c.put_result.ensures (row_made c.args.registers.now c.args.row c.args.to c.args.one c.args.other c.in-Some.first.now c.in-Some-get.second.now c.in-Some-row_of.value
    (λ same. c.if-one-other.false (sym same)) there
    (ap (slice_get c.args.registers.now) (sym c.from-2.ensures) ∙ sym c.in-Some.ensures)
    (ap (slice_get c.args.registers.now) (sym c.from-3.ensures) ∙ sym c.in-Some-get.ensures) c.in-Some-row_of.ensures)
