use Rattle.std.proofs.Common.{ℕ, ◌+◌, ◌<◌, Ok, List, length, drop, get_or, set, sym, ap, ◌∙◌, arith, append-nil}
use Rattle.std.proofs.lemmas.List.{at_drop_all}
use Rattle.ink_base.specs.declared.value.Value.{Value}
use Rattle.ink_base.specs.declared.value.Value.TheVariants.{Empty}
use Rattle.ink_code.specs.Process.{moved}
use Rattle.ink_proc.proofs.MovingLemmas.{behind, moved_stops, moved_more}
use Rattle.ink_proc.proofs.moving.move_out.Goals as goal

pub loop-number-preserved : goal.loop-number-preserved
loop-number-preserved c =
    let low : c.loop-number.number-index < length c.args.numbers.now = omega arith in
    record {
      so_far =
          c.loop-number.invariant.so_far
          ∙ moved_more _ _ _ _ _ low (sym c.in-Ok.ensures.value)
          ∙ ap (λ (values : List Value). behind values (moved (drop (c.loop-number.number-index + 1) c.args.numbers.now) (set c.loop-number.registers (get_or c.args.numbers.now c.loop-number.number-index 0) Empty))) (sym c.push_reserved.ensures.items)
          ∙ ap (λ (registers : List Value). behind c.push_reserved.new.self.items (moved (drop (c.loop-number.number-index + 1) c.args.numbers.now) registers)) (sym c.in-Ok.ensures.ok);
      count = omega (arith, c.push_reserved.ensures.len, c.loop-number.invariant.count);
      room = omega (arith, c.push_reserved.ensures.capacity, c.loop-number.invariant.room);
      kept = omega (arith, c.push_reserved.ensures.capacity, c.loop-number.invariant.kept);
    }

pub returns-in-Err-clause-moved : goal.returns-in-Err-clause-moved
returns-in-Err-clause-moved c =
    let low : c.loop-number.number-index < length c.args.numbers.now = omega arith in
    c.loop-number.invariant.so_far ∙ moved_stops _ _ _ _ _ low (sym c.in-Err.ensures.value)

pub returns-clause-moved : goal.returns-clause-moved
returns-clause-moved c =
    c.loop-number.invariant.so_far
    ∙ at_drop_all (λ (rest : List ℕ). behind c.loop-number.room.items (moved rest c.loop-number.registers)) c.args.numbers.now c.loop-number.number-index c.loop-number-test.false
    ∙ ap (λ (values : List Value). Ok (values, c.loop-number.registers)) (append-nil c.loop-number.room.items)
