use Rattle.std.proofs.Common.{◌≡◌, ◌<◌, ℕ, List, [], ◌∷◌, sym, ap, ◌∙◌, get_or, set, take, length, arith, length-append}
use Rattle.ink_base.specs.declared.value.Value.{Value}
use Rattle.ink_proc.proofs.MovingLemmas.{restored, moved_undone, restored_more}
use Rattle.ink_proc.proofs.moving.move_back.Goals as goal

pub loop-value-preserved : goal.loop-value-preserved
loop-value-preserved c =
    let longer = ap length c.in-Some.ensures ∙ length-append c.pop.new.self (c.in-Some.value ∷ []) in
    let low : c.len.result < length c.args.numbers.now = omega (arith, c.len.ensures, longer, c.loop-value.invariant.count) in
    record {
      so_far =
          ap (λ (registers : List Value). restored (take (length c.pop.new.self) c.args.numbers.now) c.pop.new.self registers) c.set_if_there.ensures
          ∙ ap (λ (most : ℕ). restored (take most c.args.numbers.now) c.pop.new.self (set c.loop-value.registers (get_or c.args.numbers.now c.len.result 0) c.in-Some.value)) (sym c.len.ensures)
          ∙ sym (restored_more c.args.numbers.now c.pop.new.self c.loop-value.values c.loop-value.registers c.len.result c.in-Some.value c.in-Some.ensures c.len.ensures low)
          ∙ c.loop-value.invariant.so_far;
      count = omega (arith, low, c.len.ensures);
    }

pub returns : goal.returns
returns c before parts =
    let none : length c.loop-value.values ≡ 0 = ap length c.in_default.ensures.0 in
    ap (λ (most : ℕ). restored (take most c.args.numbers.now) c.loop-value.values c.loop-value.registers) (sym none)
    ∙ c.loop-value.invariant.so_far
    ∙ moved_undone c.args.numbers.now before c.args.values c.args.registers.now parts
