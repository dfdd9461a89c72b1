use Rattle.std.proofs.Common.{◌≡◌, drop, length}
use Rattle.ink_code.specs.Process.{given_out}
use Rattle.ink_proc.proofs.moving.move_in.Given as goal

abbrev pub invariant-loop-index : goal.invariant-loop-index
invariant-loop-index l = record {
  so_far : given_out l.numbers l.fn.values l.fn.registers ≡ given_out (drop l.index l.numbers) (drop l.index l.values) l.registers;
  count : length l.values ≡ length l.numbers;
}
