use Rattle.std.proofs.Common.{◌≡◌, ◌≤◌, drop, length}
use Rattle.std.specs.Vec.{vec_capacity, vec_len}
use Rattle.ink_code.specs.Process.{moved}
use Rattle.ink_proc.proofs.MovingLemmas.{behind}
use Rattle.ink_proc.proofs.moving.move_out.Given as goal

abbrev pub invariant-loop-number : goal.invariant-loop-number
invariant-loop-number l = record {
  so_far : moved l.numbers l.fn.registers ≡ behind l.room.items (moved (drop l.number-index l.numbers) l.registers);
  count : vec_len l.room ≡ l.number-index;
  room : length l.numbers ≤ vec_capacity l.room;
  kept : vec_capacity l.fn.room ≤ vec_capacity l.room;
}
