-- What small rounds come to.
use Rattle.std.proofs.Common.{◌≡◌, ℕ, None, Some, List, [], ◌∷◌, ◌++◌, refl, replicate, lit<}
use Rattle.std.specs.Prelude.{codes}
use Rattle.std.specs.FinMap.{empty}
use Rattle.ink_base.specs.declared.value.Value.TheVariants as v
use Rattle.ink_base.specs.Actions.{opening}
use Rattle.ink_base.specs.Ends.{LocalLimit, Panicked, RoundLimit}
use Rattle.ink_base.specs.Limits.{default_numbers}
use Rattle.ink_code.specs.declared.code.Code.{Code}
use Rattle.ink_code.specs.declared.instr.Instr.TheVariants as i
use Rattle.ink_code.specs.declared.method.Method.{Method}
use Rattle.ink_code.specs.Machine.{given, when, after}
use Rattle.ink_code.specs.Moves.{jump_step, panic_step}
use Rattle.ink_code.specs.Process.{Process, register, at_place}
use Rattle.ink_code.specs.Replies.{answered}
use Rattle.ink_code.specs.Rounds.{RoundState, Ready, round, slices_of, each_checked_in, checked_in, rounds, end_of_rounds}
use Rattle.ink_code.specs.Runs.{no_parcel, reply_of, process_after, after_made}
use Rattle.ink_code.specs.Slice.{slice_of}
use Rattle.ink_code.specs.Step.{code_step, free_step, top_step, instr_step}
use Rattle.ink_code.specs.Wanted.{print_step}

-- a code with one method
abbrev code_of : Method → Code
code_of method =
    record {
      methods = method ∷ [];
      constants = v.Txt (codes "hi") ∷ [];
      kinds = codes "Main" ∷ [];
      impls = [];
      main_kind = 0;
      main = 0;
    }

-- a process at a place of the first method
abbrev at : ℕ → ℕ → Process
at place ran =
    record {
      number = 1;
      kind = 0;
      made = 1;
      frames = (record { method = 0; place = place; registers = v.Txt (codes "hi") ∷ [] }) ∷ [];
      objects = empty;
      pending = [];
      ran = ran;
    }

-- a run of that process alone
abbrev alone : Process → RoundState
alone p =
    record {
      world = record { processes = p ∷ []; shared = opening 0 no_parcel; panic = None };
      statuses = Ready ∷ [];
      journal = [];
      ended = None;
    }

-- at most five local steps, and nine in a slice
abbrev five : List ℕ
five = replicate 12 5 ++ 9 ∷ 9 ∷ []

abbrev jumping : Method
jumping = record { name = codes "Main.main"; registers = 1; body = i.Jump 0 ∷ []; lines = []; counted = lit< tt }

spent_in_a_round : (round (code_of jumping) five (alone (at 0 0))).ended ≡ Some (LocalLimit 1 5)
unfolding round slices_of each_checked_in checked_in slice_of code_step free_step top_step instr_step jump_step at_place given when
spent_in_a_round = refl

abbrev printing : Method
printing = record { name = codes "Main.main"; registers = 1; body = i.Print 0 ∷ i.Panic 0 ∷ []; lines = []; counted = lit< tt }

-- one action of each process in a round, and the frame goes on behind it
printed : (round (code_of printing) five (alone (at 0 0))).world.shared.output ≡ codes "hi\n"
unfolding round slices_of each_checked_in checked_in slice_of code_step free_step top_step instr_step print_step register at_place given when after after_made process_after reply_of answered
printed = refl

then_on : (round (code_of printing) five (alone (at 0 0))).world.processes ≡ at 1 0 ∷ []
unfolding round slices_of each_checked_in checked_in slice_of code_step free_step top_step instr_step print_step register at_place given when after after_made process_after reply_of answered
then_on = refl

-- a panic is an action, and ends the run
panicked_in_a_round : (round (code_of printing) five (alone (at 1 0))).ended ≡ Some (Panicked 1)
unfolding round slices_of each_checked_in checked_in slice_of code_step free_step top_step instr_step panic_step register at_place given when after after_made process_after reply_of answered
panicked_in_a_round = refl

panic_in_the_journal : (round (code_of printing) five (alone (at 1 0))).journal ≡ 1 ∷ []
unfolding round slices_of each_checked_in checked_in slice_of code_step free_step top_step instr_step panic_step register at_place given when after after_made process_after reply_of answered
panic_in_the_journal = refl

-- a round that begins a run comes to the take of the opening message
one_round_is_not_all : end_of_rounds 0 (rounds (code_of printing) default_numbers 0) ≡ Some (RoundLimit 0)
unfolding rounds
one_round_is_not_all = refl
