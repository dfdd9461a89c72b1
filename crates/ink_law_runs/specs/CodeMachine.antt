-- The machine that runs a code, as one of those whose processes take turns.
use Rattle.std.specs.Prelude.{ℕ, Ok, Err, List}
use Rattle.ink_base.specs.Actions as action
use Rattle.ink_code.specs.declared.code.Code.{Code}
use Rattle.ink_code.specs.Machine.{Outcome, Went, Wants, Panics, Spent}
use Rattle.ink_code.specs.Process.{Process}
use Rattle.ink_code.specs.Runs.{World, begun, opening_world, process_after}
use Rattle.ink_code.specs.Step.{free_step}
use Rattle.ink_code.specs.Trees.{Parcel}
use Rattle.ink_law_turns.specs.Machines.{Machine, Move, Goes, Comes, Fails}
use Rattle.ink_law_turns.specs.Turns.{Run}

-- what a step came to: a panic is an action too
abbrev pub move_of : Outcome → Move Process Parcel
move_of (Err why) = Fails
move_of (Ok (Went, p)) = Goes p
move_of (Ok (Wants wish, p)) = Comes wish p
move_of (Ok (Panics text, p)) = Comes (action.Panic text) p
move_of (Ok (Spent steps, p)) = Fails

-- whatever the limit of local steps
abbrev pub code_machine : Code → List ℕ → Machine Process Parcel
code_machine code limits =
    record {
      step = λ p. move_of (free_step code limits p.pending p);
      left = process_after code;
      begun = begun;
      number = λ p. p.number;
      kind = λ p. p.kind;
      ran = λ p. p.ran;
    }

abbrev pub run_of : World → Run Process Parcel
run_of world = record { processes = world.processes; shared = world.shared; panic = world.panic }

-- a run of a code as it begins
abbrev pub opening_run : Code → Run Process Parcel
opening_run code = run_of (opening_world code)
