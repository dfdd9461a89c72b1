-- How a run ended.
use Rattle.std.specs.Prelude.{ℕ, ◌+◌, ◌||◌, Bool, true, false, Option, None, Some, List}
use Rattle.std.specs.List.{list_any, position}
use Rattle.std.specs.Option.{is_some}
use Rattle.ink_post.specs.declared.answer.End.{End}
use Rattle.ink_post.specs.declared.answer.End.TheVariants.{Quiet, Waiting, Panicked, SinkFailed, Events, Local, Wrong}
use Rattle.ink_statuses.specs.Readings.{is_held, is_out, is_ready, is_stopped}
use Rattle.ink_worlds.specs.declared.halt.Halt.{Halt}
use Rattle.ink_worlds.specs.declared.halt.Halt.TheVariants as halt
use Rattle.ink_worlds.specs.declared.status.Status.{Status}

abbrev pub end_by : Halt → End
end_by (halt.Panicked process) = Panicked process
end_by halt.SinkFailed = SinkFailed
end_by (halt.Events process) = Events process
end_by (halt.Local process steps) = Local process steps

-- whether a process is ready, lent or stopped
abbrev pub some_is_up : List Status → Bool
some_is_up statuses = is_some (position is_ready statuses) || list_any is_out statuses || list_any is_stopped statuses

-- the least process that waits for a future
abbrev pub waiting_end : Option ℕ → End
waiting_end None = Quiet
waiting_end (Some index) = Waiting (index + 1)

abbrev pub rest_by : Bool → List Status → Option End
rest_by true statuses = None
rest_by false statuses = Some (waiting_end (position is_held statuses))

-- the end of a run: what ended it, or that the code of a process is wrong, or that all wait
abbrev pub end_in : Option Halt → Option ℕ → List Status → Option End
end_in (Some halt) wrong statuses = Some (end_by halt)
end_in None (Some process) statuses = Some (Wrong process)
end_in None None statuses = rest_by (some_is_up statuses) statuses
