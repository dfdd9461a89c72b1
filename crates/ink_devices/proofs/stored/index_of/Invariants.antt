use Rattle.std.proofs.Common.{◌≡◌, take, None}
use Rattle.ink_devices.specs.Stored.{bytes_under}
use Rattle.ink_devices.proofs.stored.index_of.Given as goal

-- the name is not among the files so far
abbrev pub invariant-loop-index : goal.invariant-loop-index
invariant-loop-index l = bytes_under (take l.index l.files) l.name ≡ None
