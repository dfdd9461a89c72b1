use Rattle.std.specs.Prelude.{List}
use Rattle.ink_devices.specs.declared.faults.Faults.{Faults}
use Rattle.ink_devices.specs.Stored.{File}

-- what a contract sees of sure files: the files, and the faults of the reads of names that aren't there
pub record SureFilesView : Type 0 where
  pub files : List File
  pub reads : Faults
