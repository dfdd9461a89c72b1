use Rattle.ink_devices.specs.declared.faults.Faults.{Faults}

-- what a contract sees of the files of the system: how often calls failed
pub record HostFilesView : Type 0 where
  pub reads : Faults
  pub writes : Faults
