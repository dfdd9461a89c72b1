-- What a contract sees of a process: the record that the code machine is written over.
use Rattle.ink_code.specs.Process.{Process}
use Rattle.ink_proc.specs.declared.process.Proc.{Proc}

abbrev pub state_of : Proc → Process
state_of p =
    record {
      number = p.number;
      kind = p.kind;
      made = p.made;
      frames = p.frames;
      objects = p.heap.objects;
      pending = p.pending;
      ran = p.ran;
    }
