use Rattle.std.proofs.Common.{◌≡◌, ◌++◌, map, take}
use Rattle.ink_emit.specs.Bodies.{dropped}
use Rattle.ink_emit.proofs.body.Body.drop_held.Given as goal

abbrev pub invariant-loop-from : goal.invariant-loop-from
invariant-loop-from l = record {
  code : l.self.instructions.items ≡ l.initial.self.instructions.items ++ map dropped (take l.from-index l.from-items);
  held : l.self.held.items ≡ l.initial.self.held.items;
  variables : l.self.variables ≡ l.initial.self.variables;
}
