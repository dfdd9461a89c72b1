use Rattle.std.proofs.Common.{◌≡◌, ◌+◌, ◌*◌, drop}
use Rattle.ink_forms.specs.Views as view
use Rattle.ink_exits.specs.Scopes.{declare_all}
use Rattle.ink_exits.specs.Exits.{exits_in, exits_of_all, exits_of_arguments, exits_of_arms}
use Rattle.ink_exits.proofs.walk.+walk.Given as goal

abbrev pub decreases-walk : goal.decreases-walk
decreases-walk l = 8 * l.number + 7

abbrev pub decreases-walk_lists : goal.decreases-walk_lists
decreases-walk_lists l = 8 * l.number + 6

abbrev pub decreases-walk_children : goal.decreases-walk_children
decreases-walk_children l = 8 * l.number + 5

abbrev pub decreases-walk_block : goal.decreases-walk_block
decreases-walk_block l = 8 * l.parent + 4

abbrev pub decreases-walk_arms : goal.decreases-walk_arms
decreases-walk_arms l = 8 * l.parent + 4

abbrev pub decreases-walk_arm : goal.decreases-walk_arm
decreases-walk_arm l = 8 * l.parent + 3

abbrev pub decreases-walk_guard : goal.decreases-walk_guard
decreases-walk_guard l = 8 * l.parent + 2

abbrev pub decreases-walk_all : goal.decreases-walk_all
decreases-walk_all l = 8 * l.parent + 1

abbrev pub decreases-walk_arguments : goal.decreases-walk_arguments
decreases-walk_arguments l = 8 * l.parent + 1

abbrev pub decreases-walk_statements : goal.decreases-walk_statements
decreases-walk_statements l = 8 * l.parent + 1

abbrev pub invariant-walk_all-loop-child : goal.invariant-walk_all-loop-child
invariant-walk_all-loop-child l = record {
  found : exits_of_all l.base l.scope.items (view.terms l.arena (drop l.child-index l.child-items)) l.exits ≡ exits_of_all l.base l.initial.scope.items (view.terms l.arena l.child-items) l.initial.exits;
  scope : l.scope.items ≡ l.initial.scope.items;
}

abbrev pub invariant-walk_arguments-loop-argument : goal.invariant-walk_arguments-loop-argument
invariant-walk_arguments-loop-argument l = record {
  found : exits_of_arguments l.base l.scope.items (view.arguments l.arena (drop l.argument-index l.argument-items)) l.exits ≡ exits_of_arguments l.base l.initial.scope.items (view.arguments l.arena l.argument-items) l.initial.exits;
  scope : l.scope.items ≡ l.initial.scope.items;
}

abbrev pub invariant-walk_statements-loop-statement : goal.invariant-walk_statements-loop-statement
invariant-walk_statements-loop-statement l = record {
  found : exits_in l.base l.scope.items (view.terms l.arena (drop l.statement-index l.statement-items)) l.exits ≡ exits_in l.base l.initial.scope.items (view.terms l.arena l.statement-items) l.initial.exits;
  scope : declare_all (view.terms l.arena (drop l.statement-index l.statement-items)) l.scope.items ≡ declare_all (view.terms l.arena l.statement-items) l.initial.scope.items;
}

abbrev pub invariant-walk_arms-loop-arm : goal.invariant-walk_arms-loop-arm
invariant-walk_arms-loop-arm l = record {
  found : exits_of_arms l.base l.scope.items (view.arms l.arena (drop l.arm-index l.arm-items)) l.exits ≡ exits_of_arms l.base l.initial.scope.items (view.arms l.arena l.arm-items) l.initial.exits;
  scope : l.scope.items ≡ l.initial.scope.items;
}
