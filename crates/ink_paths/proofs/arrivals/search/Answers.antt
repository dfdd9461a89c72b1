use Rattle.std.proofs.Common.{◌<◌, ◌/◌, length, refl, rules, arith}
use Rattle.ink_paths.proofs.States.{at_start, in_seen, turn, turn_size, falls, at_end}
use Rattle.ink_paths.proofs.arrivals.search.Goals as goal

pub loop-state-init : goal.loop-state-init
loop-state-init c =
    let e = c.state_of.ensures in
    let seen = c.in_ok-mark.ensures.seen in
    let todo = c.in_ok-mark.ensures.todo in
    let h = at_start c.args.points.now c.args.start c.args.variable c.in_ok-vec.field-0.items c.mark.new.self.seen.items c.mark.new.self.todo.items c.requires.start (search rules) (rw e at seen) (rw c.new.ensures.items at (rw e at todo)) in
    record { same = refl; size = h.0; walks = h.1 }

pub bounds-points-state : goal.bounds-points-state
bounds-points-state c = in_seen c.args.points.now c.args.start c.args.variable c.in-Some.state c.loop-state.marks.seen.items c.loop-state.marks.todo.items c.pop.new.self.items c.requires.points c.loop-state.invariant.size c.loop-state.invariant.walks c.in-Some.ensures.items

pub offset_bounds-points-state : goal.offset_bounds-points-state
offset_bounds-points-state c = let h : c.in-Some.state / 2 < length c.args.points.now = in_seen c.args.points.now c.args.start c.args.variable c.in-Some.state c.loop-state.marks.seen.items c.loop-state.marks.todo.items c.pop.new.self.items c.requires.points c.loop-state.invariant.size c.loop-state.invariant.walks c.in-Some.ensures.items in let t = c.well_formed in search rules

pub loop-state-smaller : goal.loop-state-smaller
loop-state-smaller c = falls c.args.points.now c.args.start c.args.variable c.in-Some.state c.loop-state.marks.seen.items c.loop-state.marks.todo.items c.pop.new.self.items c.requires.points c.loop-state.invariant.size c.loop-state.invariant.walks c.in-Some.ensures.items _ c.visit.new.self.seen.items c.visit.new.self.todo.items c.in_ok-visit.ensures.seen c.in_ok-visit.ensures.todo

pub loop-state-preserved : goal.loop-state-preserved
loop-state-preserved c = record {
  same = refl;
  size = turn_size c.args.points.now c.args.start c.args.variable c.in-Some.state c.loop-state.marks.seen.items _ c.visit.new.self.seen.items c.loop-state.invariant.size c.in_ok-visit.ensures.seen;
  walks = turn c.args.points.now c.args.start c.args.variable c.in-Some.state c.loop-state.marks.seen.items c.loop-state.marks.todo.items c.pop.new.self.items c.requires.points c.loop-state.invariant.size c.loop-state.invariant.walks c.in-Some.ensures.items _ c.visit.new.self.seen.items c.visit.new.self.todo.items c.in_ok-visit.ensures.seen c.in_ok-visit.ensures.todo;
}

pub returns : goal.returns
returns c = λ n moved. at_end c.args.points.now c.args.start c.args.variable c.loop-state.marks.seen.items c.loop-state.marks.todo.items c.pop.new.self.items c.loop-state.invariant.walks c.in_default.ensures.items (omega (arith, c.in_default.ensures.cases.1, c.pop.new.self.ok.0)) n moved
