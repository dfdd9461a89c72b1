use Rattle.std.proofs.Common.{sym}
use Rattle.ink_parcel.proofs.MovesLemmas.{Moves-one, get-taken}
use Rattle.ink_parcel.proofs.WalkLemmas.{GoesOn-one, walk-wrong}
use Rattle.ink_parcel.proofs.tree.move_object.Goals as goal

pub returns-in-Some-clause-moves : goal.returns-in-Some-clause-moves
returns-in-Some-clause-moves c =
    rw (c.push_reserved.ensures.items, c.in_default.ensures.items)
    (Moves-one c.args.heap.now c.take_out.new.self c.args.moved.now.items c.args.id c.in-Some.object (sym c.in-Some.ensures.object) c.in-Some.ensures.taken c.in-Some.ensures.room)

pub returns-in-Some-clause-gone : goal.returns-in-Some-clause-gone
returns-in-Some-clause-gone c =
    get-taken c.args.heap.now c.take_out.new.self c.args.id c.in-Some.ensures.taken

pub returns-in-Some-clause-walks : goal.returns-in-Some-clause-walks
returns-in-Some-clause-walks c =
    rw (c.push_reserved.ensures.items, c.in_default.ensures.items)
    (GoesOn-one c.args.heap.now c.take_out.new.self c.args.moved.now.items c.args.id c.in-Some.object (sym c.in-Some.ensures.object) c.in-Some.ensures.taken)

pub returns-in-None-clause-walks : goal.returns-in-None-clause-walks
returns-in-None-clause-walks c =
    λ rest taken. walk-wrong c.args.id rest c.args.heap.now.objects taken (sym c.in-None.ensures.object)
