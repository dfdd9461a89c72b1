use Rattle.ink_patterns.proofs.Made.{tuple_made}
use Rattle.ink_patterns.proofs.written.push_tuple.Goals as goal

pub returns-clause-made : goal.returns-clause-made
returns-clause-made c =
    let made = c.in_ok-number.ensures in
    let listed = c.in_ok-parts.ensures in
    tuple_made c.args.arena.now c.add_list.new.self c.push_written.new.self c.in_ok-number.number c.args.start listed.keeps listed.count made.number made.count
    c.args.numbers.now c.in_ok-parts.parts c.requires listed.list made.made
