use Rattle.ink_patterns.proofs.Made.{named_made}
use Rattle.ink_patterns.proofs.written.push_named.Goals as goal

pub returns-clause-made : goal.returns-clause-made
returns-clause-made c =
    let made = c.in_ok-number.ensures in
    let listed = c.in_ok-arguments.ensures in
    named_made c.args.arena.now c.add_list.new.self c.push_written.new.self c.in_ok-number.number c.args.start listed.keeps listed.count made.number made.count
    c.args.numbers.now c.in_ok-arguments.arguments c.requires listed.list c.args.name made.made
