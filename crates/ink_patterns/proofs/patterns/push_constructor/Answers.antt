use Rattle.ink_patterns.proofs.Made.{constructor_made}
use Rattle.ink_patterns.proofs.patterns.push_constructor.Goals as goal

pub returns-clause-made : goal.returns-clause-made
returns-clause-made c =
    let made = c.in_ok-number.ensures in
    let listed = c.in_ok-parts.ensures in
    constructor_made c.args.arena.now c.add_list.new.self c.push_pattern.new.self c.in_ok-number.number c.args.start listed.keeps listed.count made.number made.count
    c.args.numbers.now c.in_ok-parts.parts c.requires listed.list c.args.made made.made
