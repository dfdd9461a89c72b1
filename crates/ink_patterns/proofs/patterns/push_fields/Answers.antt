use Rattle.ink_patterns.proofs.Made.{fields_made}
use Rattle.ink_patterns.proofs.patterns.push_fields.Goals as goal

pub returns-clause-made : goal.returns-clause-made
returns-clause-made c =
    let made = c.in_ok-number.ensures in
    let listed = c.in_ok-fields.ensures in
    fields_made c.args.arena.now c.add_fields.new.self c.push_pattern.new.self c.in_ok-number.number c.args.start listed.keeps listed.count made.number made.count
    c.args.made.now c.in_ok-fields.fields c.requires listed.list made.made
