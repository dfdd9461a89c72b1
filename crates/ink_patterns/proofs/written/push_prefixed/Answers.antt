use Rattle.ink_patterns.proofs.Made.{prefixed_made}
use Rattle.ink_patterns.proofs.written.push_prefixed.Goals as goal

pub returns-clause-made : goal.returns-clause-made
returns-clause-made c =
    let made = c.in_ok-number.ensures in
    prefixed_made c.args.arena.now c.push_written.new.self c.in_ok-number.number c.args.start c.args.bare c.args.prefix made.number made.count made.made
