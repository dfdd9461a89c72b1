use Rattle.std.proofs.Common.{arith, sym}
use Rattle.ink_tokens.proofs.SoundLemmas.{end_fault-le}
use Rattle.ink_tokens.proofs.lexing.answer_at_end.Goals as goal

pub told_fault-requires-clause-inside : goal.told_fault-requires-clause-inside
told_fault-requires-clause-inside c =
    let sound = c.requires.sound in
    omega (arith, end_fault-le _ _ _ _ _ sound.wide sound.opened (sym c.in-Some.ensures), sound.inside)
