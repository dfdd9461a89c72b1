use Rattle.std.proofs.Common.{ap, sym, ◌∙◌}
use Rattle.ink_words.specs.Commands.{recording_of}
use Rattle.ink_words.proofs.WrongWords.{no_wrong_word}
use Rattle.ink_words.proofs.order.recording.Goals as goal

pub returns-in-Err : goal.returns-in-Err
returns-in-Err c = λ asked order. absurd (no_wrong_word c.args.words.now c.in-Err._number (asked, order) c.in-Err.ensures.wrong)

pub returns-in-Ok : goal.returns-in-Ok
returns-in-Ok c = λ asked order. c.recorded.ensures ∙ ap recording_of (sym (c.in-Ok.ensures.only asked order))
