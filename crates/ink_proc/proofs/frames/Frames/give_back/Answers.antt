use Rattle.std.proofs.Common.{ap, ◌∙◌}
use Rattle.ink_code.specs.Process.{with_register}
use Rattle.ink_proc.proofs.MovingLemmas.{given_back}
use Rattle.ink_proc.proofs.frames.Frames.give_back.Goals as goal

pub returns : goal.returns
returns c before had left =
    c.set.ensures.after
    ∙ ap (with_register c.args.number c.args.value) left
    ∙ given_back c.args.number c.args.value before had
