use Rattle.ink_post.proofs.MeaningLemmas.{tells_wrong}
use Rattle.ink_post.proofs.OthersLemmas.{others_stay}
use Rattle.ink_post.proofs.StandingLemmas.{brings_apart, coming_again, goes_on, same_others, same_stands, stands_on, stays_ahead}
use Rattle.ink_post.proofs.post.Post.check_in.Goals as goal
use Rattle.ink_proc.specs.State.{state_of}

pub settle-requires-clause-goes : goal.settle-requires-clause-goes
settle-requires-clause-goes c halt = goes_on c.args.code.now c.args.self.now c.requires.stands halt

pub settle-requires-clause-brings : goal.settle-requires-clause-brings
settle-requires-clause-brings c wish is = brings_apart c.args.code.now c.args.self.now c.args.process c.args.seat c.args.came (state_of c.args.proc) c.requires.comes c.requires.stands wish is

pub returns-in-Ok-clause-stays : goal.returns-in-Ok-clause-stays
returns-in-Ok-clause-stays c = stays_ahead c.args.code.now c.args.self.now c.args.process c.args.seat c.args.came (state_of c.args.proc) c.requires.comes (record c.settle.new.self { wrong = c.wrong_by-self.result }) c.in-Ok.answer c.settle.ensures.limits c.in-Ok.ensures.checks

pub returns-in-Ok-clause-others : goal.returns-in-Ok-clause-others
returns-in-Ok-clause-others c other seat came p differ coming =
    let stays = stays_ahead c.args.code.now c.args.self.now c.args.process c.args.seat c.args.came (state_of c.args.proc) c.requires.comes c.settle.new.self c.in-Ok.answer c.settle.ensures.limits c.in-Ok.ensures.checks in
    let still = others_stay c.args.code.now c.args.process c.args.came (state_of c.args.proc) c.args.self.now c.settle.new.self c.settle.ensures.limits c.in-Ok.answer c.requires.stands stays c.in-Ok.ensures.checks other seat came p differ coming in
    record { ran = still.ran; lent = still.lent; comes = still.comes }

pub returns-in-Err-clause-again : goal.returns-in-Err-clause-again
returns-in-Err-clause-again c = same_stands c.args.code.now c.args.self.now c.settle.new.self c.in-Err.ensures.checks.0.0 c.settle.ensures.limits c.requires.stands

pub returns-in-Err-clause-others : goal.returns-in-Err-clause-others
returns-in-Err-clause-others c = same_others c.args.code.now c.args.process c.args.self.now c.settle.new.self c.settle.ensures.limits c.in-Err.ensures.checks.0.0

pub returns-in-Err-clause-gives : goal.returns-in-Err-clause-gives
returns-in-Err-clause-gives c =
    coming_again c.args.code.now c.args.self.now c.settle.new.self c.args.process c.args.seat c.args.came (state_of c.args.proc) c.in-Err.fault c.settle.ensures.limits c.requires.comes c.in-Err.ensures.checks

pub returns-in-Ok-clause-stands : goal.returns-in-Ok-clause-stands
returns-in-Ok-clause-stands c = stands_on c.args.code.now c.args.self.now (record c.settle.new.self { wrong = c.wrong_by-self.result }) c.in-Ok.answer c.requires.stands (returns-in-Ok-clause-stays c)

pub returns-in-Ok-clause-tells : goal.returns-in-Ok-clause-tells
returns-in-Ok-clause-tells c = tells_wrong c.args.code.now c.args.self.now c.args.process c.args.seat c.args.came (state_of c.args.proc) c.requires.comes c.requires.stands c.settle.new.self c.in-Ok.answer c.in-Ok.ensures.checks
