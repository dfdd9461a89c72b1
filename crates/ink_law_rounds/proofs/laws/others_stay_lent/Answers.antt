use Rattle.ink_law_rounds.proofs.Others.{checks_leave, still_stands}
use Rattle.ink_law_rounds.proofs.laws.others_stay_lent.Goals as goal

pub returns-clause-lent : goal.returns-clause-lent
returns-clause-lent c s m limits process came p old answer new checks other seat ran differ at =
    (checks_leave m limits process came p old answer new checks).out other seat ran differ at

pub returns-clause-stands : goal.returns-clause-stands
returns-clause-stands c s m limits first process came p old answer new checks stands other q differ at =
    still_stands m limits first process other q old new stands (checks_leave m limits process came p old answer new checks) differ at
