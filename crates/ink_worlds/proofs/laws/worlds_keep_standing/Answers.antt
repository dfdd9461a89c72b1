use Rattle.ink_worlds.proofs.Stands.{checks_in}
use Rattle.ink_worlds.proofs.laws.worlds_keep_standing.Goals as goal

pub returns : goal.returns
returns c s m limits first counted state stands process seat ran at before p stood within came answer new from checks =
    checks_in m limits first counted state stands process seat ran at before p stood within came answer new from checks
