use Rattle.ink_law_ownership.proofs.Replied.{reply-leaves}
use Rattle.ink_law_ownership.proofs.laws.reply_leaves.Goals as goal

pub returns : goal.returns
returns c = reply-leaves
