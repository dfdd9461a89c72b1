use Rattle.ink_post.proofs.Starts.{none_fresh}
use Rattle.ink_post.proofs.post.Post.begin.Goals as goal

pub started-requires : goal.started-requires
started-requires c = none_fresh c.in_ok-fields.fields 1 c.in_ok-fields.ensures
