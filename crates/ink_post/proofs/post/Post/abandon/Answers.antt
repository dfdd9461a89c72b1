use Rattle.std.proofs.Common.{None, refl}
use Rattle.ink_post.specs.Worlds.{world_of}
use Rattle.ink_post.proofs.HomesLemmas.{home_changed}
use Rattle.ink_post.proofs.post.Post.abandon.Goals as goal
use Rattle.ink_worlds.specs.declared.status.Status.TheVariants.{Stopped}

pub returns-clause-after : goal.returns-clause-after
returns-clause-after c output =
    home_changed (world_of c.args.self.now output) c.args.process None Stopped c.args.self.now.homes.items c.set.new.self.items c.set-2.new.self.items refl c.set.ensures.after c.set-2.ensures.items
