use Rattle.ink_generator.specs.Generated.{send_line}
use Rattle.ink_generator.proofs.Joined.{three}
use Rattle.ink_generator.proofs.module.put_send.Goals as goal

pub returns : goal.returns
unfolding send_line
returns c = three _ _ _ _ _ _ _ c.in_ok-put_numbered.ensures c.in_ok-put_numbered-2.ensures c.in_ok-extend_from_slice.ensures.items
