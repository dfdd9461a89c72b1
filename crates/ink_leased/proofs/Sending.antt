-- A world goes from thread to thread.
use denote.Param.Send.{IsSend, sendable}
use denote.RattleType.{RattleType}
use Rattle.std.proofs.Crossing.{Deque-send, Vec-send, crosses}
use Rattle.ink_heap.specs.contracts.heap.Heap as Heap
use Rattle.ink_leased.specs.contracts.leased.Began as Began
use Rattle.ink_leased.specs.contracts.leased.Leased as Leased
use Rattle.ink_mail.specs.contracts.mailboxes.Mailboxes as Mailboxes
use Rattle.ink_post.specs.contracts.post.Post as Post
use Rattle.ink_proc.specs.contracts.process.Proc as Proc
use Rattle.ink_promise.specs.contracts.futures.Futures as Futures
use Rattle.ink_run.specs.contracts.world.World as World
use Rattle.ink_statuses.specs.contracts.statuses.Statuses as Statuses

heap_send : IsSend Heap.the_row
heap_send = search (Vec-send, sendable, crosses) depth 100 fits 4000

proc_send : IsSend Proc.the_row
proc_send = search (heap_send, Vec-send, sendable, crosses) depth 100 fits 4000

statuses_send : IsSend Statuses.the_row
statuses_send = search (Vec-send, sendable, crosses) depth 100 fits 4000

futures_send : IsSend Futures.the_row
futures_send = search (Vec-send, sendable, crosses) depth 100 fits 4000

mail_send : IsSend Mailboxes.the_row
mail_send = search (Vec-send, Deque-send, sendable, crosses) depth 100 fits 4000

-- a struct's fields as what holds it has them
post_field : IsSend (Post.the_field).row
post_field = search (proc_send, statuses_send, futures_send, mail_send, Vec-send, sendable, crosses) depth 100 fits 4000

module _ (K : RattleType) (bound : IsSend K) where
  world_field : IsSend (World.the_field K).row
  world_field = search (post_field, sendable) depth 20

  began_field : IsSend (Began.the_field K).row
  began_field = search (sendable, crosses) depth 100 fits 4000

  pub leased_send : IsSend (Leased.the_row K)
  leased_send = search (world_field, began_field, sendable) depth 20
