use Rattle.std.proofs.Common.{◌∙◌, ap, arith}
use Rattle.ink_devices.specs.Stored.{bytes_under}
use Rattle.ink_devices.proofs.StoredLemmas.{IsAt-within, bytes_under-set, bytes_under-set_other, bytes_under-push, bytes_under-push_other, AreApart-set, AreApart-push}
use Rattle.ink_devices.proofs.stored.Stored.put.Goals as goal

pub index_mut-requires : goal.index_mut-requires
index_mut-requires c =
    let at = rw (c.as_slice.ensures.value, c.bytes.ensures) at c.in-Some.ensures.found in
    let within = IsAt-within c.self.inside.files.items c.args.name c.in-Some.index at in
    let len = c.self.inside.files.ok.0 in
    omega arith

pub invariant_of-self : goal.invariant_of-self
invariant_of-self c =
    let at = rw (c.as_slice.ensures.value, c.bytes.ensures) at c.in-Some.ensures.found in
    AreApart-set c.self.inside.files.items c.args.name c.in-Some.index c.args.bytes at c.self.invariant

pub invariant_of-self-in-Continue-1 : goal.invariant_of-self-in-Continue-1
invariant_of-self-in-Continue-1 c =
    let absent = rw (c.as_slice.ensures.value, c.bytes.ensures) at c.in-None.ensures.absent in
    rw c.in_ok-push-in-None.ensures.items
    (AreApart-push c.self.inside.files.items c.args.name c.args.bytes absent c.self.invariant)

pub returns-in-Some-clause-ok : goal.returns-in-Some-clause-ok
returns-in-Some-clause-ok c =
    let at = rw (c.as_slice.ensures.value, c.bytes.ensures) at c.in-Some.ensures.found in
    let files = c.self.inside.files.items in
    let index = c.in-Some.index in (
      bytes_under-set files c.args.name index c.args.bytes at,
      λ other differ.
          bytes_under-set_other files c.args.name index c.args.bytes other at differ
          ∙ ap (λ kept. bytes_under kept other) c.self.view_is,
    )

pub returns-in_ok-push-in-None-clause-ok : goal.returns-in_ok-push-in-None-clause-ok
returns-in_ok-push-in-None-clause-ok c =
    let absent = rw (c.as_slice.ensures.value, c.bytes.ensures) at c.in-None.ensures.absent in
    let files = c.self.inside.files.items in
    rw c.in_ok-push-in-None.ensures.items (
      bytes_under-push files c.args.name c.args.bytes absent,
      λ other differ.
          bytes_under-push_other files c.args.name c.args.bytes other differ
          ∙ ap (λ kept. bytes_under kept other) c.self.view_is,
    )
