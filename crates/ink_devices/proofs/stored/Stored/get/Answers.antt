use Rattle.std.proofs.Common.{◌∙◌, ap, sym, arith}
use Rattle.std.proofs.Common.{Some}
use Rattle.ink_devices.specs.Stored.{bytes_under}
use Rattle.ink_devices.proofs.StoredLemmas.{IsAt-within, bytes_under-IsAt}
use Rattle.ink_devices.proofs.stored.Stored.get.Goals as goal

pub index-requires : goal.index-requires
index-requires c =
    let at = rw (c.as_slice.ensures.value, c.bytes.ensures) at c.in-Some.ensures.found in
    let within = IsAt-within c.self.inside.files.items c.args.name.now c.in-Some.index at in
    let len = c.self.inside.files.ok.0 in
    omega arith

pub returns-in-Some : goal.returns-in-Some
returns-in-Some c =
    let at = rw (c.as_slice.ensures.value, c.bytes.ensures) at c.in-Some.ensures.found in
    let file = c.index.result.now in
    ap Some (c.as_slice-in-Some.ensures.value ∙ ap (λ f. f.1.items) c.index.ensures)
    ∙ sym (bytes_under-IsAt c.self.inside.files.items c.args.name.now c.in-Some.index file at)
    ∙ ap (λ files. bytes_under files c.args.name.now) c.self.view_is
