use Rattle.std.proofs.Common.{◌∙◌, ap, sym, inl, inr}
use Rattle.std.specs.Option.{option_copied}
use Rattle.ink_devices.specs.Outside.{one_more}
use Rattle.ink_devices.specs.Stored.{bytes_under}
use Rattle.ink_devices.proofs.memory.MemFilesFiles.read.Goals as goal
use Rattle.ink_devices.proofs.memory.MemFilesFiles.read.Goals.{then-not-is_listed+in_default, else-not-is_listed}

-- the plan has the number, or the name isn't there
pub returns-clause-plan : goal.returns-clause-plan
returns-clause-plan c =
    let call = c.one_more-call.result in (
      ap (λ f. f.planned) c.self.view_is,
      c.one_more-call.ensures.value ∙ ap (λ f. one_more f.calls) c.self.view_is,
      elim c.if-not-is_listed.branch [
        | then-not-is_listed+in_default w ↦
            inr (ap (λ f. bytes_under f.files c.args.name.now) (sym c.self.view_is)
            ∙ sym w.get.ensures ∙ ap option_copied w.in_default.is)
        | else-not-is_listed w ↦
            inl (rw (ap (λ f. f.planned) (sym c.self.view_is), ← c.as_slice.ensures.value)
            (c.is_listed.ensures.0 w.if-not-is_listed.false))
      ],
    )
