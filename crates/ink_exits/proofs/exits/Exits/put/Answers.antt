use Rattle.std.proofs.Common.{ap, ◌∙◌, arith}
use Rattle.std.specs.Prelude.{slice_set}
use Rattle.ink_exits.proofs.Tables.{put_shows}
use Rattle.ink_exits.proofs.exits.Exits.put.Goals as goal

pub returns : goal.returns
returns c =
    put_shows c.self.inside.variables.items c.args.left.now c.extend_from_slice.new.self.items c.self.inside.table.items c.set_part.new.table.items c.args.exit _
    c.in_ok-extend_from_slice.ensures.items c.set_part.ensures (omega (arith, c.len-start.ensures)) (omega (arith, c.len-start.ensures)) c.self.invariant
    ∙ ap (λ v. slice_set v c.args.exit c.args.left.now) c.self.view_is
