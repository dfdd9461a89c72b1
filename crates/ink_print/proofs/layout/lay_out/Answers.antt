use Rattle.std.proofs.lemmas.List.{drop_all}
use Rattle.ink_print.specs.declared.class.Class.TheVariants as class
use Rattle.ink_print.specs.Layout.{laid}
use Rattle.ink_print.proofs.Laid.{piece_on, few_on, laid_end}
use Rattle.ink_print.proofs.layout.lay_out.Goals as goal

pub loop-piece-preserved : goal.loop-piece-preserved
loop-piece-preserved c = record {
  few = few_on c.class_of-here.result c.loop-piece.depth c.depth_at-depth.result c.depth_behind-depth.result c.loop-piece.piece-index c.depth_at-depth.ensures c.depth_behind-depth.ensures c.loop-piece.invariant.few;
  stands = piece_on c.args.source.now (laid c.args.source.now c.args.pieces.now 0 class.Line) c.loop-piece.text.items c.write_gap.new.text.items c.extend_from_slice.new.self.items c.piece_text.result.now c.args.pieces.now c.loop-piece.piece-index _ c.loop-piece.depth c.depth_at-depth.result c.depth_behind-depth.result c.loop-piece.before c.class_of-here.result c.loop-piece-test.true c.class_of-here.ensures c.depth_at-depth.ensures c.in_ok-write_gap.ensures c.piece_text.ensures c.in_ok-extend_from_slice.ensures.items c.depth_behind-depth.ensures c.loop-piece.invariant.stands;
}

pub returns : goal.returns
returns c = laid_end c.args.source.now c.loop-piece.text.items (laid c.args.source.now c.args.pieces.now 0 class.Line) _ c.loop-piece.depth c.loop-piece.before (drop_all c.loop-piece.piece-index c.args.pieces.now c.loop-piece-test.false) c.loop-piece.invariant.stands
