use Rattle.std.proofs.Common.{◌/◌, ap, ◌∙◌, eqb, cond}
use Rattle.ink_marks.specs.Marks.{is_marked}
use Rattle.ink_marks.proofs.Levels.{levels_put}
use Rattle.ink_marks.proofs.marks.Marks.put.Goals as goal

-- src/marks.rt:67:5
pub invariant_of-self : goal.invariant_of-self
invariant_of-self c =
    levels_put c.self.inside.bits.items c.self.inside.blocks.items c.self.inside.groups.items c.put-in_word.new.words.items c.put-in_block.new.words.items c.put.new.words.items (c.args.number / 64) (c.args.number / 64 / 64) c.self.invariant
    c.put-in_word.ensures.length c.put-in_block.ensures.length c.put.ensures.length c.put-in_word.ensures.others
    (λ n. c.put-in_block.ensures.marks n ∙ ap (λ b. cond (eqb n (c.args.number / 64)) b (is_marked c.self.inside.blocks.items n)) c.put-in_word.ensures.some) c.put-in_block.ensures.others (λ n. c.put.ensures.marks n ∙ ap (λ b. cond (eqb n (c.args.number / 64 / 64)) b (is_marked c.self.inside.groups.items n)) c.put-in_block.ensures.some)
