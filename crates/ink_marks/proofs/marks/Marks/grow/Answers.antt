use Rattle.std.proofs.Common.{rules, ◌≡◌, ◌+◌, ◌*◌, ◌≤◌, ◌^◌, ap, ◌∙◌, length, arith}
use Rattle.std.proofs.lemmas.List.{length_push}
use Rattle.ink_marks.specs.Marks.{is_marked}
use Rattle.ink_marks.proofs.Levels.{levels_grown, same_pushed, same_kept, same_marks}
use Rattle.ink_marks.proofs.marks.Marks.grow.Goals as goal

-- src/marks.rt:62:9
pub invariant_of-self-in_err-push : goal.invariant_of-self-in_err-push
invariant_of-self-in_err-push c =
    let same : c.push.new.self.items ≡ c.self.inside.bits.items = c.in_err-push.ensures.items in
    let bits : length c.push.new.self.items ≡ length c.self.inside.bits.items = ap length same in
    let lowest : c.len-3.result ≡ length c.self.inside.bits.items = c.len-3.ensures ∙ c.self.inside.bits.ok.0 in
    let middle : c.len-2.result ≡ length c.self.inside.blocks.items = c.len-2.ensures ∙ c.self.inside.blocks.ok.0 in
    let room : c.len-3.result + 1 ≤ 64 * length c.reserve-2.new.words.items = c.in_ok-reserve-2.ensures.room in
    let more : c.len-2.result + 1 ≤ 64 * length c.reserve.new.words.items = c.in_ok-reserve.ensures.room in
    let one : length c.reserve-2.new.words.items ≤ length c.self.inside.blocks.items + 1 = c.reserve-2.ensures.one in
    let few : length c.self.inside.bits.items ≤ 2 ^ 26 = c.self.invariant.few in
    levels_grown c.self.inside.bits.items c.self.inside.blocks.items c.self.inside.groups.items c.push.new.self.items c.reserve-2.new.words.items c.reserve.new.words.items c.self.invariant
    (same_kept c.push.new.self.items c.self.inside.bits.items same) c.reserve-2.ensures.same c.reserve.ensures.same (omega arith) (omega arith) (omega arith) c.reserve-2.ensures.few c.reserve.ensures.few

-- src/marks.rt:53:5
pub invariant_of-self-2 : goal.invariant_of-self-2
invariant_of-self-2 c =
    let bits : length c.push.new.self.items ≡ length c.self.inside.bits.items + 1 = ap length c.in_ok-push.ensures.items ∙ length_push c.self.inside.bits.items 0 in
    let lowest : c.len-3.result ≡ length c.self.inside.bits.items = c.len-3.ensures ∙ c.self.inside.bits.ok.0 in
    let middle : c.len-2.result ≡ length c.self.inside.blocks.items = c.len-2.ensures ∙ c.self.inside.blocks.ok.0 in
    let room : c.len-3.result + 1 ≤ 64 * length c.reserve-2.new.words.items = c.in_ok-reserve-2.ensures.room in
    let more : c.len-2.result + 1 ≤ 64 * length c.reserve.new.words.items = c.in_ok-reserve.ensures.room in
    let one : length c.reserve-2.new.words.items ≤ length c.self.inside.blocks.items + 1 = c.reserve-2.ensures.one in
    levels_grown c.self.inside.bits.items c.self.inside.blocks.items c.self.inside.groups.items c.push.new.self.items c.reserve-2.new.words.items c.reserve.new.words.items c.self.invariant
    (same_pushed c.push.new.self.items c.self.inside.bits.items c.in_ok-push.ensures.items) c.reserve-2.ensures.same c.reserve.ensures.same (omega arith) (omega arith) (search rules) c.reserve-2.ensures.few c.reserve.ensures.few

-- src/marks.rt:53:5
pub returns-clause-marks : goal.returns-clause-marks
returns-clause-marks c = λ n.
    let view = c.self.view_is in
    let same : is_marked c.self.inside.bits.items n ≡ is_marked c.args.self.now n = cc in
    same_marks c.push.new.self.items c.self.inside.bits.items (same_pushed c.push.new.self.items c.self.inside.bits.items c.in_ok-push.ensures.items) n ∙ same
