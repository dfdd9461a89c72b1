use Rattle.std.proofs.Common.{◌<◌, ◌^◌, length, w64, arith}
use Rattle.std.proofs.Math.Facts.{Fits-lt-pow, Fits-of_lt}
use Rattle.ink_marks.proofs.Least.{rest_below, word_within, lowest_marked}
use Rattle.ink_marks.proofs.words.lowest.Goals as goal

-- src/words.rt:47:5
pub overflow_add-result : goal.overflow_add-result
overflow_add-result c =
    let within : c.args.first < length c.args.words.now = word_within c.args.words.now c.args.first c.requires.first.0 in
    let few : length c.args.words.now < 2 ^ 56 = c.requires.few in
    let rest : _ < 64 = rest_below c.args.words.now c.args.first (Fits-lt-pow (c.type_inv.words c.args.first)) c.requires.first in
    Fits-of_lt {w = w64} (omega arith)

-- src/words.rt:42:1
pub returns : goal.returns
returns c = lowest_marked c.args.words.now c.args.first (Fits-lt-pow (c.type_inv.words c.args.first)) c.requires.first
