-- Which answers tell that a code was found wrong.
use Rattle.std.proofs.Common.{◌≡◌, ℕ, Option, List, ◌∷◌, [], ◌++◌, ap, sym, ◌∙◌, subst}
use Rattle.ink_code.specs.declared.code.Code.{Code}
use Rattle.ink_post.specs.Answers as post
use Rattle.ink_post.specs.declared.answer.Answer.{Answer}
use Rattle.ink_post.specs.declared.answer.Answer.TheVariants as a
use Rattle.ink_post.specs.declared.post.Post.{Post}
use Rattle.ink_run.specs.Sinks.{SinkState}
use Rattle.ink_run.specs.Written.{TellsWrong, Writes, WritesLine, wrong_by}
use Rattle.ink_run.specs.declared.applied.Applied.{Applied}
use Rattle.ink_run.specs.declared.applied.Applied.TheVariants as applied

module _ (process : ℕ) (found : Option ℕ) (middle new : Post) (before after : SinkState) where
  -- what is told outside is told inside
  told_wrong : (one got : Applied) → got ≡ one → new ≡ middle → middle.wrong ≡ wrong_by one process found → new.wrong ≡ wrong_by got process found
  told_wrong one got is same wrong =
      ap (λ (p : Post). p.wrong) same ∙ (wrong ∙ ap (λ (x : Applied). wrong_by x process found) (sym is))

  line_wrong : (line : List ℕ) (got : Applied) → middle.wrong ≡ found → WritesLine line middle new before after got → new.wrong ≡ wrong_by got process found
  line_wrong line applied.Moved wrong writes = ap (λ (p : Post). p.wrong) writes.1 ∙ wrong
  line_wrong line applied.SinkFailed wrong writes = ap (λ (p : Post). p.wrong) writes.1 ∙ wrong
  line_wrong line applied.Kept wrong writes = absurd writes
  line_wrong line applied.Waits wrong writes = absurd writes
  line_wrong line applied.Panicked wrong writes = absurd writes
  line_wrong line applied.JournalFull wrong writes = absurd writes
  line_wrong line (applied.Spent steps) wrong writes = absurd writes
  line_wrong line applied.Wrong wrong writes = absurd writes

  pub writes_wrong : (answer : Answer) (got : Applied) → middle.wrong ≡ post.wrong_by answer process found → Writes answer middle new before after got → new.wrong ≡ wrong_by got process found
  writes_wrong (a.Printed text) got wrong writes = line_wrong (text ++ 10 ∷ []) got wrong writes
  writes_wrong a.Kept got wrong writes = told_wrong applied.Kept got writes.0 writes.1 wrong
  writes_wrong a.Moved got wrong writes = told_wrong applied.Moved got writes.0 writes.1 wrong
  writes_wrong a.Waits got wrong writes = told_wrong applied.Waits got writes.0 writes.1 wrong
  writes_wrong a.Panicked got wrong writes = told_wrong applied.Panicked got writes.0 writes.1 wrong
  writes_wrong a.JournalFull got wrong writes = told_wrong applied.JournalFull got writes.0 writes.1 wrong
  writes_wrong (a.Spent steps) got wrong writes = told_wrong (applied.Spent steps) got writes.0 writes.1 wrong
  writes_wrong a.Wrong got wrong writes = told_wrong applied.Wrong got writes.0 writes.1 wrong

  module _ (code : Code) (old : Post) where
    told_as : (one got : Applied) → got ≡ one → TellsWrong code process old one → TellsWrong code process old got
    told_as one got is tells = subst (λ (x : Applied). TellsWrong code process old x) (sym is) tells

    line_tells : (line : List ℕ) (got : Applied) → WritesLine line middle new before after got → TellsWrong code process old got
    line_tells line applied.Moved writes = tt
    line_tells line applied.SinkFailed writes = tt
    line_tells line applied.Kept writes = absurd writes
    line_tells line applied.Waits writes = absurd writes
    line_tells line applied.Panicked writes = absurd writes
    line_tells line applied.JournalFull writes = absurd writes
    line_tells line (applied.Spent steps) writes = absurd writes
    line_tells line applied.Wrong writes = absurd writes

    pub writes_tell : (answer : Answer) (got : Applied) → post.TellsWrong code process old answer → Writes answer middle new before after got → TellsWrong code process old got
    writes_tell (a.Printed text) got tells writes = line_tells (text ++ 10 ∷ []) got writes
    writes_tell a.Kept got tells writes = told_as applied.Kept got writes.0 tt
    writes_tell a.Moved got tells writes = told_as applied.Moved got writes.0 tt
    writes_tell a.Waits got tells writes = told_as applied.Waits got writes.0 tt
    writes_tell a.Panicked got tells writes = told_as applied.Panicked got writes.0 tt
    writes_tell a.JournalFull got tells writes = told_as applied.JournalFull got writes.0 tt
    writes_tell (a.Spent steps) got tells writes = told_as (applied.Spent steps) got writes.0 tt
    writes_tell a.Wrong got tells writes = told_as applied.Wrong got writes.0 tells
