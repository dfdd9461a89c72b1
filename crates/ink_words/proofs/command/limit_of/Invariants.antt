use Rattle.std.proofs.Common.{◌≡◌, ℕ, ◌<◌, slice_index_or}
use Rattle.ink_base.specs.Limits.{option_word}
use Rattle.ink_base.specs.declared.limits.Limit.TheVariants.{Source}
use Rattle.ink_words.proofs.command.limit_of.Given as goal

-- the word is the option of no limit before
abbrev pub invariant-loop-limit : goal.invariant-loop-limit
invariant-loop-limit l = (k : ℕ) → k < l.limit-index → l.word ≡ option_word (slice_index_or l.limit-items k Source) → ⊥
