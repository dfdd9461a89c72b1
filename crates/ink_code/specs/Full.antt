-- When a process makes no further object.
use Rattle.std.specs.Prelude.{ℕ, ◌^◌, Option, None, Some, List}
use Rattle.ink_base.specs.declared.limits.Limit.TheVariants as limit
use Rattle.ink_base.specs.Actions.{reached}

-- no process makes as many objects
abbrev pub most_made : ℕ
most_made = 2 ^ 62

-- the first text where there is one, and else the other
abbrev pub text_or : Option (List ℕ) → Option (List ℕ) → Option (List ℕ)
text_or None other = other
text_or (Some text) other = Some text

-- the text of the panic of a process that makes an object where so many live, and it ever made so many: first the limit of
-- those that live
unfoldable pub full_text : List ℕ → ℕ → ℕ → Option (List ℕ)
full_text limits live made = text_or (reached limit.Objects live limits) (reached limit.Serial made limits)
