-- What the phases behind the reading of a source may answer.
use Rattle.std.specs.Prelude.{ℕ, ◌≤◌}
use Rattle.ink_base.specs.Refusal.{rule_code}
use Rattle.ink_base.specs.declared.refusal.Refusal.{Refusal}
use Rattle.ink_base.specs.declared.refusal.JudgeFault.{JudgeFault}
use Rattle.ink_base.specs.declared.refusal.JudgeFault.TheVariants as fault

-- the code of the first rule behind the reading, that of an unknown name
abbrev pub first_code : ℕ
first_code = 10

-- the rule is one of a phase behind the reading
abbrev pub IsLater : Refusal → Type 0
IsLater refusal = first_code ≤ rule_code refusal.rule

-- a refusal by one of these rules, or want of memory
abbrev pub IsLaterFault : JudgeFault → Type 0
IsLaterFault (fault.Refused refusal) = IsLater refusal
IsLaterFault fault.OutOfMemory = Unit {0}
