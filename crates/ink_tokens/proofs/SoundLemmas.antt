-- No place that is kept is behind the place that was read up to.
use Rattle.std.proofs.Common.{◌≡◌, ℕ, ◌+◌, ◌<◌, ◌≤◌, Bool, true, false, cond, nat_lt, List, [], ◌∷◌, length, Option, None, Some, refl, arith, rules, subst}
use Rattle.std.specs.Prelude.{slice_range}
use Rattle.std.proofs.lemmas.List.Elements.{All-push}
use Rattle.ink_base.specs.declared.token.TokenKind.{TokenKind}
use Rattle.ink_base.specs.declared.refusal.Rule.{Rule}
use Rattle.ink_base.specs.declared.refusal.Rule.TheVariants.{IntTooWide, UnendedText}
use Rattle.ink_tokens.specs.declared.reading.Level.{Level}
use Rattle.ink_tokens.specs.declared.reading.Level.TheVariants.{Outside, Text, Embedded, Braces}
use Rattle.ink_tokens.specs.declared.reading.Change.{Change}
use Rattle.ink_tokens.specs.declared.reading.Change.TheVariants.{Stay, Enter, Leave}
use Rattle.ink_tokens.specs.declared.reading.Read.{Read}
use Rattle.ink_tokens.specs.declared.fault.Fault.{Fault}
use Rattle.ink_tokens.specs.Fault.{first_fault, end_fault, wide_behind, is_wide_integer}
use Rattle.ink_tokens.specs.Nest.{Nest, opened_behind, left, changed}
use Rattle.ink_tokens.specs.Scan.{Scan, start, behind_gap, behind_token, token_at}
use Rattle.ink_tokens.specs.Ending.{IsSound}
use Rattle.ink_tokens.specs.Lexes.{IsInside}

-- the outermost open quote stands before the place
opened_behind-le : (level : Level) (opened at : ℕ) → opened ≤ at → opened_behind level opened at ≤ at
unfolding opened_behind
opened_behind-le Outside opened at le = omega arith
opened_behind-le (Text quote) opened at le = le
opened_behind-le Embedded opened at le = le
opened_behind-le Braces opened at le = le

-- so it does one level further out
left-le : (outer : List Level) (opened at : ℕ) → opened ≤ at → (left outer opened).opened ≤ at
left-le [] opened at le = le
left-le (level ∷ outer) opened at le = le

-- and behind any token
changed-le : (nest : Nest) (change : Change) (at : ℕ) → nest.opened ≤ at → (changed nest change at).opened ≤ at
unfolding changed
changed-le nest Stay at le = le
changed-le nest (Enter inner) at le = opened_behind-le nest.level nest.opened at le
changed-le nest Leave at le = left-le nest.outer nest.opened at le

-- a place that is kept now is this one
chosen-le : (is_wide : Bool) (at first : ℕ) → cond is_wide (Some at) None ≡ Some first → first ≤ at
chosen-le true at first is = let e : at ≡ first = cc in omega arith
chosen-le false at first is = cc

-- the first integer that doesn't fit stands before the place
wide_behind-le : (wide : Option ℕ) (at : ℕ) (kind : TokenKind) (text : List ℕ) →
    ((first : ℕ) → wide ≡ Some first → first ≤ at) → (first : ℕ) → wide_behind wide at kind text ≡ Some first → first ≤ at
unfolding wide_behind
wide_behind-le (Some old) at kind text le first is = le first is
wide_behind-le None at kind text le first is = chosen-le (is_wide_integer kind text) at first is

-- one of two faults
abbrev fault_between : Bool → Rule → ℕ → ℕ → Fault
fault_between is_before rule byte first =
    cond is_before (record { rule = rule; byte = byte }) (record { rule = IntTooWide; byte = first })

-- at the first byte
pub IsSound-start : (source : List ℕ) → IsSound source start
IsSound-start source = record {
  inside = omega arith;
  wide = λ first is. cc;
  opened = omega arith;
  each = search rules;
}

-- behind a blank or a comment
pub IsSound-gap : (source : List ℕ) (scan : Scan) (length' : ℕ) (line_feed : Bool) → IsSound source scan →
    scan.at + length' ≤ length source → IsSound source (behind_gap scan length' line_feed)
IsSound-gap source scan length' line_feed sound inside = record {
  inside = inside;
  wide = λ first is. omega (arith, sound.wide first is);
  opened = omega (arith, sound.opened);
  each = sound.each;
}

-- behind a token
pub IsSound-token : (source : List ℕ) (scan : Scan) (read : Read) → IsSound source scan → 0 < read.length →
    scan.at + read.length ≤ length source → IsSound source (behind_token source scan read)
IsSound-token source scan read sound some inside = record {
  inside = inside;
  wide = λ first is.
      omega (arith, wide_behind-le scan.wide scan.at read.kind (slice_range source scan.at (scan.at + read.length)) sound.wide first is);
  opened = omega (arith, changed-le scan.nest read.change scan.at sound.opened);
  each = All-push (IsInside source) scan.tokens (token_at scan read) sound.each (omega arith, inside);
}

-- either of two faults is not behind the place
chosen_fault-le : (is_before : Bool) (rule : Rule) (byte first at : ℕ) → byte ≤ at → first ≤ at →
    (fault_between is_before rule byte first).byte ≤ at
chosen_fault-le true rule byte first at byte_le first_le = byte_le
chosen_fault-le false rule byte first at byte_le first_le = first_le

-- a fault that is told is not behind the place either
pub first_fault-le : (wide : Option ℕ) (rule : Rule) (byte at : ℕ) → ((first : ℕ) → wide ≡ Some first → first ≤ at) →
    byte ≤ at → (first_fault wide rule byte).byte ≤ at
unfolding first_fault
first_fault-le None rule byte at le byte_le = byte_le
first_fault-le (Some first) rule byte at le byte_le =
    chosen_fault-le (nat_lt byte first) rule byte first at byte_le (le first refl)

-- nor is what is wrong at the end
pub end_fault-le : (level : Level) (wide : Option ℕ) (opened at : ℕ) (fault : Fault) →
    ((first : ℕ) → wide ≡ Some first → first ≤ at) → opened ≤ at → end_fault level wide opened ≡ Some fault → fault.byte ≤ at
unfolding end_fault
end_fault-le Outside None opened at fault le opened_le is = cc
end_fault-le Outside (Some first) opened at fault le opened_le is =
    let e : record { rule = IntTooWide; byte = first } ≡ fault = cc in subst (λ f. f.byte ≤ at) e (le first refl)
end_fault-le (Text quote) wide opened at fault le opened_le is =
    let e : first_fault wide UnendedText opened ≡ fault = cc in
    subst (λ f. f.byte ≤ at) e (first_fault-le wide UnendedText opened at le opened_le)
end_fault-le Embedded wide opened at fault le opened_le is =
    let e : first_fault wide UnendedText opened ≡ fault = cc in
    subst (λ f. f.byte ≤ at) e (first_fault-le wide UnendedText opened at le opened_le)
end_fault-le Braces wide opened at fault le opened_le is =
    let e : first_fault wide UnendedText opened ≡ fault = cc in
    subst (λ f. f.byte ≤ at) e (first_fault-le wide UnendedText opened at le opened_le)
