use Rattle.std.proofs.Common.{◌-◌, length}
use Rattle.ink_tokens.specs.Scan.{scan_of}
use Rattle.ink_tokens.specs.Lexes.{Lexes}
use Rattle.ink_tokens.specs.Ending.{IsSound}
use Rattle.ink_tokens.proofs.lexing.tokens.Given as goal

-- what was read is blanks, comments and these tokens
abbrev pub invariant-loop-scanner : goal.invariant-loop-scanner
invariant-loop-scanner l = record {
  lexes : Lexes l.source (scan_of l.scanner);
  sound : IsSound l.source (scan_of l.scanner);
}

abbrev pub decreases-loop-scanner : goal.decreases-loop-scanner
decreases-loop-scanner l = length l.source - l.scanner.at
