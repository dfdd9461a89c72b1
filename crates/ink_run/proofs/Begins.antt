-- A world as it begins is ahead of its empty journal, and nothing was written.
use Rattle.std.proofs.Common.{◌≡◌, ℕ, zero, suc, Option, Some, List, [], ◌∷◌, refl, ap, sym, ◌∙◌, subst}
use Rattle.ink_base.specs.Numbered.{numbered}
use Rattle.ink_code.specs.declared.code.Code.{Code}
use Rattle.ink_code.specs.Process.{Process}
use Rattle.ink_law_runs.specs.CodeMachine.{code_machine, opening_run}
use Rattle.ink_law_turns.proofs.Numbering.{none_some, numbered-suc}
use Rattle.ink_law_worlds.specs.Coming.{StandsForCode}
use Rattle.ink_post.specs.Worlds.{CodeState, world_of}
use Rattle.ink_post.specs.declared.post.Post.{Post}
use Rattle.ink_run.specs.Sinks.{SinkState}
use Rattle.ink_run.specs.Written.{GotBy, IsWritten}
use Rattle.ink_run.proofs.Written.{gets_nothing}
use Rattle.ink_worlds.proofs.Stands.{world_begins}
use Rattle.ink_worlds.specs.State.{first_state}
use Rattle.ink_worlds.specs.declared.halt.Halt.{Halt}

first_ran : (first : Process) (process : ℕ) (q : Process) → first.ran ≡ 0 → numbered (first ∷ []) process ≡ Some q → q.ran ≡ 0
first_ran first zero q none is = absurd (cc)
first_ran first (suc zero) q none is = let same : first ≡ q = cc in ap (λ (p : Process). p.ran) (sym same) ∙ none
first_ran first (suc (suc k)) q none is = absurd (none_some q (sym (numbered-suc (first ∷ []) (suc k)) ∙ is))

pub begins : (code : Code) (limits : List ℕ) → StandsForCode code limits (first_state (opening_run code))
begins code limits = world_begins (code_machine code limits) limits (opening_run code) refl (λ process q is. first_ran _ process q refl is)

pub begins_written : (code : Code) (post : Post) (sink : SinkState) → world_of post [] ≡ first_state (opening_run code) → IsWritten code post sink sink
begins_written code post sink is = record {
  output = [];
  stands = subst (λ (s : CodeState). StandsForCode code post.limits s) (sym is) (begins code post.limits);
  got = subst (λ (h : Option Halt). GotBy code post.limits post.journal.entries [] h sink sink) (sym (ap (λ (s : CodeState). s.halt) is)) (gets_nothing sink);
}
