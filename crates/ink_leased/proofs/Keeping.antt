-- What a leased world stands for, while no event is made, and when a process comes home.
use Rattle.std.proofs.Common.{◌≡◌, ℕ, Bool, false, ◌||◌, Option, None, Some, List, refl, sym, ap, ◌∙◌, subst, inl, inr}
use Rattle.std.specs.Prelude.{IfSome}
use Rattle.std.specs.Option.{is_some}
use Rattle.ink_base.specs.Actions.{SharedState}
use Rattle.ink_code.specs.declared.code.Code.{Code}
use Rattle.ink_code.specs.Trees.{Parcel}
use Rattle.ink_law_runs.specs.CodeMachine.{code_machine, opening_run}
use Rattle.ink_law_turns.specs.Turns.{Turns}
use Rattle.ink_leased.specs.Homecoming.{ComesIn, LeavesBy}
use Rattle.ink_leased.specs.Standing.{HasTurned, StandsFor, WentOut}
use Rattle.ink_post.specs.Meaning.{Ends}
use Rattle.ink_post.specs.Worlds.{StandsAfter}
use Rattle.ink_post.specs.declared.answer.End.TheVariants as end
use Rattle.ink_post.specs.declared.post.Post.{Post}
use Rattle.ink_run.specs.Sinks.{SinkState}
use Rattle.ink_run.specs.Written.{GotBy, IsWritten, KeepsWritten}
use Rattle.ink_worlds.specs.declared.halt.Halt.{Halt}

none_some : (x : ℕ) (o : Option ℕ) → o ≡ Some x → o ≡ None → ⊥
none_some x o is none = cc

-- what has not ended has no end
pub no_end : (h : Option Halt) (w : Option ℕ) → false ≡ (is_some h || is_some w) → (h ≡ None) × (w ≡ None)
no_end None None e = (refl, refl)
no_end None (Some p) e = absurd (cc)
no_end (Some h) w e = absurd (cc)

pub went_of : (code : Code) (post : Post) (before after : SinkState) → IsWritten code post before after → WentOut code post before after
went_of code post before after w = record {
  run = w.stands.ahead.turned;
  turns = w.stands.ahead.turns;
  got = subst (λ (out : List ℕ). GotBy code post.limits post.journal.entries out post.halt before after) (ap (λ (s : SharedState Parcel). s.output) (w.stands.shared ∙ w.stands.ahead.shared)) w.got;
}

-- what a world tells of its journal and of its end
abbrev Frame : Type 0
Frame = List ℕ × List ℕ × Option Halt

abbrev frame_of : Post → Frame
frame_of post = (post.limits, post.journal.entries, post.halt)

-- no event was made, and nothing ended the run
pub record Keeps (code : Code) (old new : Post) (before after : SinkState) : Type 0 where
  pub limits : new.limits ≡ old.limits
  pub journal : new.journal.entries ≡ old.journal.entries
  pub halt : new.halt ≡ old.halt
  pub wrong : new.wrong ≡ old.wrong
  pub sink : after ≡ before
  pub stands : (output : List ℕ) → StandsAfter code old output → StandsAfter code new output

module _ (code : Code) (old new : Post) (before after : SinkState) where
  abbrev same_frame : new.limits ≡ old.limits → new.journal.entries ≡ old.journal.entries → new.halt ≡ old.halt → frame_of old ≡ frame_of new
  same_frame limits journal halt = λ k. (sym limits k, sym journal k, sym halt k)

  got_as : (output : List ℕ) (origin : SinkState) → frame_of old ≡ frame_of new → after ≡ before → GotBy code old.limits old.journal.entries output old.halt origin before → GotBy code new.limits new.journal.entries output new.halt origin after
  got_as output origin same sink got =
      subst (λ (x : SinkState). GotBy code new.limits new.journal.entries output new.halt origin x) (sym sink)
      (subst (λ (f : Frame). GotBy code f.0 f.1 output f.2 origin before) same got)

  turned_as : frame_of old ≡ frame_of new → HasTurned code old.limits old.journal.entries → HasTurned code new.limits new.journal.entries
  turned_as same turned = subst (λ (f : Frame). HasTurned code f.0 f.1) same turned

  went_as : (origin : SinkState) → frame_of old ≡ frame_of new → after ≡ before → WentOut code old origin before → WentOut code new origin after
  went_as origin same sink went = record {
    run = went.run;
    turns = subst (λ (f : Frame). Turns (code_machine code f.0) f.0 (opening_run code) f.1 went.run) same went.turns;
    got = got_as went.run.shared.output origin same sink went.got;
  }

  pub kept_written : Keeps code old new before after → KeepsWritten code old new before after
  kept_written keeps origin written = record {
    output = written.output;
    stands = keeps.stands written.output written.stands;
    got = got_as written.output origin (same_frame keeps.limits keeps.journal keeps.halt) keeps.sink written.got;
  }

  ends_as : frame_of old ≡ frame_of new → new.wrong ≡ old.wrong → IfSome old.wrong (λ process. Ends code old.limits old.journal.entries (end.Wrong process)) → IfSome new.wrong (λ process. Ends code new.limits new.journal.entries (end.Wrong process))
  ends_as same wrong ends =
      subst (λ (o : Option ℕ). IfSome o (λ process. Ends code new.limits new.journal.entries (end.Wrong process))) (sym wrong)
      (subst (λ (f : Frame). IfSome old.wrong (λ process. Ends code f.0 f.1 (end.Wrong process))) same ends)

  module _ (began : Post) (first : SinkState) where
    -- no event was made
    pub kept_for : (is_over : Bool) → Keeps code old new before after → StandsFor code began first old before is_over → StandsFor code began first new after is_over
    kept_for is_over keeps s =
        let same = same_frame keeps.limits keeps.journal keeps.halt in record {
          limits = keeps.limits ∙ s.limits;
          turned = turned_as same s.turned;
          stands = λ right. let stood = s.stands (sym keeps.wrong ∙ right) in (stood.0, keeps.stands stood.0 stood.1);
          written = λ right origin written. kept_written keeps origin (s.written (sym keeps.wrong ∙ right) origin written);
          went = λ origin written. went_as origin same keeps.sink (s.went origin written);
          wrong = ends_as same keeps.wrong s.wrong;
          ended = elim s.ended [ inl calm ↦ inl (keeps.halt ∙ calm) | inr right ↦ inr (keeps.wrong ∙ right) ];
          over = s.over ∙ (ap (λ (h : Option Halt). is_some h || is_some old.wrong) (sym keeps.halt) ∙ ap (λ (o : Option ℕ). is_some new.halt || is_some o) (sym keeps.wrong));
        }

    module _ (process : ℕ) (is_over : Bool) (comes : ComesIn code process old new before after is_over) (s : StandsFor code began first old before false) where
      abbrev calm : (old.halt ≡ None) × (old.wrong ≡ None)
      calm = no_end old.halt old.wrong s.over

      right_for : new.wrong ≡ None → LeavesBy code old new before after None → StandsFor code began first new after is_over
      right_for right leaves = record {
        limits = comes.limits ∙ s.limits;
        turned = record { run = leaves.0.1.ahead.turned; turns = leaves.0.1.ahead.turns };
        stands = λ _. leaves.0;
        written = λ _ origin written. leaves.1 origin (s.written calm.1 origin written);
        went = λ origin written. went_of code new origin after (leaves.1 origin (s.written calm.1 origin written));
        wrong = subst (λ (o : Option ℕ). IfSome o (λ other. Ends code new.limits new.journal.entries (end.Wrong other))) (sym right) tt;
        ended = inr right;
        over = comes.over;
      }

      wrong_for : (other : ℕ) → new.wrong ≡ Some other → LeavesBy code old new before after (Some other) → StandsFor code began first new after is_over
      wrong_for other is leaves =
          let same = same_frame comes.limits leaves.1 (leaves.2 ∙ sym calm.0) in record {
            limits = comes.limits ∙ s.limits;
            turned = turned_as same s.turned;
            stands = λ right. absurd (none_some other new.wrong is right);
            written = λ right. absurd (none_some other new.wrong is right);
            went = λ origin written. went_as origin same leaves.3 (s.went origin written);
            wrong = subst (λ (o : Option ℕ). IfSome o (λ one. Ends code new.limits new.journal.entries (end.Wrong one))) (sym is) leaves.0;
            ended = inl leaves.2;
            over = comes.over;
          }

      by_wrong : (o : Option ℕ) → new.wrong ≡ o → LeavesBy code old new before after o → StandsFor code began first new after is_over
      by_wrong None is leaves = right_for is leaves
      by_wrong (Some other) is leaves = wrong_for other is leaves

      -- a process came home
      pub comes_for : StandsFor code began first new after is_over
      comes_for = by_wrong new.wrong refl comes.leaves
