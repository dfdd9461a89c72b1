-- A process comes home whose action is never made.
use Rattle.std.proofs.Common.{◌≡◌, ℕ, List, refl, sym, subst}
use Rattle.ink_base.specs.Actions as action
use Rattle.ink_code.specs.declared.code.Code.{Code}
use Rattle.ink_code.specs.Process.{Process}
use Rattle.ink_code.specs.Trees.{Parcel}
use Rattle.ink_law_runs.specs.CodeMachine.{code_machine}
use Rattle.ink_law_runs.proofs.Counted.{code_is_counted}
use Rattle.ink_law_turns.specs.Machines.{IsLike}
use Rattle.ink_post.specs.Asks.{ComesAs, IsComing, told_came}
use Rattle.ink_post.specs.declared.answer.Came.{Came}
use Rattle.ink_post.specs.declared.answer.Came.TheVariants as c
use Rattle.ink_post.specs.declared.post.Post.{Post}
use Rattle.ink_rounds.specs.Machine.{MakesNothing, idle_came}
use Rattle.ink_steps.specs.Answers.{action_of}
use Rattle.ink_worlds.specs.State as w
use Rattle.ink_worlds.specs.Standing.{ComesFrom}

-- it is like the one that stood there
like_before : (code : Code) (limits : List ℕ) (before p : Process) (came : w.Came Parcel) → ComesFrom (code_machine code limits) limits before came p → IsLike (code_machine code limits) p before
like_before code limits before p w.Went from = subst (λ (x : Process). IsLike (code_machine code limits) x before) (sym from) (record { number = refl; kind = refl; ran = refl })
like_before code limits before p w.GivesUp from = from
like_before code limits before p (w.Wants wish) from = (code_is_counted code limits).waits before p wish from
like_before code limits before p (w.Spent steps) from = subst (λ (x : Process). IsLike (code_machine code limits) x before) (sym from.0) (record { number = refl; kind = refl; ran = refl })

comes_idle : (code : Code) (limits : List ℕ) (before p : Process) (came : Came) → ComesAs code limits before (told_came came) p → ComesAs code limits before (told_came (idle_came came)) p
comes_idle code limits before p c.Went from = like_before code limits before p w.Went from
comes_idle code limits before p c.GivesUp from = from
comes_idle code limits before p (c.Wants wish) from = like_before code limits before p (w.Wants (action_of wish)) from
comes_idle code limits before p (c.Panics text) from = like_before code limits before p (w.Wants (action.Panic text)) from
comes_idle code limits before p (c.Spent steps) from = like_before code limits before p (w.Spent steps) from
comes_idle code limits before p c.Wrong from = from

pub idle_coming : (code : Code) (post : Post) (process seat : ℕ) (came idle : Came) (p : Process) → idle ≡ idle_came came → IsComing code post process seat came p → IsComing code post process seat idle p
idle_coming code post process seat came idle p is coming =
    subst (λ (x : Came). IsComing code post process seat x p) (sym is) (record {
      ran = coming.ran;
      lent = coming.lent;
      comes = record {
        before = coming.comes.before;
        stood = coming.comes.stood;
        within = coming.comes.within;
        from = comes_idle code post.limits coming.comes.before p came coming.comes.from;
      };
    })

makes_nothing : (came : Came) → MakesNothing (idle_came came)
makes_nothing c.Wrong = tt
makes_nothing other = tt

pub idle_makes : (came idle : Came) → idle ≡ idle_came came → MakesNothing idle
idle_makes came idle is = subst (λ (x : Came). MakesNothing x) (sym is) (makes_nothing came)
