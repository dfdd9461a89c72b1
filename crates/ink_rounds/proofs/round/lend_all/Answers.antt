use Rattle.std.proofs.Common.{◌++◌, ◌∷◌, [], List, false, length, refl, sym, ap, ◌∙◌, subst, arith}
use Rattle.ink_proc.specs.State.{state_of}
use Rattle.ink_rounds.proofs.Lending.{Lending, gone_pushed, lending_same, lends_all, lends_more, lends_none, lends_some, ready_next}
use Rattle.ink_rounds.proofs.LentLemmas.{has_more, lent_written, same_has, same_written}
use Rattle.ink_rounds.proofs.round.lend_all.Goals as goal
use Rattle.ink_rounds.specs.Lent.{AreAway, HasLent}
use Rattle.ink_rounds.specs.Machine.{Gone, LendsAll, gone_of}
use Rattle.ink_rounds.specs.declared.lent.Lent.{Lent as OneLent}
use Rattle.ink_run.specs.Sinks.{sink_of}

pub loop-number-init : goal.loop-number-init
loop-number-init g c = record {
  lends = λ code stands. record { stands = stands; each = subst (λ (xs : List OneLent). AreAway code c.args.world.now.post xs) (sym c.requires.none) tt };
  all = lends_none c.args.world.now.post c.args.lent.now.items c.requires.none;
  limits = refl;
  written = λ code first written. written;
}

pub returns-then-is_err-clause-lends : goal.returns-then-is_err-clause-lends
returns-then-is_err-clause-lends g c = λ code stands.
    subst (λ (xs : List OneLent). HasLent code c.loop-number.world.post xs) (sym c.reserve.ensures.items) (c.loop-number.invariant.lends code stands)

pub returns-then-is_err-clause-all : goal.returns-then-is_err-clause-all
returns-then-is_err-clause-all g c =
    subst (λ (xs : List OneLent). LendsAll false c.args.world.now.post c.loop-number.world.post (gone_of xs)) (sym c.reserve.ensures.items)
    (lends_some c.args.world.now.post c.loop-number.world.post (gone_of c.loop-number.lent.items) c.loop-number.invariant.all)

pub returns-in-Err-clause-lends : goal.returns-in-Err-clause-lends
returns-in-Err-clause-lends g c = λ code stands.
    let has = c.loop-number.invariant.lends code stands in
    subst (λ (xs : List OneLent). HasLent code c.check_out.new.self.post xs) (sym c.reserve.ensures.items)
    (same_has code c.loop-number.world.post c.check_out.new.self.post c.check_out.ensures.limits c.in-Err.ensures.same (c.check_out.ensures.stands code has.stands) c.loop-number.lent.items has)

pub returns-in-Err-clause-all : goal.returns-in-Err-clause-all
returns-in-Err-clause-all g c =
    subst (λ (xs : List OneLent). LendsAll false c.args.world.now.post c.check_out.new.self.post (gone_of xs)) (sym c.reserve.ensures.items)
    (lends_some c.args.world.now.post c.check_out.new.self.post (gone_of c.loop-number.lent.items)
    (lending_same c.args.world.now.post c.loop-number.world.post c.check_out.new.self.post (gone_of c.loop-number.lent.items) c.in-Err.ensures.same c.loop-number.invariant.all))

pub returns-in-Err-clause-written : goal.returns-in-Err-clause-written
returns-in-Err-clause-written g c = λ code first written.
    same_written code c.loop-number.world.post c.check_out.new.self.post (sink_of g.K.Sink.contents g.K.Sink.faults c.loop-number.world.sink) (sink_of g.K.Sink.contents g.K.Sink.faults c.check_out.new.self.sink)
    c.check_out.ensures.limits c.in-Err.ensures.same (ap (sink_of g.K.Sink.contents g.K.Sink.faults) c.check_out.ensures.sink) first (c.loop-number.invariant.written code first written)

pub loop-number-preserved : goal.loop-number-preserved
loop-number-preserved g c =
    let pushed = c.push_reserved.ensures.items ∙ ap (λ (xs : List OneLent). xs ++ c.of.result ∷ []) c.reserve.ensures.items in
    record {
      lends = λ code stands.
          let has = c.loop-number.invariant.lends code stands in
          subst (λ (xs : List OneLent). HasLent code c.check_out.new.self.post xs) (sym pushed)
          (has_more code c.in-Some.number (state_of c.in-Ok.proc) c.loop-number.world.post c.check_out.new.self.post c.in-Ok.ensures.lends (c.check_out.ensures.others code) (c.check_out.ensures.stands code has.stands) (c.in-Ok.ensures.lent code has.stands)
          c.of.result c.of.ensures.number (ap state_of c.of.ensures.process) c.loop-number.lent.items has);
      all =
          subst (λ (gone : Gone). Lending c.args.world.now.post c.check_out.new.self.post gone)
          (sym (gone_pushed c.push_reserved.new.self.items c.loop-number.lent.items c.of.result c.in-Some.number (state_of c.in-Ok.proc) pushed c.of.ensures.number (ap state_of c.of.ensures.process)))
          (lends_more c.in-Some.number (state_of c.in-Ok.proc) c.loop-number.world.post c.check_out.new.self.post c.in-Ok.ensures.lends c.args.world.now.post (gone_of c.loop-number.lent.items) (sym c.in-Some.ensures) c.loop-number.invariant.all);
      limits = c.check_out.ensures.limits ∙ c.loop-number.invariant.limits;
      written = λ code first written.
          lent_written code c.in-Some.number (state_of c.in-Ok.proc) c.loop-number.world.post c.check_out.new.self.post c.in-Ok.ensures.lends c.check_out.ensures.limits
          (sink_of g.K.Sink.contents g.K.Sink.faults c.loop-number.world.sink) (sink_of g.K.Sink.contents g.K.Sink.faults c.check_out.new.self.sink)
          (ap (sink_of g.K.Sink.contents g.K.Sink.faults) c.check_out.ensures.sink) first (c.loop-number.invariant.written code first written);
    }

pub loop-number-smaller : goal.loop-number-smaller
loop-number-smaller g c =
    let less = ap length (ready_next c.in-Some.number (state_of c.in-Ok.proc) c.loop-number.world.post c.check_out.new.self.post c.in-Ok.ensures.lends (sym c.in-Some.ensures)) in
    omega (arith, less)

pub returns-clause-all : goal.returns-clause-all
returns-clause-all g c =
    lends_all c.args.world.now.post c.loop-number.world.post (gone_of c.loop-number.lent.items) c.loop-number.invariant.all (sym c.in_default.ensures)
