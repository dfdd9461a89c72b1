use Rattle.std.proofs.Common.{rules, ◌≡◌, All, IfSome, Option, vec_len, sym, subst, Vec, Global}
use Rattle.std.proofs.lemmas.List.Elements.{All-pop, All-push}
use Rattle.crossbeam_queue.specs.SegTies.{IsSegPassOf}
use Rattle.ink_deck.specs.declared.sides.OwnSide.{OwnSide}
use Rattle.ink_deck.specs.declared.sides.FarSide.{FarSide}
use Rattle.ink_deck.specs.declared.sides.DeckSeat.{DeckSeat}
use Rattle.ink_deck.proofs.deck.seats.Goals as goal

pub loop-preserved : goal.loop-preserved
loop-preserved c = let i = c.loop.invariant in
    let own_ok = λ (s : OwnSide). IsSegPassOf c.args.common.now s.entry in let far_ok = λ (f : Vec FarSide Global). vec_len f ≡ c.args.workers in
    let seat_ok = λ (s : DeckSeat). IsSegPassOf c.args.common.now s.own.entry × (vec_len s.far ≡ c.args.workers) in
    let p = All-pop own_ok c.loop.owns.items c.pop.new.self.items c.pop.result c.pop.ensures.items i.3 in
    let q = All-pop far_ok c.loop.fars.items c.pop-in-loop.new.self.items c.pop-in-loop.result c.pop-in-loop.ensures.items i.4 in
    let mine : own_ok c.in-Some.own = subst (λ (o : Option OwnSide). IfSome o own_ok) c.in-Some.is p.1 in
    let theirs : far_ok c.in-Some-pop.far = subst (λ (o : Option (Vec FarSide Global)). IfSome o far_ok) c.in-Some-pop.is q.1 in (
      search rules,
      search rules,
      search rules,
      p.0,
      q.0,
      subst (All seat_ok) (sym c.in_ok-push.ensures.items) (All-push seat_ok c.loop.seats.items record { own = c.in-Some.own; far = c.in-Some-pop.far } i.5 (mine, theirs)),
    )
