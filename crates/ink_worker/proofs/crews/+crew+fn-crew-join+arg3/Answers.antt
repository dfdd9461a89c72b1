use Rattle.std.proofs.Common.{◌<◌, ◌+◌, ◌∙◌, IfSome, Option, subst, rules, vec_len}
use Rattle.std.proofs.lemmas.List.Elements.{All-pop}
use Rattle.crossbeam_queue.specs.SegTies.{IsSegPassOf}
use Rattle.ink_deck.specs.declared.sides.DeckSeat.{DeckSeat}
use Rattle.ink_lease.specs.Rule.{view}
use Rattle.ink_worker.proofs.crews.+crew+fn-crew-join+arg3.Goals as goal

pub join-a-requires-after_bounds : goal.join-a-requires-after_bounds
join-a-requires-after_bounds g t c κs within =
    let parts = All-pop (λ (s : DeckSeat). IsSegPassOf c.args.deck.now.common s.own.entry) c.args.seats.items c.pop.new.self.items c.pop.result c.pop.ensures.items c.requires.seats in
    let own : IsSegPassOf c.args.deck.now.common c.in-Some.seat.own.entry = subst (λ (o : Option DeckSeat). IfSome o (λ (s : DeckSeat). IsSegPassOf c.args.deck.now.common s.own.entry)) c.in-Some.is parts.1 in
    let enough : (view c.in-Ok.others.seat).to < (view c.in-Ok.others.seat).from + vec_len c.pop.new.self = search rules in (
      (c.in-Ok.ensures.first.0.0 ∙ c.requires.own, c.in-Ok.ensures.first.1, search rules, (c.requires.code.0, search rules, c.requires.code.2), own),
      (
        search rules,
        (
          search rules,
          (
            search rules,
            (
              search rules,
              (
                search rules,
                (
                  search rules,
                  (
                    search rules,
                    (
                      (search rules, search rules, search rules, search rules, search rules, search rules, c.in-Ok.ensures.others.0 ∙ c.requires.own, c.in-Ok.ensures.others.1, search rules, (c.requires.code.0, search rules, c.requires.code.2), parts.0, enough),
                      search rules,
                    ),
                  ),
                ),
              ),
            ),
          ),
        ),
      ),
    )
