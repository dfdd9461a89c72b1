use Rattle.std.proofs.Common.{◌≡◌, List, [], ℕ, rules}
use Rattle.ink_worker.proofs.HomeLemmas.{all_home, last_comes, last_is_leased, one_less}
use Rattle.ink_worker.proofs.tending.come_home.Goals as goal

pub home_one-requires-clause-leased : goal.home_one-requires-clause-leased
home_one-requires-clause-leased g c =
    last_is_leased g.S.Leasable.lease g.S.Leasable.journal g.S.Leasable.stands_for g.S.Workable.is_run g.S.Leasable.apart g.met.S.Workable.stays (λ f (limits : List ℕ). g.S.Workable.fits f c.args.code.now limits) c.args.seat c.args.state.now c.args.hand.now.items
    c.loop-held.state c.pop.new.self.items c.loop-held.hand.items c.in-Some.held c.in-Some.ensures.items c.loop-held.invariant c.requires.hand

pub home_one-requires-clause-run : goal.home_one-requires-clause-run
home_one-requires-clause-run g c =
    last_comes g.S.Leasable.lease g.S.Leasable.journal g.S.Leasable.stands_for g.S.Workable.is_run g.S.Leasable.apart g.met.S.Workable.stays (λ f (limits : List ℕ). g.S.Workable.fits f c.args.code.now limits) c.args.seat c.args.state.now c.args.hand.now.items
    c.loop-held.state c.pop.new.self.items c.loop-held.hand.items c.in-Some.held c.in-Some.ensures.items c.loop-held.invariant c.requires.hand

pub loop-held-preserved-in-Ready : goal.loop-held-preserved-in-Ready
loop-held-preserved-in-Ready g c =
    one_less g.S.Leasable.lease g.S.Leasable.journal g.S.Leasable.stands_for g.S.Workable.is_run g.S.Leasable.apart g.met.S.Workable.stays (λ f (limits : List ℕ). g.S.Workable.fits f c.args.code.now limits) c.args.seat c.args.state.now c.args.hand.now.items
    c.loop-held.state c.home_one.new.state c.pop.new.self.items c.loop-held.hand.items c.in-Some.held c.in-Some.ensures.items c.loop-held.invariant c.requires.hand
    c.home_one.ensures.stands c.home_one.ensures.journal c.home_one.ensures.others c.home_one.ensures.lease

pub loop-held-preserved-in-Away : goal.loop-held-preserved-in-Away
loop-held-preserved-in-Away g c =
    one_less g.S.Leasable.lease g.S.Leasable.journal g.S.Leasable.stands_for g.S.Workable.is_run g.S.Leasable.apart g.met.S.Workable.stays (λ f (limits : List ℕ). g.S.Workable.fits f c.args.code.now limits) c.args.seat c.args.state.now c.args.hand.now.items
    c.loop-held.state c.home_one.new.state c.pop.new.self.items c.loop-held.hand.items c.in-Some.held c.in-Some.ensures.items c.loop-held.invariant c.requires.hand
    c.home_one.ensures.stands c.home_one.ensures.journal c.home_one.ensures.others c.home_one.ensures.lease

pub loop-held-preserved : goal.loop-held-preserved
loop-held-preserved g c =
    one_less g.S.Leasable.lease g.S.Leasable.journal g.S.Leasable.stands_for g.S.Workable.is_run g.S.Leasable.apart g.met.S.Workable.stays (λ f (limits : List ℕ). g.S.Workable.fits f c.args.code.now limits) c.args.seat c.args.state.now c.args.hand.now.items
    c.loop-held.state c.home_one.new.state c.pop.new.self.items c.loop-held.hand.items c.in-Some.held c.in-Some.ensures.items c.loop-held.invariant c.requires.hand
    c.home_one.ensures.stands c.home_one.ensures.journal c.home_one.ensures.others c.home_one.ensures.lease

pub returns-clause-leases : goal.returns-clause-leases
returns-clause-leases g c =
    let none : c.loop-held.hand.items ≡ [] = search rules in
    all_home g.S.Leasable.lease g.S.Leasable.journal g.S.Leasable.stands_for g.S.Workable.is_run g.S.Leasable.apart g.met.S.Workable.stays (λ f (limits : List ℕ). g.S.Workable.fits f c.args.code.now limits) c.args.seat c.args.state.now c.args.hand.now.items
    c.loop-held.state c.loop-held.hand.items none c.loop-held.invariant c.requires.hand
