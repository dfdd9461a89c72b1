use Rattle.std.proofs.Common.{sym}
use Rattle.ink_types.specs.Table.{type_at}
use Rattle.ink_types.specs.Matching.{found_types}
use Rattle.ink_types.proofs.Occurrences.{none_fits, matched}
use Rattle.ink_types.proofs.types.Types.match_places.Goals as goal

pub returns-then-not-fits-clause-matched : goal.returns-then-not-fits-clause-matched
returns-then-not-fits-clause-matched c =
    let s = c.args.self.now in
    none_fits s.kinds (found_types s c.args.found.now) (type_at s c.args.pattern) (type_at s c.args.actual) (sym c.if-not-fits.ensures)

pub returns-clause-matched : goal.returns-clause-matched
returns-clause-matched c =
    let s = c.args.self.now in
    matched s.kinds (found_types s c.args.found.now) (type_at s c.args.pattern) (type_at s c.args.actual) (found_types s c.fill_places.new.found)
    (sym c.if-not-fits.ensures) c.fill_places.ensures.means
