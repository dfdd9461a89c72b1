use Rattle.ink_law_categories.proofs.Fitting.{well_formed}
use Rattle.ink_law_categories.proofs.well_formed.well_formed_trees.Goals as goal

pub returns : goal.returns
returns c = record { well_formed = well_formed }
