use Rattle.std.proofs.Common.{◌++◌, ap, ◌∙◌}
use Rattle.ink_code.specs.Listing.{numbers_text}
use Rattle.ink_code.proofs.ListingLemmas.{both_written}
use Rattle.ink_code.proofs.lines.put_listed.Goals as goal

pub returns : goal.returns
returns c =
    both_written _ _ _ c.args.first.now c.args.list.now c.in_ok-put_numbers.ensures
    (c.in_ok-put_numbers-2.ensures ∙ ap (λ list. c.put_numbers.new.out.items ++ numbers_text list) c.as_slice.ensures)
