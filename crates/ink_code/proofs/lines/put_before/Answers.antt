use Rattle.std.proofs.Common.{◌++◌, ap, ◌∙◌}
use Rattle.ink_code.specs.Listing.{numbers_text}
use Rattle.ink_code.proofs.ListingLemmas.{one_more_written}
use Rattle.ink_code.proofs.lines.put_before.Goals as goal

pub returns : goal.returns
returns c =
    one_more_written _ _ _ c.args.list.now c.args.last
    (c.in_ok-put_numbers.ensures ∙ ap (λ list. c.args.out.now.items ++ numbers_text list) c.as_slice.ensures) c.in_ok-put_number.ensures
