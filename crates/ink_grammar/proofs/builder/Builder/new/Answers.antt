use Rattle.ink_grammar.proofs.Grown.{no_values_at}
use Rattle.ink_grammar.proofs.builder.Builder.new.Goals as goal

pub returns : goal.returns
returns c = no_values_at c.new.result.items c.new-2.result.items c.new-2.ensures.items
