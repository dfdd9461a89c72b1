-- What the top call promises, from what came of its words, how that was told, and what became of the journal's file.
use Rattle.ink_top.specs.Headline.{TopCall, KeepsModule, OrdersMessages, IsPromised}
use Rattle.ink_top.proofs.Ending.{Went}
use Rattle.ink_top.proofs.Clauses.{refused_module, judged_module, writes_print, writes_module, writes_listing, refuses_words}
use Rattle.ink_top.proofs.Outcomes.{means_cause, keeps_other_files, keeps_unnamed, records_journal, shows_write_faults, shows_read_faults}
use Rattle.ink_top.proofs.Output.{shows_output_faults}
use Rattle.ink_top.proofs.Told.{tells_cause}

pub promised : (call : TopCall) → Went call → KeepsModule call → OrdersMessages call → IsPromised call
promised call went same order = record {
  refused_module = refused_module call went;
  judged = judged_module call went;
  print = writes_print call went;
  same_module = same;
  listing = writes_listing call went;
  made = writes_module call went;
  usage = refuses_words call went;
  cause = means_cause call went;
  files = keeps_other_files call went;
  unnamed = keeps_unnamed call went;
  journal = records_journal call went;
  write_faults = shows_write_faults call went;
  output_faults = shows_output_faults call went;
  read_faults = shows_read_faults call went;
  told = tells_cause call went;
  order = order;
}
