use Rattle.std.proofs.Common.{◌≡◌, false, true}
use Rattle.ink_words.proofs.WrongWords.{asks_none, asks_one}
use Rattle.ink_words.proofs.order.needs_workers.Goals as goal

pub returns-in-Err : goal.returns-in-Err
returns-in-Err c = (
  λ told. let no : false ≡ true = told in absurd cc,
  λ asks. absurd (asks_none c.args.words.now c.in-Err._number c.in-Err.ensures.wrong asks),
)

pub returns-in-Ok : goal.returns-in-Ok
returns-in-Ok c = (
  λ told. (_, c.in-Ok.ensures.order, c.is_free_run.ensures.0 told),
  λ asks. c.is_free_run.ensures.1 (asks_one c.args.words.now _ c.in-Ok.ensures.only asks),
)
