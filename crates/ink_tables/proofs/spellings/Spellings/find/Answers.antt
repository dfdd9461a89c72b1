use Rattle.std.proofs.Common.{ap, ◌∙◌}
use Rattle.std.specs.List.{position_from}
use Rattle.std.specs.Str.{bytes_eq}
use Rattle.ink_tables.proofs.Numbering.{found_at}
use Rattle.ink_tables.proofs.spellings.Spellings.find.Goals as goal

pub returns-in-Some : goal.returns-in-Some
returns-in-Some c = record {
  number =
      found_at (bytes_eq c.args.bytes.now) (λ v. v.items) c.self.inside.set.keys _ c.in-Some.ensures.index ∙ ap (λ keys. position_from (bytes_eq c.args.bytes.now) 0 keys) c.self.view_is;
}

pub returns-in-None : goal.returns-in-None
returns-in-None c = record {
  number =
      found_at (bytes_eq c.args.bytes.now) (λ v. v.items) c.self.inside.set.keys _ c.in-None.ensures.index ∙ ap (λ keys. position_from (bytes_eq c.args.bytes.now) 0 keys) c.self.view_is;
}
