-- Two files that are read one behind the other.
use Rattle.std.proofs.Common.{◌≡◌, ℕ, List, Ok, inl, inr, ap, subst, ◌∙◌}
use Rattle.ink_words.specs.Commands.{Word, Asked}
use Rattle.ink_code.specs.declared.code.Code.{Code}
use Rattle.ink_causes.specs.Devices.{Change, FilesState, SinkState, KeepsFiles}
use Rattle.ink_causes.specs.declared.cause.Cause.{Cause}
use Rattle.ink_commands.specs.Orders.{Deed, CodeOfFile, Came, FromFile, ReplayedEntries}
use Rattle.ink_commands.specs.Sources.{most_read, most_journal}

same_files : (before middle : FilesState) → middle.held ≡ before.held → middle.reads ≡ before.reads → middle.writes ≡ before.writes → middle ≡ before
same_files before middle held reads writes =
    ap (λ h. let s : FilesState = record { held = h; reads = middle.reads; writes = middle.writes } in s) held
    ∙ ap (λ r. let s : FilesState = record { held = before.held; reads = r; writes = middle.writes } in s) reads
    ∙ ap (λ w. let s : FilesState = record { held = before.held; reads = before.reads; writes = w } in s) writes

-- what was done behind a journal's file, from these files
abbrev pub deed_from : Cause → Word → FilesState → FilesState → List ℕ → List ℕ → Change SinkState → Deed
deed_from cause name before after journal report out = record {
  cause = cause;
  name = name;
  files = record { before = before; after = after };
  journal = journal;
  report = report;
  out = out;
}

-- a code was made of one file, and then replayed by another
pub replays : (cause : Cause) (file journal : Word) (before middle after : FilesState) (entries report : List ℕ) (out : Change SinkState)
    (limits : List ℕ) (code : Code) → CodeOfFile (Ok code) file limits (record { before = before; after = middle })
    → KeepsFiles (record { before = before; after = middle })
    → FromFile journal (most_journal limits) (ReplayedEntries code limits (deed_from cause journal middle after entries report out)) (deed_from cause journal middle after entries report out)
    → FromFile file (most_read limits) (Came (Asked.Replays file journal limits) (deed_from cause journal before after entries report out)) (deed_from cause journal before after entries report out)
replays cause file journal before middle after entries report out limits code made kept did =
    let same : middle ≡ before = same_files before middle kept.held made.2 kept.writes in
    let here : FromFile journal (most_journal limits) (ReplayedEntries code limits (deed_from cause journal before after entries report out)) (deed_from cause journal before after entries report out) =
    subst (λ (m : FilesState). FromFile journal (most_journal limits) (ReplayedEntries code limits (deed_from cause journal m after entries report out)) (deed_from cause journal m after entries report out)) same did in
    inl (made.0, made.1, inr (code, made.3, here))
