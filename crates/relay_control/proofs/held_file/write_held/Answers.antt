use Rattle.std.proofs.lemmas.Option.{MatchOption-at_some}
use Rattle.toml.specs.View.{table_view}
use Rattle.relay_control.proofs.HeldFileLemmas.{document_is_flat}
use Rattle.relay_control.proofs.held_file.write_held.Goals as goal

pub returns-in-Ok-clause-ok : goal.returns-in-Ok-clause-ok
returns-in-Ok-clause-ok c =
    let is = MatchOption-at_some _ _ _ c.in-Ok-Some.field-0-is c.in-Ok-Some.ensures in
    record {
      document = table_view c.in-Ok-Some.document;
      parsed = c.in-Ok.ensures.reads_back (document_is_flat (table_view c.in-Ok-Some.document) c.args.held.now is);
      is_document = is;
    }
