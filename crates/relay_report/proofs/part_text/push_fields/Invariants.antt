-- what is written, and what is to come
use Rattle.std.proofs.Common.{◌≡◌, ◌++◌, drop}
use Rattle.std.specs.List.{flat_map}
use Rattle.std.specs.Option.{option_copied}
use Rattle.relay_report.specs.Multipart.{fields_of}
use Rattle.relay_report.proofs.part_text.push_fields.Given as goal

abbrev pub invariant-loop-ruling : goal.invariant-loop-ruling
invariant-loop-ruling l =
    l.out.items ++ flat_map (fields_of l.attempt.form l.message l.attempt.hop.now l.now l.attempt.date.now (option_copied l.attempt.until)) (drop l.ruling-index l.rulings) ≡ l.initial.out.items ++ flat_map (fields_of l.attempt.form l.message l.attempt.hop.now l.now l.attempt.date.now (option_copied l.attempt.until)) l.rulings
