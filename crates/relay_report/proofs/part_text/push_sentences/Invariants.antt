-- what is written, and what is to come
use Rattle.std.proofs.Common.{◌≡◌, ◌++◌, drop}
use Rattle.std.specs.List.{flat_map}
use Rattle.std.specs.Option.{option_copied}
use Rattle.relay_report.specs.Multipart.{sentences_of}
use Rattle.relay_report.proofs.part_text.push_sentences.Given as goal

abbrev pub invariant-loop-ruling : goal.invariant-loop-ruling
invariant-loop-ruling l =
    l.out.items ++ flat_map (sentences_of l.message l.hop l.now (option_copied l.until)) (drop l.ruling-index l.rulings) ≡ l.initial.out.items ++ flat_map (sentences_of l.message l.hop l.now (option_copied l.until)) l.rulings
