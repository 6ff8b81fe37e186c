use Rattle.std.proofs.Common.{◌≡◌, Some, Result, Ok, Err, IfErr, sym, subst, ◌∙◌}
use Rattle.relay_disk.specs.Disks.{Images, seen_of}
use Rattle.relay_spool.specs.declared.fault.SpoolFault.{SpoolFault}
use Rattle.relay_spool.specs.declared.fault.SpoolFault.TheVariants.{Device, NotASpool, Damaged, NoMemory, NotEmpty, Full, NoSecond}
use Rattle.relay_spool.specs.declared.opening.Opening.{Opening}
use Rattle.relay_spool.specs.Opening.{Chooses}
use Rattle.relay_spool.specs.Pair.{IsDamagedAt, IsNoSpool, IsTooLarge}
use Rattle.relay_spool.specs.Spool.{RefusesToOpen}
use Rattle.relay_spool.proofs.SpoolLemmas.{same_images}
use Rattle.relay_spool.proofs.PassLemmas.{any_then, makes_more}
use Rattle.relay_spool.proofs.opening.open_disks.Goals as goal

pub read_chosen-requires-clause-chosen : goal.read_chosen-requires-clause-chosen
read_chosen-requires-clause-chosen g c = λ honest.
    let words = g.D.Disk.words in
    let old = c.args.disks.now in
    let new = c.read_second_head.new.disks in
    let keeps = c.read_second_head.ensures.keeps honest in
    let same = same_images (seen_of words old) (seen_of words new) (sym (keeps.0.reads ∙ (c.read_head.ensures.keeps honest).reads)) (sym keeps.1.reads) in
    subst (λ (images : Images). Chooses images (Some c.in-Some.choice)) same
    (c.in-Some.ensures (seen_of words old) (c.in_ok-first.ensures.head honest) (c.in_ok-second.ensures.head honest))

pub returns-in-None-clause-refused : goal.returns-in-None-clause-refused
returns-in-None-clause-refused g c = λ honest.
    c.in-None.ensures (seen_of g.D.Disk.words c.args.disks.now) (c.in_ok-first.ensures.head honest) (c.in_ok-second.ensures.head honest)

-- why images aren't opened, where honest disks hold others with the same octets
refused_is : (honest : Type 0) (fault : SpoolFault) (images others : Images) → (honest → images ≡ others) → RefusesToOpen honest images fault → RefusesToOpen honest others fault
refused_is honest Device images others same refused = refused
refused_is honest NotASpool images others same refused = λ h. subst IsNoSpool (same h) (refused h)
refused_is honest (Damaged place) images others same refused = λ h. subst (λ (pair : Images). IsDamagedAt pair place) (same h) (refused h)
refused_is honest NoMemory images others same refused = refused
refused_is honest NotEmpty images others same refused = refused
refused_is honest Full images others same refused = λ h. subst IsTooLarge (same h) (refused h)
refused_is honest NoSecond images others same refused = refused

refuses : (honest : Type 0) (result : Result Opening SpoolFault) (images others : Images) → (honest → images ≡ others) → IfErr result (RefusesToOpen honest images)
    → IfErr result (RefusesToOpen honest others)
refuses honest (Ok opening) images others same refused = tt
refuses honest (Err fault) images others same refused = refused_is honest fault images others same refused

pub returns-in-Some-clause-refused : goal.returns-in-Some-clause-refused
returns-in-Some-clause-refused g c =
    let words = g.D.Disk.words in
    let old = c.args.disks.now in
    let new = c.read_second_head.new.disks in
    refuses g.D.Disk.honest c.read_chosen.result (seen_of words new) (seen_of words old)
    (λ honest.
    let keeps = c.read_second_head.ensures.keeps honest in
    same_images (seen_of words new) (seen_of words old) (keeps.0.reads ∙ (c.read_head.ensures.keeps honest).reads) keeps.1.reads)
    c.read_chosen.ensures.refused

pub returns-in_err-second-clause-calls : goal.returns-in_err-second-clause-calls
returns-in_err-second-clause-calls g c =
    makes_more g.D.Disk.words c.from_residual-in_err-second.result c.args.disks.now.first c.read_head.new.disk c.read_second_head.new.disks.first c.in_ok-first.ensures.calls.ok
    c.read_second_head.ensures.calls

pub returns-in-None-clause-calls : goal.returns-in-None-clause-calls
returns-in-None-clause-calls g c =
    makes_more g.D.Disk.words _ c.args.disks.now.first c.read_head.new.disk c.read_second_head.new.disks.first c.in_ok-first.ensures.calls.ok
    c.read_second_head.ensures.calls

pub returns-in-Some-clause-calls : goal.returns-in-Some-clause-calls
returns-in-Some-clause-calls g c =
    makes_more g.D.Disk.words c.read_chosen.result c.args.disks.now.first c.read_head.new.disk c.read_chosen.new.disks.first c.in_ok-first.ensures.calls.ok
    (any_then g.D.Disk.words c.read_head.new.disk c.read_second_head.new.disks.first c.read_chosen.new.disks.first
    c.read_second_head.ensures.calls c.read_chosen.ensures.calls)
