-- What was written stood there, synced, before it was cut off again.
use Rattle.std.proofs.Common.{◌≤◌, length, ◌∙◌, sym, subst}
use Rattle.relay_disk.specs.Device.{Rises}
use Rattle.relay_room.proofs.TimeLemmas.{lasts_on, lasts_twice, begun, held_since}
use Rattle.relay_room.proofs.ballast.test_room.Goals as goal

pub returns-clause-held : goal.returns-clause-held
returns-clause-held g c = λ honest.
    let words = g.D.Disk.words in
    let disk = c.args.disk.now in
    let first = c.in_ok-give_up.ensures.time honest in
    let written = lasts_twice words disk c.give_up.new.disk c.write_zeros-room.new.disk first (c.write_zeros-room.ensures.time honest) in
    let synced = lasts_on words disk c.write_zeros-room.new.disk c.sync.new.self written (c.sync.ensures.stop honest).time in
    let cut = lasts_on words c.sync.new.self c.sync.new.self c.cut.new.self (begun words c.sync.new.self) (c.cut.ensures.stop honest).time in
    let ended = lasts_on words c.sync.new.self c.cut.new.self c.sync-2.new.self cut (c.sync-2.ensures.stop honest).time in
    held_since words disk c.sync.new.self c.sync-2.new.self c.write_zeros-room.result synced ended
    (subst (λ seen. c.write_zeros-room.result ≤ length seen) (sym (c.sync.ensures.seen honest)) (c.write_zeros-room.ensures.there honest))
    (g.met.D.Disk.sees_now honest) (g.met.D.Disk.counts_now honest)

pub returns-clause-whole : goal.returns-clause-whole
returns-clause-whole g c = λ all.
    c.in_ok-sync-2.ensures.failures.ok ∙ c.in_ok-cut.ensures.failures.ok ∙ c.in_ok-sync.ensures.failures.ok
    ∙ c.write_zeros-room.ensures.ok all ∙ c.in_ok-give_up.ensures.failures.ok

pub returns-clause-part : goal.returns-clause-part
returns-clause-part g c = λ less.
    let failed = g.D.Disk.words.failed in
    let after = c.in_ok-sync-2.ensures.failures.ok ∙ c.in_ok-cut.ensures.failures.ok ∙ c.in_ok-sync.ensures.failures.ok in
    subst (λ before. Rises before (failed c.sync-2.new.self)) c.in_ok-give_up.ensures.failures.ok
    (subst (Rises (failed c.give_up.new.disk)) (sym after) (c.write_zeros-room.ensures.failed less))
