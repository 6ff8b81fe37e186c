use Rattle.std.proofs.Common.{◌≡◌, ◌+◌, ℕ, List, ◌++◌, length, sym, subst, arith, rules}
use Rattle.relay_disk.specs.Device.{DiskWords, IsSettled, written, WritesLeaveTheRest, Writes}
use Rattle.relay_spool.specs.Image.{IsImageOf, HasBodies, size_of}
use Rattle.relay_spool.specs.Run.{AtEachMoment, Rests}
use Rattle.relay_spool.specs.Spool.{IsBeforeOrWithAll}
use Rattle.relay_spool.proofs.ImageLemmas.{AreAfter, are_after}
use Rattle.relay_spool.proofs.RunLemmas.{joined, calls_on, passes_on}
use Rattle.relay_spool.proofs.LinkLemmas.{gate_of, Ready, ready_of, opened, tail_run, gate_run, head_run, head_runs}
use Rattle.relay_spool.proofs.link.write_links.Goals as goal

-- what the disk reads once the tail is written
ready : (image mid : List ℕ) (bodies : List (List ℕ)) (place : ℕ) (tail : List ℕ) → place + 1 ≡ size_of bodies → IsImageOf image bodies
    → mid ≡ written image (place + 1) tail → Ready mid bodies place tail
ready image mid bodies place tail at is reads =
    subst (λ (xs : List ℕ). Ready xs bodies place tail) (sym reads) (ready_of image bodies place tail (gate_of image bodies place at is))

both_runs : {D : Type 0} (words : DiskWords D) → WritesLeaveTheRest
    → (old mid new : D) (bodies more : List (List ℕ)) (tail : List ℕ) (place : ℕ) → place + 1 ≡ size_of bodies → AreAfter tail more → Rests words old bodies
    → words.seen mid ≡ written (words.seen old) (place + 1) tail → IsSettled words mid
    → AtEachMoment words old mid (Writes (place + 1) (length tail) (words.seen old))
    → (IsSettled words mid → AtEachMoment words mid new (Writes place 1 (words.seen mid)))
    → AtEachMoment words old new (HasBodies (IsBeforeOrWithAll bodies more))
both_runs words law old mid new bodies more tail place at are rests reads only one two =
    joined words old mid new (HasBodies (IsBeforeOrWithAll bodies more))
    (tail_run words law old mid (words.seen old) bodies more place (length tail) (gate_of (words.seen old) bodies place at rests.image) one)
    (gate_run words law mid new (words.seen mid) bodies more place tail (ready (words.seen old) (words.seen mid) bodies place tail at rests.image reads) are (two only))

pub returns-in_err-write_through-clause-stop : goal.returns-in_err-write_through-clause-stop
returns-in_err-write_through-clause-stop g c = λ honest before bodies at are rests.
    let after = subst (λ (xs : List ℕ). AreAfter xs bodies) (sym c.split_at.ensures.back) (are_after c.args.links.now bodies c.requires.links are) in
    tail_run g.D.Disk.words c.writes_leave_the_rest.ensures c.args.disk.now c.write_through.new.disk
    (g.D.Disk.words.seen c.args.disk.now) before bodies c.args.gate (length c.split_at.result.1.now)
    (gate_of (g.D.Disk.words.seen c.args.disk.now) before c.args.gate at rests.image) (c.write_through.ensures.stop honest rests.only)

pub returns-in_err-open_gate-clause-stop : goal.returns-in_err-open_gate-clause-stop
returns-in_err-open_gate-clause-stop g c = λ honest before bodies at are rests.
    let after = subst (λ (xs : List ℕ). AreAfter xs bodies) (sym c.split_at.ensures.back) (are_after c.args.links.now bodies c.requires.links are) in
    both_runs g.D.Disk.words c.writes_leave_the_rest.ensures c.args.disk.now c.write_through.new.disk c.open_gate.new.disk
    before bodies c.split_at.result.1.now c.args.gate at after rests (c.in_ok-write_through.ensures.written honest) (c.in_ok-write_through.ensures.settled honest)
    (c.write_through.ensures.stop honest rests.only) (c.open_gate.ensures.stop honest)

pub returns-clause-added : goal.returns-clause-added
returns-clause-added g c = λ honest before bodies at are rests.
    let after = subst (λ (xs : List ℕ). AreAfter xs bodies) (sym c.split_at.ensures.back) (are_after c.args.links.now bodies c.requires.links are) in
    record {
      image = subst (λ (xs : List ℕ). IsImageOf xs (before ++ bodies)) (sym (c.in_ok-open_gate.ensures.written honest))
          (opened (g.D.Disk.words.seen c.write_through.new.disk) before bodies c.args.gate c.split_at.result.1.now
          (ready (g.D.Disk.words.seen c.args.disk.now) (g.D.Disk.words.seen c.write_through.new.disk) before c.args.gate c.split_at.result.1.now at rests.image
          (c.in_ok-write_through.ensures.written honest)) after);
      only = c.in_ok-open_gate.ensures.settled honest;
    }

pub returns-clause-stop : goal.returns-clause-stop
returns-clause-stop g c = λ honest before bodies at are rests.
    let after = subst (λ (xs : List ℕ). AreAfter xs bodies) (sym c.split_at.ensures.back) (are_after c.args.links.now bodies c.requires.links are) in
    both_runs g.D.Disk.words c.writes_leave_the_rest.ensures c.args.disk.now c.write_through.new.disk c.open_gate.new.disk
    before bodies c.split_at.result.1.now c.args.gate at after rests (c.in_ok-write_through.ensures.written honest) (c.in_ok-write_through.ensures.settled honest)
    (c.write_through.ensures.stop honest rests.only) (c.open_gate.ensures.stop honest)

pub returns-in_err-open_gate-clause-calls : goal.returns-in_err-open_gate-clause-calls
returns-in_err-open_gate-clause-calls g c =
    record {
      at_most = calls_on g.D.Disk.words 2 2 c.args.disk.now c.write_through.new.disk c.open_gate.new.disk c.write_through.ensures.calls.at_most c.open_gate.ensures.calls.at_most;
      ok = search rules;
    }

pub returns-clause-calls : goal.returns-clause-calls
returns-clause-calls g c =
    record {
      at_most = calls_on g.D.Disk.words 2 2 c.args.disk.now c.write_through.new.disk c.open_gate.new.disk c.write_through.ensures.calls.at_most c.open_gate.ensures.calls.at_most;
      ok = passes_on g.D.Disk.words 2 2 c.args.disk.now c.write_through.new.disk c.open_gate.new.disk c.in_ok-write_through.ensures.calls.ok c.in_ok-open_gate.ensures.calls.ok;
    }

pub returns-in_err-write_through-clause-head : goal.returns-in_err-write_through-clause-head
returns-in_err-write_through-clause-head g c = λ honest low only.
    let within = c.requires.gate honest in
    head_run g.D.Disk.words c.writes_leave_the_rest.ensures c.args.disk.now c.write_through.new.disk (g.D.Disk.words.seen c.args.disk.now) (c.args.gate + 1) (length c.split_at.result.1.now)
    (omega (arith, low)) (omega (arith, low, within)) (c.write_through.ensures.stop honest only)

pub returns-in_err-open_gate-clause-head : goal.returns-in_err-open_gate-clause-head
returns-in_err-open_gate-clause-head g c = λ honest low only.
    head_runs g.D.Disk.words c.writes_leave_the_rest.ensures c.args.disk.now c.write_through.new.disk c.open_gate.new.disk c.args.gate (length c.split_at.result.1.now) low
    (c.requires.gate honest) (g.met.D.Disk.sees_now honest c.write_through.new.disk) (c.write_through.ensures.stop honest only) (c.open_gate.ensures.stop honest (c.in_ok-write_through.ensures.settled honest))

pub returns-clause-head : goal.returns-clause-head
returns-clause-head g c = λ honest low only.
    head_runs g.D.Disk.words c.writes_leave_the_rest.ensures c.args.disk.now c.write_through.new.disk c.open_gate.new.disk c.args.gate (length c.split_at.result.1.now) low
    (c.requires.gate honest) (g.met.D.Disk.sees_now honest c.write_through.new.disk) (c.write_through.ensures.stop honest only) (c.open_gate.ensures.stop honest (c.in_ok-write_through.ensures.settled honest))
