use Rattle.std.proofs.Common.{◌≡◌, ◌+◌, ◌≤◌, ◌<◌, ◌^◌, ℕ, List, [], ◌∷◌, Some, None, Err, ◌↔◌, length, refl, inl, ⊎_elim, sym, subst, ap, ◌∙◌, arith, rules}
use Rattle.std.proofs.lemmas.Result.{IfOk-from_err}
use Rattle.relay_disk.specs.Disks.{Fails}
use Rattle.relay_disk.specs.declared.disks.Side.{Side}
use Rattle.relay_spool.specs.declared.taken.HeadGate.TheVariants.{Open}
use Rattle.relay_spool.specs.declared.taken.Taken.{Taken}
use Rattle.relay_spool.specs.Head.{IsRenewal}
use Rattle.relay_spool.specs.Image.{size_of}
use Rattle.relay_spool.specs.Pair.{HasBodies, renewed_taken}
use Rattle.relay_spool.specs.declared.fault.SpoolFault.TheVariants.{Device, NoMemory, NoSecond}
use Rattle.relay_spool.specs.Spool.{AtEachMoment, IsBeforeOrOne, RefusesToCompact, Rests, Stored, bodies_on}
use Rattle.relay_spool.proofs.CallLemmas.{makes_none}
use Rattle.relay_spool.proofs.GoesLemmas.{passed_as, passed_on, refused_by}
use Rattle.relay_spool.proofs.ImageLemmas.{size_of-push}
use Rattle.relay_spool.proofs.SpoolLemmas.{rests_found, every_image, sound_of, still_stop}
use Rattle.relay_spool.proofs.spool.Spool.compact.Goals as goal

-- the size of a spool of one body
one_size : (body : List ℕ) → 23 + length body ≡ size_of (body ∷ [])
one_size body = let push = size_of-push [] body in omega (arith, push)

few : (size : ℕ) → size < 2 ^ 32 → 23 + size ≤ 2 ^ 40
few size short = omega (arith, short)

-- which disk is taken then
taken_is : (taken : Taken) (side : Side) → side ≡ (renewed_taken taken).side → renewed_taken taken ≡ record { side = side; generation = taken.generation + 1; other = Some Open }
taken_is taken side is = ap (λ (s : Side). record { side = s; generation = taken.generation + 1; other = Some Open }) (sym is)

pub returns-in_err-gate-clause-stop : goal.returns-in_err-gate-clause-stop
returns-in_err-gate-clause-stop g c = λ honest.
    let words = g.D.Disk.words in
    let inside = c.self.inside in
    let before = bodies_on words inside.disk inside.taken in
    let live = ap (λ (s : Stored g.row.D.Denot). s.live) c.self.view_is ∙ c.requires in
    subst (λ (s : Stored g.row.D.Denot). AtEachMoment words s.disk s.disk (HasBodies (IsBeforeOrOne s.bodies c.args.body.items))) c.self.view_is
    (still_stop words inside.disk inside.taken before (IsBeforeOrOne before c.args.body.items) (g.met.D.Disk.only_now honest inside.disk.first) (g.met.D.Disk.only_now honest inside.disk.second)
    (c.self.invariant.rests honest live) (inl refl))

pub returns-in_err-renew-clause-stop : goal.returns-in_err-renew-clause-stop
returns-in_err-renew-clause-stop g c = λ honest.
    let words = g.D.Disk.words in
    let inside = c.self.inside in
    let live = ap (λ (s : Stored g.row.D.Denot). s.live) c.self.view_is ∙ c.requires in
    let renewal : IsRenewal c.deref.result.now (inside.taken.generation + 1) c.args.body.items = rw c.deref.ensures.value c.in_ok-octets.ensures.renewal in
    subst (λ (s : Stored g.row.D.Denot). AtEachMoment words s.disk c.renew.new.disks (HasBodies (IsBeforeOrOne s.bodies c.args.body.items))) c.self.view_is
    (c.renew.ensures.stop honest (bodies_on words inside.disk inside.taken) c.args.body.items (c.self.invariant.rests honest live) renewal)

pub returns-clause-stop : goal.returns-clause-stop
returns-clause-stop g c = λ honest.
    let words = g.D.Disk.words in
    let inside = c.self.inside in
    let live = ap (λ (s : Stored g.row.D.Denot). s.live) c.self.view_is ∙ c.requires in
    let renewal : IsRenewal c.deref.result.now (inside.taken.generation + 1) c.args.body.items = rw c.deref.ensures.value c.in_ok-octets.ensures.renewal in
    subst (λ (s : Stored g.row.D.Denot). AtEachMoment words s.disk c.renew.new.disks (HasBodies (IsBeforeOrOne s.bodies c.args.body.items))) c.self.view_is
    (c.renew.ensures.stop honest (bodies_on words inside.disk inside.taken) c.args.body.items (c.self.invariant.rests honest live) renewal)

pub invariant_of-self-2 : goal.invariant_of-self-2
invariant_of-self-2 g c =
    let words = g.D.Disk.words in
    let inside = c.self.inside in
    let body = c.args.body.items in
    let new = c.renew.new.disks in
    let live = ap (λ (s : Stored g.row.D.Denot). s.live) c.self.view_is ∙ c.requires in
    let renewal : IsRenewal c.deref.result.now (inside.taken.generation + 1) body = rw c.deref.ensures.value c.in_ok-octets.ensures.renewal in
    let long : c.len-size.result ≡ length body = search rules in
    let few_octets : c.len-size.result < 2 ^ 32 = c.in_ok-gate.ensures.gate.1 in
    let is = taken_is inside.taken c.turned.result c.turned.ensures in
    sound_of words g.D.Disk.honest (23 + c.len-size.result) (record { side = c.turned.result; generation = inside.taken.generation + 1; other = Some Open }) new (body ∷ [])
    (omega arith) (few c.len-size.result few_octets) (λ honest. ap (λ (n : ℕ). 23 + n) long ∙ one_size body)
    (λ honest. subst (λ (taken : Taken). Rests words new taken (body ∷ [])) is
    (c.in_ok-renew.ensures.renewed honest (bodies_on words inside.disk inside.taken) body (c.self.invariant.rests honest live) renewal))

pub returns-clause-compacted : goal.returns-clause-compacted
returns-clause-compacted g c =
    let words = g.D.Disk.words in
    let inside = c.self.inside in
    let body = c.args.body.items in
    let new = c.renew.new.disks in
    let taken : Taken = record { side = c.turned.result; generation = inside.taken.generation + 1; other = Some Open } in
    let live = ap (λ (s : Stored g.row.D.Denot). s.live) c.self.view_is ∙ c.requires in
    let renewal : IsRenewal c.deref.result.now (inside.taken.generation + 1) body = rw c.deref.ensures.value c.in_ok-octets.ensures.renewal in
    let is = taken_is inside.taken c.turned.result c.turned.ensures in
    let now : g.D.Disk.honest → Rests words new taken (body ∷ []) =
    λ honest. subst (λ (t : Taken). Rests words new t (body ∷ [])) is
    (c.in_ok-renew.ensures.renewed honest (bodies_on words inside.disk inside.taken) body (c.self.invariant.rests honest live) renewal) in
    record {
      size = ap (λ (n : ℕ). 23 + n) (search rules);
      live = refl;
      taken = sym is ∙ ap (λ (s : Stored g.row.D.Denot). renewed_taken s.taken) c.self.view_is;
      failures = search rules;
      bodies_are = λ honest. rests_found words new taken (body ∷ []) (now honest);
      images = λ honest. every_image words new taken (body ∷ []) (now honest);
    }

-- the device's fault, by what it answers
pub returns-in_err-renew-clause-compacted : goal.returns-in_err-renew-clause-compacted
returns-in_err-renew-clause-compacted g c = IfOk-from_err c.from_residual-in_err-renew.result _ c.from_residual-in_err-renew.ensures.0

pub returns-in_err-renew-clause-refused : goal.returns-in_err-renew-clause-refused
returns-in_err-renew-clause-refused g c =
    let result = c.from_residual-in_err-renew.result in
    refused_by _ result Device (passed_on result Device c.from_residual-in_err-renew.ensures.1) (
      refl,
      subst (λ (s : Stored g.row.D.Denot). Fails g.D.Disk.words s.disk c.renew.new.disks) c.self.view_is
          c.in_err-renew.ensures.failures.fault,
    )

pub returns-in_err-gate-clause-compacted : goal.returns-in_err-gate-clause-compacted
returns-in_err-gate-clause-compacted g c = IfOk-from_err c.from_residual.result _ c.from_residual.ensures.0

pub returns-in_err-gate-clause-refused : goal.returns-in_err-gate-clause-refused
returns-in_err-gate-clause-refused g c =
    let fault = c.in_err-gate.field-0.0 in
    let refuses = RefusesToCompact g.D.Disk.words c.args.self.now c.args.self.now in
    refused_by refuses c.from_residual.result fault (passed_on c.from_residual.result fault c.from_residual.ensures.1)
    (⊎_elim (λ is. subst refuses (sym is) refl) (λ is. subst refuses (sym is) refl) c.in_err-gate.ensures.refused)

pub returns-in_err-gate-clause-no_second : goal.returns-in_err-gate-clause-no_second
returns-in_err-gate-clause-no_second g c =
    let is = passed_on c.from_residual.result c.in_err-gate.field-0.0 c.from_residual.ensures.1 in
    subst (λ (s : Stored g.row.D.Denot). (c.from_residual.result ≡ Err NoSecond) ↔ (s.taken.other ≡ None)) c.self.view_is
    (passed_as c.from_residual.result c.gate_for.result c.in_err-gate.field-0.0 NoSecond _ is c.in_err-gate.was c.gate_for.ensures.no_second)

pub returns-in_err-gate-clause-calls : goal.returns-in_err-gate-clause-calls
returns-in_err-gate-clause-calls g c =
    makes_none g.D.Disk.words _ c.from_residual.result c.args.self.now.disk.first c.from_residual.ensures.0

pub returns-in_err-octets-clause-compacted : goal.returns-in_err-octets-clause-compacted
returns-in_err-octets-clause-compacted g c = IfOk-from_err c.from_residual-in_err-octets.result _ c.from_residual-in_err-octets.ensures.0

pub returns-in_err-octets-clause-stop : goal.returns-in_err-octets-clause-stop
returns-in_err-octets-clause-stop g c = λ honest.
    let words = g.D.Disk.words in
    let inside = c.self.inside in
    let before = bodies_on words inside.disk inside.taken in
    let live = ap (λ (s : Stored g.row.D.Denot). s.live) c.self.view_is ∙ c.requires in
    subst (λ (s : Stored g.row.D.Denot). AtEachMoment words s.disk s.disk (HasBodies (IsBeforeOrOne s.bodies c.args.body.items))) c.self.view_is
    (still_stop words inside.disk inside.taken before (IsBeforeOrOne before c.args.body.items) (g.met.D.Disk.only_now honest inside.disk.first) (g.met.D.Disk.only_now honest inside.disk.second)
    (c.self.invariant.rests honest live) (inl refl))

pub returns-in_err-octets-clause-refused : goal.returns-in_err-octets-clause-refused
returns-in_err-octets-clause-refused g c =
    let result = c.from_residual-in_err-octets.result in
    refused_by (RefusesToCompact g.D.Disk.words c.args.self.now c.args.self.now) result NoMemory
    (passed_on result NoMemory c.from_residual-in_err-octets.ensures.1) refl

pub returns-in_err-octets-clause-calls : goal.returns-in_err-octets-clause-calls
returns-in_err-octets-clause-calls g c =
    makes_none g.D.Disk.words _ c.from_residual-in_err-octets.result c.args.self.now.disk.first
    c.from_residual-in_err-octets.ensures.0
