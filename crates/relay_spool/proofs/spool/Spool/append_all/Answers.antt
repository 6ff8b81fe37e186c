use Rattle.std.proofs.Common.{◌≡◌, ◌+◌, ◌-◌, ◌<◌, ◌≤◌, ℕ, Bool, false, IsTrue, List, [], ◌∷◌, ◌++◌, length, refl, inl, sym, subst, ap, ◌∙◌, arith, rules}
use Rattle.std.proofs.lemmas.Bool.{false≢true}
use Rattle.std.proofs.lemmas.Result.{IfOk-from_err}
use Rattle.relay_disk.specs.Disks.{Fails}
use Rattle.std.proofs.lemmas.List.Sums.{sum_by-cons}
use Rattle.relay_spool.specs.Head.{AreAdded}
use Rattle.relay_spool.specs.Image.{room_of, size_of}
use Rattle.relay_spool.specs.Pair.{HasBodies}
use Rattle.relay_spool.specs.declared.fault.SpoolFault.TheVariants.{Device}
use Rattle.relay_spool.specs.Spool.{AtEachMoment, IsBeforeOrWithAll, Rests, Stored, bodies_on, calls_to_add}
use Rattle.relay_spool.proofs.CallLemmas.{makes_none}
use Rattle.relay_spool.proofs.GoesLemmas.{passed_on, refused_by}
use Rattle.relay_spool.proofs.ImageLemmas.{length-added, size_of-append}
use Rattle.relay_spool.proofs.SpoolLemmas.{rests_found, every_image, sound_of, gate_within, still_stop}
use Rattle.relay_spool.proofs.spool.Spool.append_all.Goals as goal

gate_place : (size : ℕ) (bodies : List (List ℕ)) → 18 ≤ size → size ≡ size_of bodies → size - 1 + 1 ≡ size_of bodies
gate_place size bodies low place = omega (arith, low, place)

grown : (size more : ℕ) (bodies others : List (List ℕ)) → size ≡ size_of bodies → more ≡ room_of others → size + more ≡ size_of (bodies ++ others)
grown size more bodies others place long =
    let all = size_of-append bodies others in
    omega (arith, all, place, long)

pub returns-then-saturating_sub-room-clause-stop : goal.returns-then-saturating_sub-room-clause-stop
returns-then-saturating_sub-room-clause-stop g c = λ honest.
    let words = g.D.Disk.words in
    let inside = c.self.inside in
    let before = bodies_on words inside.disk inside.taken in
    let live = ap (λ (s : Stored g.row.D.Denot). s.live) c.self.view_is ∙ c.requires in
    subst (λ (s : Stored g.row.D.Denot). AtEachMoment words s.disk s.disk (HasBodies (IsBeforeOrWithAll s.bodies c.args.row))) c.self.view_is
    (still_stop words inside.disk inside.taken before (IsBeforeOrWithAll before c.args.row) (g.met.D.Disk.only_now honest inside.disk.first) (g.met.D.Disk.only_now honest inside.disk.second)
    (c.self.invariant.rests honest live) (inl refl))

pub returns-then-is_empty-clause-stop : goal.returns-then-is_empty-clause-stop
returns-then-is_empty-clause-stop g c = λ honest.
    let words = g.D.Disk.words in
    let inside = c.self.inside in
    let before = bodies_on words inside.disk inside.taken in
    let live = ap (λ (s : Stored g.row.D.Denot). s.live) c.self.view_is ∙ c.requires in
    subst (λ (s : Stored g.row.D.Denot). AtEachMoment words s.disk s.disk (HasBodies (IsBeforeOrWithAll s.bodies c.args.row))) c.self.view_is
    (still_stop words inside.disk inside.taken before (IsBeforeOrWithAll before c.args.row) (g.met.D.Disk.only_now honest inside.disk.first) (g.met.D.Disk.only_now honest inside.disk.second)
    (c.self.invariant.rests honest live) (inl refl))

pub add_links-requires-clause-gate : goal.add_links-requires-clause-gate
add_links-requires-clause-gate g c = λ honest.
    let live = ap (λ (s : Stored g.row.D.Denot). s.live) c.self.view_is ∙ c.requires in
    let inside = c.self.inside in
    gate_within g.D.Disk.words inside.size inside.disk inside.taken (bodies_on g.D.Disk.words inside.disk inside.taken)
    c.self.invariant.low (c.self.invariant.place honest live) (c.self.invariant.rests honest live)

pub invariant_of-self-2 : goal.invariant_of-self-2
invariant_of-self-2 g c =
    let live = ap (λ (s : Stored g.row.D.Denot). s.live) c.self.view_is ∙ c.requires in
    let inside = c.self.inside in
    let before = bodies_on g.D.Disk.words inside.disk inside.taken in
    let more = c.args.row in
    let are : AreAdded c.deref.result.now more = rw c.deref.ensures.value c.closed-links.ensures in
    let low = c.self.invariant.low in
    sound_of g.D.Disk.words g.D.Disk.honest (inside.size + c.room-room.result) inside.taken c.add_links.new.disks (before ++ more) (omega (arith, low)) (omega arith)
    (λ honest. grown inside.size c.room-room.result before more (c.self.invariant.place honest live) c.room-room.ensures.room)
    (λ honest. c.in_ok-add_links.ensures.added honest before more (gate_place inside.size before low (c.self.invariant.place honest live)) are (c.self.invariant.rests honest live))

-- links and a gate are more than an octet where there is a body
some_links : (octets : List ℕ) (bodies : List (List ℕ)) (empty : Bool) → AreAdded octets bodies → (bodies ≡ [] → IsTrue empty) → empty ≡ false → 1 < length octets
some_links octets [] empty are is none = absurd (false≢true (sym none ∙ is refl))
some_links octets (body ∷ bodies) empty are is none =
    let all = length-added octets (body ∷ bodies) are in
    let parts = sum_by-cons (λ (one : List ℕ). 5 + length one) body bodies in
    omega (arith, all, parts)

pub add_links-requires-clause-links : goal.add_links-requires-clause-links
add_links-requires-clause-links g c = some_links c.deref.result.now c.args.row c.is_empty.result (rw c.deref.ensures.value c.closed-links.ensures) c.is_empty.ensures.1 c.if-is_empty.false

pub returns-clause-appended : goal.returns-clause-appended
returns-clause-appended g c =
    let words = g.D.Disk.words in
    let inside = c.self.inside in
    let new = c.add_links.new.disks in
    let more = c.args.row in
    let before = bodies_on words inside.disk inside.taken in
    let live = ap (λ (s : Stored g.row.D.Denot). s.live) c.self.view_is ∙ c.requires in
    let same : before ≡ c.args.self.now.bodies = ap (λ (s : Stored g.row.D.Denot). s.bodies) c.self.view_is in
    let are : AreAdded c.deref.result.now more = rw c.deref.ensures.value c.closed-links.ensures in
    let low = c.self.invariant.low in
    let now : g.D.Disk.honest → Rests words new inside.taken (c.args.self.now.bodies ++ more) =
    λ honest. subst (λ (bodies : List (List ℕ)). Rests words new inside.taken (bodies ++ more)) same
    (c.in_ok-add_links.ensures.added honest before more (gate_place inside.size before low (c.self.invariant.place honest live)) are (c.self.invariant.rests honest live)) in
    record {
      size = search rules;
      live = search rules;
      taken = search rules;
      failures = search rules;
      bodies_are = λ honest. rests_found words new inside.taken (c.args.self.now.bodies ++ more) (now honest);
      images = λ honest. every_image words new inside.taken (c.args.self.now.bodies ++ more) (now honest);
    }

pub returns-clause-stop : goal.returns-clause-stop
returns-clause-stop g c = λ honest.
    let words = g.D.Disk.words in
    let inside = c.self.inside in
    let before = bodies_on words inside.disk inside.taken in
    let more = c.args.row in
    let live = ap (λ (s : Stored g.row.D.Denot). s.live) c.self.view_is ∙ c.requires in
    let are : AreAdded c.deref.result.now more = rw c.deref.ensures.value c.closed-links.ensures in
    subst (λ (s : Stored g.row.D.Denot). AtEachMoment words s.disk c.add_links.new.disks (HasBodies (IsBeforeOrWithAll s.bodies more))) c.self.view_is
    (c.add_links.ensures.stop honest before more (gate_place inside.size before c.self.invariant.low (c.self.invariant.place honest live)) are (c.self.invariant.rests honest live))

pub returns-in_err-add_links-clause-stop : goal.returns-in_err-add_links-clause-stop
returns-in_err-add_links-clause-stop g c = λ honest.
    let words = g.D.Disk.words in
    let inside = c.self.inside in
    let before = bodies_on words inside.disk inside.taken in
    let more = c.args.row in
    let live = ap (λ (s : Stored g.row.D.Denot). s.live) c.self.view_is ∙ c.requires in
    let are : AreAdded c.deref.result.now more = rw c.deref.ensures.value c.closed-links.ensures in
    subst (λ (s : Stored g.row.D.Denot). AtEachMoment words s.disk c.add_links.new.disks (HasBodies (IsBeforeOrWithAll s.bodies more))) c.self.view_is
    (c.add_links.ensures.stop honest before more (gate_place inside.size before c.self.invariant.low (c.self.invariant.place honest live)) are (c.self.invariant.rests honest live))

pub returns-then-saturating_sub-room-clause-refused : goal.returns-then-saturating_sub-room-clause-refused
returns-then-saturating_sub-room-clause-refused g c = refl

pub returns-then-saturating_sub-room-clause-none : goal.returns-then-saturating_sub-room-clause-none
returns-then-saturating_sub-room-clause-none g c = λ none. refl

pub returns-then-saturating_sub-room-clause-calls : goal.returns-then-saturating_sub-room-clause-calls
returns-then-saturating_sub-room-clause-calls g c =
    makes_none g.D.Disk.words (calls_to_add c.args.row) _ c.args.self.now.disk.first refl

pub returns-then-is_empty-clause-none : goal.returns-then-is_empty-clause-none
returns-then-is_empty-clause-none g c = λ none. refl

pub returns-in_err-add_links-clause-appended : goal.returns-in_err-add_links-clause-appended
returns-in_err-add_links-clause-appended g c = IfOk-from_err c.from_residual.result _ c.from_residual.ensures.0

pub returns-in_err-add_links-clause-refused : goal.returns-in_err-add_links-clause-refused
returns-in_err-add_links-clause-refused g c =
    refused_by _ c.from_residual.result Device (passed_on c.from_residual.result Device c.from_residual.ensures.1) (
      refl,
      subst (λ (s : Stored g.row.D.Denot). Fails g.D.Disk.words s.disk c.add_links.new.disks) c.self.view_is
          c.in_err-add_links.ensures.failures.fault,
    )
