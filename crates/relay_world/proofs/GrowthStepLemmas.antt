-- What changes of nodes and links leave of what was recorded, told, written and read.
use Rattle.std.proofs.Common.{◌≡◌, ◌+◌, inl, inr, ℕ, Bool, true, false, List, [], ◌∷◌, ◌++◌, Option, None, Some, refl, sym, subst, ap, ◌∙◌, arith}
use Rattle.std.specs.Prelude.{slice_get}
use Rattle.std.proofs.lemmas.Bool.{cases_eq, false≢true}
use Rattle.std.proofs.lemmas.List.{append_assoc, append-nil}
use Rattle.std.proofs.lemmas.Option.{none-some, same_Some}
use Rattle.relay_octets.specs.Beginning.{Begins}
use Rattle.relay_disk.specs.Device.{DiskWords}
use Rattle.relay_lines.specs.Reply.{Reply, reply_text}
use Rattle.relay_node.specs.Node.{NodeState}
use Rattle.relay_node.specs.declared.receive.Received.{Received}
use Rattle.relay_records.specs.Records.{Kept}
use Rattle.relay_records.specs.declared.noted.Noted.{Noted}
use Rattle.relay_attempts.specs.declared.reply.Replied.{Replied}
use Rattle.relay_world.specs.declared.attempt.Fate.{Fate}
use Rattle.relay_world.specs.declared.attempt.Fate.TheVariants.{Lost, Replied as RepliedBy}
use Rattle.relay_world.specs.declared.link.Link.{Link}
use Rattle.relay_world.specs.declared.link.ServerEnd.{ServerEnd}
use Rattle.relay_world.specs.Growth.{EndStays, HasGrown, LinkGrows, StaysBroken}
use Rattle.relay_world.specs.HangUp.{HangsUp}
use Rattle.relay_world.specs.Steps.{AttemptOf, DropsAttempt, IsPut, IsPutAt, RecordsHeard, RecordsRead, WritesAs, heard_link, read_link, session_after, unless_broken, without_note, EndsWith, ended_link, closed_down}
use Rattle.relay_world.specs.Stops.{Decides, DropsAtStop, Finds, FindsOutcome, HasFound, cut_off_link}
use Rattle.relay_world.specs.World.{Down, FromClient, FromLoss, FromGivingUp, FromReplies, Host, Origin, Undecided, Up, World, link_at}
use Rattle.relay_world.proofs.HangUpLemmas.{Loose, LooseServer, link_onward}
use Rattle.relay_world.proofs.PieceLemmas.{written_broken}
use Rattle.relay_world.proofs.RecordLemmas.{HasTakenOutcome, outcome_taken}

pub same_begins : {A : Type 0} (xs : List A) → Begins xs xs
same_begins xs = ([], sym (append-nil xs))

begins_like : {A : Type 0} (xs ys : List A) → ys ≡ xs → Begins xs ys
begins_like xs ys same = ([], same ∙ sym (append-nil xs))

begins_on : {A : Type 0} (xs ys zs : List A) → Begins xs ys → Begins ys zs → Begins xs zs
begins_on xs ys zs first second = (
  first.0 ++ second.0,
  second.1 ∙ ap (λ l. l ++ second.0) first.1 ∙ append_assoc xs first.0 second.0,
)

-- a server end that is the same, or whose session is gone
pub same_end : (end : Option ServerEnd) → EndStays end end
same_end None = refl
same_end (Some end) = inl refl

end_gone : (was : Option ServerEnd) (end : ServerEnd) → was ≡ Some end → EndStays was (Some (record end { session = None }))
end_gone was end is = subst (λ e. EndStays e (Some (record end { session = None }))) (sym is) (inr refl)

session_on : (end : ServerEnd) (session : ℕ) (close : Bool) → end.session ≡ Some session
    → EndStays (Some end) (Some (record end { session = session_after close session }))
session_on end session true goes_on = inr refl
session_on end session false goes_on = inl (ap (λ s. Some (record end { session = s })) (sym goes_on))

end_heard : (was : Option ServerEnd) (end : ServerEnd) (session : ℕ) (close : Bool) → was ≡ Some end
    → end.session ≡ Some session → EndStays was (Some (record end { session = session_after close session }))
end_heard was end session close is goes_on =
    subst (λ e. EndStays e (Some (record end { session = session_after close session }))) (sym is)
    (session_on end session close goes_on)

end_loose : (was now : Option ServerEnd) → LooseServer was now → EndStays was now
end_loose was now (inl same) = subst (λ e. EndStays was e) (sym same) (same_end was)
end_loose was now (inr gone) = subst (λ e. EndStays was e) (sym gone.2) (end_gone was gone.0 gone.1)

-- on a broken link an end writes nothing
silent : (link : Link) (front octets : List ℕ) → link.broken ≡ true → front ++ unless_broken link octets ≡ front
silent link front octets is = ap (λ l. front ++ l) (written_broken link octets is) ∙ append-nil front

pub same_link : (link : Link) → LinkGrows link link
same_link link = record {
  client = λ place is. is;
  server = same_end link.server;
  up = same_begins link.up;
  down = same_begins link.down;
  up_read = omega arith;
  down_read = omega arith;
  broken = λ is. record { broken = is; up = refl; down = refl };
}

-- a link that breaks, or of which more is read
pub broken_grows : (link : Link) → LinkGrows link (record link { broken = true })
broken_grows link = record {
  client = λ place is. is;
  server = same_end link.server;
  up = same_begins link.up;
  down = same_begins link.down;
  up_read = omega arith;
  down_read = omega arith;
  broken = λ is. record { broken = refl; up = refl; down = refl };
}

read_up_grows : (link : Link) (used : ℕ) → LinkGrows link (record link { up_read = link.up_read + used })
read_up_grows link used = record {
  client = λ place is. is;
  server = same_end link.server;
  up = same_begins link.up;
  down = same_begins link.down;
  up_read = omega arith;
  down_read = omega arith;
  broken = λ is. record { broken = is; up = refl; down = refl };
}

read_down_grows : (link : Link) (used : ℕ) → LinkGrows link (record link { down_read = link.down_read + used })
read_down_grows link used = record {
  client = λ place is. is;
  server = same_end link.server;
  up = same_begins link.up;
  down = same_begins link.down;
  up_read = omega arith;
  down_read = omega arith;
  broken = λ is. record { broken = is; up = refl; down = refl };
}

-- a link on which a client begins that had none
pub begun_grows : (link : Link) (place : ℕ) → link.client ≡ None → link.broken ≡ false
    → LinkGrows link (record link { client = Some place })
begun_grows link place none whole = record {
  client = λ other is. absurd (none-some other (sym none ∙ is));
  server = same_end link.server;
  up = same_begins link.up;
  down = same_begins link.down;
  up_read = omega arith;
  down_read = omega arith;
  broken = λ is. absurd (false≢true (sym whole ∙ is));
}

-- a link that a session was heard on
pub heard_grows : (link : Link) (end : ServerEnd) (session : ℕ) (received : Received) → link.server ≡ Some end
    → end.session ≡ Some session → LinkGrows link (heard_link link end session received)
heard_grows link end session received serves goes_on = record {
  client = λ place is. is;
  server = end_heard link.server end session received.close serves goes_on;
  up = same_begins link.up;
  down = (unless_broken link received.out.items, refl);
  up_read = omega arith;
  down_read = omega arith;
  broken = λ is. record { broken = is; up = refl; down = silent link link.down received.out.items is };
}

-- a link whose session is gone as it breaks
pub cut_off_grows : (link : Link) (end : ServerEnd) → link.server ≡ Some end → LinkGrows link (cut_off_link link end)
cut_off_grows link end serves = record {
  client = λ place is. is;
  server = end_gone link.server end serves;
  up = same_begins link.up;
  down = same_begins link.down;
  up_read = omega arith;
  down_read = omega arith;
  broken = λ is. record { broken = refl; up = refl; down = refl };
}

loose_grows : (was its : Link) → Loose was its → LinkGrows was its
loose_grows was its loose =
    let up = loose.up_read in
    let down = loose.down_read in
    record {
      client = λ place is. loose.client ∙ is;
      server = end_loose was.server its.server loose.server;
      up = begins_like was.up its.up loose.up;
      down = begins_like was.down its.down loose.down;
      up_read = omega (arith, up);
      down_read = omega (arith, down);
      broken = λ is. record { broken = loose.broken is; up = loose.up; down = loose.down };
    }

pub written_grows : (link written : Link) (octets : List ℕ) → link.broken ≡ false → WritesAs link octets written
    → LinkGrows link written
written_grows link written octets whole (inl up) = subst (λ l. LinkGrows link l) (sym up.1) (record {
  client = λ place is. is;
  server = same_end link.server;
  up = (octets, refl);
  down = same_begins link.down;
  up_read = omega arith;
  down_read = omega arith;
  broken = λ is. absurd (false≢true (sym whole ∙ is));
})
written_grows link written octets whole (inr down) = subst (λ l. LinkGrows link l) (sym down.1) (record {
  client = λ place is. is;
  server = same_end link.server;
  up = same_begins link.up;
  down = (octets, refl);
  up_read = omega arith;
  down_read = omega arith;
  broken = λ is. absurd (false≢true (sym whole ∙ is));
})

module _ {D : Type 0} (old new : World D) where
  abbrev pub Records : Type 0
  Records = (n : ℕ) (was : Host D) → slice_get old.hosts n ≡ Some was
      → (its : Host D) × (slice_get new.hosts n ≡ Some its) × Begins was.records its.records

  abbrev pub Octets : Type 0
  Octets = (number : ℕ) (was : Link) → link_at old.links number ≡ Some was
      → (its : Link) × (link_at new.links number ≡ Some its) × LinkGrows was its

  pub records_put : (node : ℕ) (host moved : Host D) → slice_get old.hosts node ≡ Some host → IsPut old.hosts new.hosts node moved
      → Begins host.records moved.records → Records
  records_put node host moved at put begins n was is = elim (cases_eq n node) [
    | inl same ↦ (
      moved,
      ap (λ k. slice_get new.hosts k) same ∙ put.at,
      subst (λ (h : Host D). Begins h.records moved.records)
          (same_Some host was (sym at ∙ ap (λ k. slice_get old.hosts k) (sym same) ∙ is)) begins,
    )
    | inr off ↦ (was, put.others n off ∙ is, same_begins was.records)
  ]

  pub records_same : new.hosts ≡ old.hosts → Records
  records_same same n was is = (was, ap (λ l. slice_get l n) same ∙ is, same_begins was.records)

  pub octets_put : (number : ℕ) (link : Link) → IsPutAt old.links new.links number link
      → ((was : Link) → link_at old.links number ≡ Some was → LinkGrows was link) → Octets
  octets_put number link put grows other was is = elim (cases_eq other number) [
    | inl same ↦ (
      link,
      ap (λ n. link_at new.links n) same ∙ put.at,
      grows was (ap (λ n. link_at old.links n) (sym same) ∙ is),
    )
    | inr off ↦ (was, put.others other off ∙ is, same_link was)
  ]

  pub octets_of : (number : ℕ) (was link : Link) → link_at old.links number ≡ Some was → IsPutAt old.links new.links number link
      → LinkGrows was link → Octets
  octets_of number was link at put grows =
      octets_put number link put (λ its is. subst (λ l. LinkGrows l link) (same_Some was its (sym at ∙ is)) grows)

  pub octets_same : new.links ≡ old.links → Octets
  octets_same same number was is = (was, ap (λ l. link_at l number) same ∙ is, same_link was)

  pub grown : Records → Begins old.ledger new.ledger → Octets → HasGrown old new
  grown records ledger octets = record { records = records; ledger = ledger; octets = octets }

  pub same_ledger : new.ledger ≡ old.ledger → Begins old.ledger new.ledger
  same_ledger same = begins_like old.ledger new.ledger same

  -- one node has moved on with the records that it had
  pub stays : (node : ℕ) (host moved : Host D) → slice_get old.hosts node ≡ Some host → IsPut old.hosts new.hosts node moved
      → moved.records ≡ host.records → Records
  stays node host moved at put same =
      records_put node host moved at put (begins_like host.records moved.records same)

  -- a link has changed, and nothing of nodes and the ledger
  pub one_link : (links : List Link) (number : ℕ) (was link : Link) → new ≡ record old { links = links }
      → link_at old.links number ≡ Some was → IsPutAt old.links links number link → LinkGrows was link → HasGrown old new
  one_link links number was link same at put grows =
      grown (records_same (ap (λ (w : World D). w.hosts) same)) (same_ledger (ap (λ (w : World D). w.ledger) same))
      (octets_of number was link at
      (subst (λ l. IsPutAt old.links l number link) (sym (ap (λ (w : World D). w.links) same)) put) grows)

  pub recorded : (number change : ℕ) (of : AttemptOf old number) (after : NodeState D) (fate : Fate) (noted : Noted)
      → HasTakenOutcome old new number of after fate change noted → Octets → HasGrown old new
  recorded number change of after fate noted taken octets =
      grown
      (records_put of.attempt.node of.host
      (record of.host { state = Up after; records = of.host.records ++ noted.octets ∷ [] }) of.host_at taken.hosts
      (noted.octets ∷ [], refl))
      (_, taken.ledger) octets

  pub heard : (node number : ℕ) (host : Host D) (after : NodeState D) (change : Option ℕ) → slice_get old.hosts node ≡ Some host
      → RecordsHeard old new node number host after change → Octets → HasGrown old new
  heard node number host after None at records octets =
      grown (stays node host (record host { state = Up after }) at records.0 refl) (same_ledger records.1) octets
  heard node number host after (Some change) at records octets =
      grown
      (records_put node host
      (record host { state = Up (without_note after); records = host.records ++ records.0.octets ∷ [] }) at records.2
      (records.0.octets ∷ [], refl))
      (_, records.3) octets

  -- what an attempt has read and written
  pub read_octets : (number : ℕ) (of : AttemptOf old number) (replied : Replied)
      → IsPutAt old.links new.links number (read_link of.link replied) → Octets
  read_octets number of replied put =
      octets_of number of.link (read_link of.link replied) of.link_is put (record {
        client = λ place is. is;
        server = same_end of.link.server;
        up = (unless_broken of.link replied.out.items, refl);
        down = same_begins of.link.down;
        up_read = omega arith;
        down_read = omega arith;
        broken = λ is. record { broken = is; up = silent of.link of.link.up replied.out.items is; down = refl };
      })

  pub read_on : (of_node : ℕ) (host : Host D) (after : NodeState D) → slice_get old.hosts of_node ≡ Some host
      → IsPut old.hosts new.hosts of_node (record host { state = Up after }) → new.ledger ≡ old.ledger → Octets
      → HasGrown old new
  read_on of_node host after at put same octets =
      grown (stays of_node host (record host { state = Up after }) at put refl) (same_ledger same) octets

  pub read_by : (number : ℕ) (of : AttemptOf old number) (after : NodeState D) (change : Option ℕ)
      → RecordsRead old new number of after change → Octets → HasGrown old new
  read_by number of after None records octets =
      read_on of.attempt.node of.host after of.host_at records.0 records.1 octets
  read_by number of after (Some change) records octets =
      recorded number change of (without_note after) (RepliedBy change) records.noted
      (outcome_taken old new number of after (RepliedBy change) change records) octets

  pub dropped : (number : ℕ) → DropsAttempt old new number → HasGrown old new
  dropped number drops =
      grown
      (stays drops.of.attempt.node drops.of.host (record drops.of.host { state = Up drops.after }) drops.of.host_at
      drops.hosts refl)
      (same_ledger drops.ledger) (octets_same drops.links)

  pub dropped_at : {honest : Type 0} {words : DiskWords D} (number : ℕ) (of : AttemptOf old number) (stopped : Kept D)
      (origin : Origin) → DropsAtStop honest words old new number of stopped origin → HasGrown old new
  dropped_at number of stopped origin drops =
      grown
      (stays of.attempt.node of.host
      (record of.host { state = Down drops.disk (Some (record { note = drops.noted; origin = origin })) }) of.host_at drops.hosts
      refl)
      (same_ledger drops.rest.0)
      (octets_of number of.link (record of.link { broken = true }) of.link_is drops.links (broken_grows of.link))

  found : (node : ℕ) (host : Host D) (after : NodeState D) (undecided : Undecided) → slice_get old.hosts node ≡ Some host
      → HasFound old new node host after undecided → HasGrown old new
  found node host after undecided at finds =
      grown
      (records_put node host (record host { state = Up after; records = host.records ++ undecided.note.octets ∷ [] }) at
      finds.hosts (undecided.note.octets ∷ [], refl))
      (_, finds.ledger) (by undecided.origin finds.finds)
    where
      outcome : (number place used : ℕ) (fate : Fate) → FindsOutcome old new number place used fate → Octets
      outcome number place used fate its =
          octets_of number its.link (record its.link { down_read = its.link.down_read + used }) its.link_is its.links
          (read_down_grows its.link used)

      by : (origin : Origin) → Finds old new undecided.note origin → Octets
      by (FromClient number) its =
          octets_of number its.link (record its.link { up_read = its.link.up_read + undecided.note.used }) its.link_is its.links
          (read_up_grows its.link undecided.note.used)
      by (FromReplies number place message) its =
          outcome number place undecided.note.used (RepliedBy undecided.note.number) its
      by (FromLoss number place message) its = outcome number place undecided.note.used (Lost undecided.note.number) its
      by (FromGivingUp message) its = octets_same its.0

  pub decided : (node : ℕ) (host : Host D) (after : NodeState D) (undecided : Option Undecided)
      → slice_get old.hosts node ≡ Some host → Decides old new node host after undecided → HasGrown old new
  decided node host after None at none =
      grown (stays node host (record host { state = Up after }) at none.hosts refl) (same_ledger none.ledger)
      (octets_same none.links)
  decided node host after (Some undecided) at (inl none) =
      grown (stays node host (record host { state = Up after }) at none.1.hosts refl) (same_ledger none.1.ledger)
      (octets_same none.1.links)
  decided node host after (Some undecided) at (inr its) = found node host after undecided at its.1

  pub let_go : (node : ℕ) → HangsUp old new node → HasGrown old new
  let_go node hangs =
      grown (records_same (ap (λ (w : World D). w.hosts) hangs.new_is))
      (same_ledger (ap (λ (w : World D). w.ledger) hangs.new_is))
      (λ number was is.
      let next = link_onward node (link_at old.links number) (link_at hangs.links number) was (hangs.each_link number) is in (
        next.0,
        ap (λ (w : World D). link_at w.links number) hangs.new_is ∙ next.1,
        loose_grows was next.0 next.2,
      ))

end_on : (was then now : Option ServerEnd) → EndStays was then → EndStays then now → EndStays was now
end_on None then now first second = subst (λ e. EndStays e now) first second
end_on (Some was) then now (inl same) second = subst (λ e. EndStays e now) same second
end_on (Some was) then now (inr gone) second = elim (subst (λ e. EndStays e now) gone second) [
  | inl same ↦ inr same
  | inr still ↦ inr still
]

link_on : (was then now : Link) → LinkGrows was then → LinkGrows then now → LinkGrows was now
link_on was then now first second =
    let up = first.up_read in
    let more_up = second.up_read in
    let down = first.down_read in
    let more_down = second.down_read in
    record {
      client = λ place is. second.client place (first.client place is);
      server = end_on was.server then.server now.server first.server second.server;
      up = begins_on was.up then.up now.up first.up second.up;
      down = begins_on was.down then.down now.down first.down second.down;
      up_read = omega (arith, up, more_up);
      down_read = omega (arith, down, more_down);
      broken = λ is.
          let one : StaysBroken was then = first.broken is in
          let other : StaysBroken then now = second.broken one.broken in
          record { broken = other.broken; up = other.up ∙ one.up; down = other.down ∙ one.down };
    }

pub grown_on : {D : Type 0} (old next new : World D) → HasGrown old next → HasGrown next new → HasGrown old new
grown_on old next new first second = record {
  records = λ node host is.
      let one = first.records node host is in
      let other = second.records node one.0 one.1 in
      (other.0, other.1, begins_on host.records one.0.records other.0.records one.2 other.2);
  ledger = begins_on old.ledger next.ledger new.ledger first.ledger second.ledger;
  octets = λ number link is.
      let one = first.octets number link is in
      let other = second.octets number one.0 one.1 in
      (other.0, other.1, link_on link one.0 other.0 one.2 other.2);
}

-- a session that is gone, with a reply after all others or none
closed_grows : (link : Link) (closing : Option Reply) → Begins link.down (closed_down link closing)
closed_grows link None = same_begins link.down
closed_grows link (Some reply) = (unless_broken link (reply_text reply), refl)

closed_silent : (link : Link) (closing : Option Reply) → link.broken ≡ true → closed_down link closing ≡ link.down
closed_silent link None is = refl
closed_silent link (Some reply) is = silent link link.down (reply_text reply) is

pub ended : {D : Type 0} (old new : World D) (number : ℕ) (closing : Option Reply) → EndsWith old new number closing
    → HasGrown old new
ended old new number closing is =
    grown old new (stays old new is.of.end.node is.of.host (record is.of.host { state = Up is.after }) is.of.host_at is.hosts refl)
    (same_ledger old new is.rest.1)
    (octets_of old new number is.of.link (ended_link is.of.link is.of.end closing) is.of.link_is is.links (record {
      client = λ place it. it;
      server = end_gone is.of.link.server is.of.end is.of.serves;
      up = same_begins is.of.link.up;
      down = closed_grows is.of.link closing;
      up_read = omega arith;
      down_read = omega arith;
      broken = λ it. record { broken = it; up = refl; down = closed_silent is.of.link closing it };
    }))
