-- a node that goes down in a call that heard octets keeps a world bound, while attempts of others still run on its links.
use Rattle.std.proofs.Common.{inl, inr, ◌≡◌, ◌≢◌, ◌≤◌, ℕ, zero, suc, nat_eq, Bool, true, false, cond, List, length, map, Option, None, Some, refl, sym, subst, ap, ◌∙◌, arith}
use Rattle.std.specs.Prelude.{slice_get}
use Rattle.std.specs.Option.{option_map}
use Rattle.std.proofs.lemmas.Bool.{cases_eq, false≢true}
use Rattle.std.proofs.lemmas.Option.{none-some, same_Some}
use Rattle.relay_disk.specs.Device.{DiskWords}
use Rattle.relay_book.specs.declared.change.Change.{Change}
use Rattle.relay_world.specs.declared.attempt.Attempt.{Attempt}
use Rattle.relay_world.specs.declared.link.Link.{Link}
use Rattle.relay_world.specs.declared.link.ServerEnd.{ServerEnd}
use Rattle.relay_world.specs.Bound.{HasSession, HasSlot, IsBound}
use Rattle.relay_world.specs.Crashes.{CrashingInHearingKeeps, CrashesHearing, has_end_of, is_tried_for, let_go, let_go_link, serves_for}
use Rattle.relay_world.specs.HangUp.{HangsUp, IsLetGo, broken_link, hung_up_attempt, hung_up_end, hung_up_link}
use Rattle.relay_world.specs.Steps.{IsPutAt, SessionOf}
use Rattle.relay_world.specs.Stops.{NoAttempt, NoSessionBut, StopsHearing, cut_off_link}
use Rattle.relay_world.specs.World.{World, link_at}
use Rattle.relay_world.proofs.HangUpLemmas.{as_long, attempt_was, get_map, hanging_up_keeps, link_map, link_was, no_attempt, no_session}
use Rattle.relay_world.proofs.PieceLemmas.{same_number, with_at, with_at-length, with_at-put}
use Rattle.relay_world.proofs.StopHearLemmas.{stopping_hearing_keeps}

-- a link put under a number
put_link : (links : List Link) (number : ℕ) (was now : Link) → link_at links number ≡ Some was
    → (more : List Link) × IsPutAt links more number now × (length more ≤ length links)
put_link links zero was now is = absurd (none-some was is)
put_link links (suc n) was now is = (
  with_at links n now,
  record {
    at = (with_at-put links n now was is).at;
    others = others;
    grows = let same = with_at-length links n now in omega (arith, same);
  },
  (let same = with_at-length links n now in omega (arith, same)),
)
  where
    others : (other : ℕ) → other ≢ suc n → link_at (with_at links n now) other ≡ link_at links other
    others zero off = refl
    others (suc m) off = (with_at-put links n now was is).others m (λ same. off (ap suc same))

-- what a stop makes of a link is a letting go
let_go_if : (mine : Bool) (node : ℕ) (link : Link)
    → IsLetGo node (Some link) (Some (cond mine (broken_link (hung_up_link node link)) link))
let_go_if true node link = inr (inr (inr refl))
let_go_if false node link = inl refl

pub let_go_one : (node : ℕ) (attempts : List Attempt) (was : Option Link) → IsLetGo node was (option_map (let_go_link node attempts) was)
let_go_one node attempts None = inl refl
let_go_one node attempts (Some link) = let_go_if (has_end_of node attempts link) node link

-- a link with a session of the node has an end of it
serves_true : (node : ℕ) (server : Option ServerEnd) (end : ServerEnd) → server ≡ Some end → end.node ≡ node
    → serves_for node server ≡ true
serves_true node None end is its_node = absurd (none-some end is)
serves_true node (Some other) end is its_node =
    ap (λ (e : ServerEnd). nat_eq e.node node) (same_Some other end is)
    ∙ ap (λ n. nat_eq n node) its_node ∙ same_number node

has_end : (node : ℕ) (attempts : List Attempt) (link : Link) (end : ServerEnd) → link.server ≡ Some end → end.node ≡ node
    → has_end_of node attempts link ≡ true
has_end node attempts link end is its_node =
    ap (λ b. cond b true (is_tried_for node attempts link.client)) (serves_true node link.server end is its_node)

no_session_if : (mine : Bool) (node : ℕ) (link : Link) (session : ℕ)
    → ((end : ServerEnd) → link.server ≡ Some end → end.node ≡ node → mine ≡ true)
    → HasSession (cond mine (broken_link (hung_up_link node link)) link) node session → ⊥
no_session_if true node link session mine has =
    no_session node link session (record { end = has.end; serves = has.serves; its_node = has.its_node; its_session = has.its_session })
no_session_if false node link session mine has = false≢true (mine has.end has.serves has.its_node)

pub no_session_left : (node : ℕ) (attempts : List Attempt) (link : Link) (session : ℕ)
    → HasSession (let_go_link node attempts link) node session → ⊥
no_session_left node attempts link session has =
    no_session_if (has_end_of node attempts link) node link session (λ end is its_node. has_end node attempts link end is its_node) has

-- the session's own link
own_end : (mine : Bool) (link : Link) (end : ServerEnd) → mine ≡ true
    → cond mine (record end { session = None }) end ≡ record end { session = None }
own_end true link end is = refl
own_end false link end is = absurd (false≢true is)

own_if : (mine : Bool) (node : ℕ) (link : Link) (end : ServerEnd) → mine ≡ true → link.server ≡ Some end → end.node ≡ node
    → cond mine (broken_link (hung_up_link node link)) link ≡ cut_off_link (broken_link link) end
own_if true node link end is serves its_node =
    ap (λ s. record link { server = s; broken = true })
    (ap (λ o. option_map (hung_up_end node) o) serves
    ∙ ap (λ e. Some e) (own_end (nat_eq end.node node) link end (ap (λ n. nat_eq n node) its_node ∙ same_number node)))
own_if false node link end is serves its_node = absurd (false≢true is)

module _ {D : Type 0} (honest : Type 0) (words : DiskWords D) (old new : World D) (lists : List (List Change)) (number count : ℕ)
    (bound : IsBound honest words old lists) (crash : CrashesHearing honest words old new number count) where
  abbrev node : ℕ
  node = crash.of.end.node

  abbrev links_now : List Link
  links_now = map (let_go_link node old.attempts) old.links

  abbrev attempts_now : List Attempt
  attempts_now = map (hung_up_attempt node) old.attempts

  pub its_link : link_at links_now number ≡ Some (let_go_link node old.attempts crash.of.link)
  its_link = link_map (let_go_link node old.attempts) old.links number
      ∙ ap (λ o. option_map (let_go_link node old.attempts) o) crash.of.link_is

  -- all is let go but the session of the call
  pub but : (more : List Link) × IsPutAt links_now more number (broken_link crash.of.link) × (length more ≤ length links_now)
  but = put_link links_now number (let_go_link node old.attempts crash.of.link) (broken_link crash.of.link) its_link

  abbrev pub middle : World D
  middle = record old { links = but.0; attempts = attempts_now }

  each_link : (other : ℕ) → IsLetGo node (link_at old.links other) (link_at but.0 other)
  each_link other = elim (cases_eq other number) [
    | inl same ↦ subst (λ n. IsLetGo node (link_at old.links n) (link_at but.0 n)) (sym same)
        (inr (inr (inl (but.1.at ∙ ap (λ o. option_map broken_link o) (sym crash.of.link_is)))))
    | inr off ↦ subst (λ o. IsLetGo node (link_at old.links other) o)
        (sym (but.1.others other off ∙ link_map (let_go_link node old.attempts) old.links other))
        (let_go_one node old.attempts (link_at old.links other))
  ]

  pub hangs : HangsUp old middle node
  hangs = record {
    links = but.0;
    each_link = each_link;
    grows = let one = as_long (let_go_link node old.attempts) old.links in let two = but.1.grows in omega (arith, one, two);
    attempts = attempts_now;
    each_attempt = λ place. inr (get_map (hung_up_attempt node) old.attempts place);
    new_is = refl;
  }

  of_middle : SessionOf middle number
  of_middle = record {
    link = broken_link crash.of.link;
    link_is = but.1.at;
    end = crash.of.end;
    serves = crash.of.serves;
    session = crash.of.session;
    goes_on = crash.of.goes_on;
    host = crash.of.host;
    host_at = crash.of.host_at;
    before = crash.of.before;
    up = crash.of.up;
  }

  none_else : NoSessionBut middle node number
  none_else other link session off is has =
      let was = link_was (let_go_link node old.attempts) (link_at old.links other) link
      (sym (link_map (let_go_link node old.attempts) old.links other) ∙ sym (but.1.others other off) ∙ is) in
      no_session_left node old.attempts was.0 session (subst (λ l. HasSession l node session) was.1 has)

  none_runs : NoAttempt middle node
  none_runs place attempt slot is has =
      let was = attempt_was (hung_up_attempt node) (slice_get old.attempts place) attempt
      (sym (get_map (hung_up_attempt node) old.attempts place) ∙ is) in
      no_attempt node was.0 slot (subst (λ a. HasSlot a node slot) was.1 has)

  abbrev pub crashed : World D
  crashed = record (let_go node old) { hosts = crash.down.hosts }

  links_put : IsPutAt but.0 links_now number (cut_off_link (broken_link crash.of.link) crash.of.end)
  links_put = record {
    at = its_link ∙ ap (λ l. Some l) (own_if (has_end_of node old.attempts crash.of.link) node crash.of.link crash.of.end
        (has_end node old.attempts crash.of.link crash.of.end crash.of.serves refl) crash.of.serves refl);
    others = λ other off. sym (but.1.others other off);
    grows = but.2;
  }

  pub stops : StopsHearing honest words middle crashed number count
  unfolding of_middle
  stops = record {
    of = of_middle;
    no_session = none_else;
    no_attempt = none_runs;
    stopped = crash.stopped;
    failed = crash.failed;
    cuts = crash.cuts;
    noted = crash.noted;
    note_is = crash.note_is;
    disk = crash.disk;
    left = crash.left;
    hosts = crash.down.put;
    links = links_put;
    rest = (refl, refl, refl, crash.down.as_many);
  }

  pub crashed_hearing : IsBound honest words new lists
  crashed_hearing =
      subst (λ w. IsBound honest words w lists) (sym crash.down.new_is)
      (stopping_hearing_keeps honest words middle crashed lists number count
      (hanging_up_keeps honest words old middle lists node bound hangs) stops)

pub crashing_in_hearing_keeps : {D : Type 0} (honest : Type 0) (words : DiskWords D) → CrashingInHearingKeeps honest words
crashing_in_hearing_keeps honest words old new lists number count bound crash =
    crashed_hearing honest words old new lists number count bound crash
