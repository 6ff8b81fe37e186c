-- A node that went down, and is opened again.
use Rattle.std.proofs.Common.{◌≡◌, ◌+◌, ◌-◌, ℕ, false, List, [], ◌∷◌, ◌++◌, Some, refl, subst, ap, ◌∙◌, arith}
use Rattle.std.specs.Prelude.{slice_get, slice_set}
use Rattle.relay_records.specs.declared.noted.Noted.{Noted}
use Rattle.relay_world.specs.declared.attempt.Attempt.{Attempt}
use Rattle.relay_world.specs.declared.attempt.Fate.{Fate}
use Rattle.relay_world.specs.declared.line.Line.{Line}
use Rattle.relay_world.specs.declared.line.Line.TheVariants.{Accepted}
use Rattle.relay_world.specs.declared.link.Link.{Link}
use Rattle.relay_world.specs.Ledger.{lines_by}
use Rattle.relay_world.specs.Steps.{IsPut, IsPutAt}
use Rattle.relay_world.specs.Stops.{FindsAccept, FindsOutcome}
use Rattle.relay_world.specs.World.{FromClient, World, link_at}
use Rattle.relay_hosts.specs.Links.{is_running}
use Rattle.relay_events.specs.Restart.{FindsBy}
use Rattle.relay_events.proofs.CountLemmas.{lines_less, running_less, sessions_same}
use Rattle.relay_events.proofs.PlaceLemmas.{link_put, link_there, value_put}

-- an accept that was found
pub accept_found : {D : Type 0} (old : World D) (node number : ℕ) (note : Noted) (link moved : Link) (ledger : List Line)
    → link_at old.links number ≡ Some link → moved ≡ record link { up_read = link.up_read + note.used }
    → ledger ≡ old.ledger ++ Accepted node note.number note.accepted number ∷ []
    → FindsBy old (record old { links = slice_set old.links (number - 1) moved; ledger = ledger })
    (lines_by node note (FromClient number))
    (FindsAccept old (record old { links = slice_set old.links (number - 1) moved; ledger = ledger }) number note.used)
accept_found old node number note link moved ledger is moved_is ledger_is =
    let same = sessions_same old.links (number - 1) link moved (link_there old.links number link is)
    (ap (λ (l : Link). l.server) moved_is) in
    record {
      hosts = refl;
      clock = refl;
      ledger = ledger_is;
      finds = record {
        link = link;
        link_is = is;
        links = subst (λ l. IsPutAt old.links (slice_set old.links (number - 1) moved) number l) moved_is
            (link_put old.links number link moved is);
        attempts = refl;
      };
      lines_fewer = omega arith;
      ends_fewer = omega (arith, same);
    }

-- an outcome that was found
pub outcome_found : {D : Type 0} (old : World D) (number place used : ℕ) (fate : Fate) (lines : List Line) (link moved : Link)
    (attempt ended : Attempt) (ledger : List Line) → link_at old.links number ≡ Some link
    → moved ≡ record link { down_read = link.down_read + used } → slice_get old.attempts place ≡ Some attempt
    → ended ≡ record attempt { fate = fate } → is_running fate ≡ false → ledger ≡ old.ledger ++ lines
    → FindsBy old
    (record old {
      links = slice_set old.links (number - 1) moved;
      attempts = slice_set old.attempts place ended;
      ledger = ledger;
    }) lines
    (FindsOutcome old
    (record old {
      links = slice_set old.links (number - 1) moved;
      attempts = slice_set old.attempts place ended;
      ledger = ledger;
    }) number place used fate)
outcome_found old number place used fate lines link moved attempt ended ledger is moved_is there ended_is over ledger_is =
    let same = sessions_same old.links (number - 1) link moved (link_there old.links number link is)
    (ap (λ (l : Link). l.server) moved_is) in
    let stopped : is_running ended.fate ≡ false = ap (λ (a : Attempt). is_running a.fate) ended_is ∙ over in
    let lines_now = lines_less old.attempts place attempt ended there stopped in
    let running_now = running_less old.attempts place attempt ended there stopped in
    record {
      hosts = refl;
      clock = refl;
      ledger = ledger_is;
      finds = record {
        link = link;
        link_is = is;
        links = subst (λ l. IsPutAt old.links (slice_set old.links (number - 1) moved) number l) moved_is
            (link_put old.links number link moved is);
        attempt = attempt;
        attempt_at = there;
        attempts = subst (λ a. IsPut old.attempts (slice_set old.attempts place ended) place a) ended_is
            (value_put old.attempts place attempt ended there);
      };
      lines_fewer = omega (arith, lines_now);
      ends_fewer = omega (arith, same, running_now);
    }
