-- The next time at which a node has work.
use Rattle.std.specs.Prelude.{◌≡◌, ◌≢◌, ℕ, ◌<◌, ◌≤◌, Bool, false, not, List, [], Option, None, Some}
use Rattle.std.specs.Option.{option_map_or}
use Rattle.relay_trace.specs.DateTime.{last_second}
use Rattle.relay_routes.specs.Routes.{RouteTable}
use Rattle.relay_book.specs.declared.message.Message.{Message}
use Rattle.relay_book.specs.Queue.{Queue}
use Rattle.relay_attempts.specs.declared.runs.Run.{Run}
use Rattle.relay_attempts.specs.Hops.{hop_of_place}
use Rattle.relay_attempts.specs.Runs.{is_running}
use Rattle.relay_attempts.specs.Work.{works_of}

-- the place has a hop, and no attempt for its message and that hop is running
abbrev pub is_untried : RouteTable → List (Option Run) → ℕ → Message → ℕ → Bool
is_untried table runs number message place =
    option_map_or (λ hop. not (is_running runs number hop))
    (hop_of_place table message.accept.envelope.recipients place) false

-- The words below are of a queue, where mail goes by this table and these attempts are running.
module _ (table : RouteTable) (runs : List (Option Run)) (queue : Queue) where
  -- there is work at a time, and none from now on until then
  pub record IsNext (now due : ℕ) : Type 0 where
    pub later : now ≤ due
    pub works : works_of table runs due queue ≢ []
    pub idle : (sooner : ℕ) → now ≤ sooner → sooner < due → works_of table runs sooner queue ≡ []

  -- the least time from now on at which there is work, and none if there is none at any time
  abbrev pub IsNextDue : ℕ → Option ℕ → Type 0
  IsNextDue now None = (moment : ℕ) → moment ≤ last_second → works_of table runs moment queue ≡ []
  IsNextDue now (Some due) = IsNext now due
