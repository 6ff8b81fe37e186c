-- Requests to flush, hold and release mail: what they do, and their answers.
use Rattle.std.specs.Prelude.{◌≡◌, ◌⊎◌, ℕ, Bool, true, false, not, List, ◌++◌, Option, None, Some, IsSomeAnd, is_some}
use Rattle.std.specs.Prelude.{IfOk, MatchBool, MatchResult, Result, codes, decimal}
use Rattle.std.specs.Global.{Vec}
use Rattle.relay_book.specs.Queue.{held_of, message_of}
use Rattle.relay_control.specs.Answer.{end_text, error_text, line_text}
use Rattle.relay_control.specs.Held.{Sets, holds_scope}
use Rattle.relay_control.specs.declared.answer.End.TheVariants.{Done}
use Rattle.relay_control.specs.declared.request.Request.{Request}
use Rattle.relay_control.specs.declared.request.Request.TheVariants.{Flush, Hold, Release, Return, Discard, Reload}
use Rattle.relay_control.specs.declared.request.Request.TheVariants.{Drain}
use Rattle.relay_control.specs.declared.scope.Scope.{Scope}
use Rattle.relay_control.specs.declared.scope.Scope.TheVariants.{Hop, Message}
use Rattle.relay_next_hops.specs.Lanes.{ListsMore}
use Rattle.relay_next_hops.specs.Listing.{KeepsListed}
use Rattle.relay_next_hops.specs.Steering.{FlushesEach, relisted, with_lanes}
use Rattle.relay_next_hops.specs.declared.next_hops.NextHops.{NextHops}
use Rattle.relay_node.specs.Node.{NodeState}
use Rattle.relay_routes.specs.Routes.{place_of}
use Rattle.relay_run.specs.Answers.{IsText}
use Rattle.relay_run.specs.Holding.{IsHeldAnswer, IsKept, expiry_of}
use Rattle.relay_run.specs.Reloading.{HoldsAlike}
use Rattle.relay_run.specs.declared.held_mail.HeldMail.{HeldMail}

-- the mail of a scope is there: a route has the next hop, or the message is queued
abbrev pub is_there : {D : Type 0} → NodeState D → Scope → Bool
is_there node (Hop name) = is_some (place_of node.config.routes.routes name)
is_there node (Message number) = is_some (message_of node.records.queue.messages number)

-- the answer if it isn't
abbrev pub missing_text : Scope → List ℕ
missing_text (Hop name) = error_text (codes "no route has this next hop")
missing_text (Message number) = error_text (codes "message " ++ decimal number ++ codes " isn't queued")

-- below: what a request does to the mail that a node has for its next hops
module _ {D S : Type 0} (node : NodeState D) (old new : NextHops S) where
  -- the mail isn't there: the answer says so, and nothing has changed
  pub record IsMissing {E : Type 0} (scope : Scope) (answer : Result (Vec ℕ) E) : Type 0 where
    pub same : new ≡ old
    pub answered : IsText answer (missing_text scope)

  -- the places of this mail are listed to be tried now, due or not, and the answer counts them
  pub record IsFlushAnswer (scope : Option Scope) (answer : List ℕ) : Type 0 where
    pub count : ℕ
    pub answer_is : answer ≡ line_text (codes "flushed recipients=" ++ decimal count) ++ end_text Done
    pub listed : FlushesEach node old.hops.hops old.lanes.held scope (held_of node.records.queue) count new.lanes

  -- A request to flush all mail, or that of a scope, was served. If there was memory, it is listed; connections and
  -- what was listed stay in any case.
  pub record Flushes {E : Type 0} (scope : Option Scope) (answer : Result (Vec ℕ) E) : Type 0 where
    pub hops : new.hops ≡ old.hops
    pub more : ListsMore old.lanes new.lanes
    pub kept : KeepsListed old.lanes new.lanes
    pub answered : IfOk answer (λ octets. IsFlushAnswer scope octets.items)

  -- the same, if the mail is there
  abbrev pub FlushesThere : {E : Type 0} → Scope → Result (Vec ℕ) E → Type 0
  FlushesThere scope answer =
      MatchBool (is_there node scope) (Flushes (Some scope) answer) (IsMissing scope answer)

  -- Nothing has changed but what is held, and perhaps that all due mail is listed again at the next turn.
  abbrev pub ChangesHeld : Type 0
  ChangesHeld =
      with_lanes (relisted old.lanes.held new.lanes) new ≡ with_lanes (relisted old.lanes.held old.lanes) old

  -- of the mail of a scope it is said in the file that it is held, or isn't
  module _ {O : Type 0} (has_replaced : O → List ℕ → List ℕ → Type 0) (files : O) (file : HeldMail) where
    -- the mail is held, by the file too, and the answer says so
    pub record IsHeld (scope : Scope) (answer : List ℕ) : Type 0 where
      pub sets : Sets scope true old.lanes.held new.lanes.held
      pub kept : IsKept has_replaced files file new.lanes.held
      pub answer_is : IsHeldAnswer (not (holds_scope scope old.lanes.held)) (expiry_of node scope) answer

    -- the file can't be written: the same mail is held as before, and the answer says why
    pub record IsNotHeld (answer : List ℕ) : Type 0 where
      pub alike : HoldsAlike old.lanes.held new.lanes.held
      pub answer_is : answer ≡ error_text (codes "the file of held mail can't be written")

    -- a request to hold mail that is there was served; without memory for an answer it is held or not
    pub record Holds {E : Type 0} (scope : Scope) (answer : Result (Vec ℕ) E) : Type 0 where
      pub only : ChangesHeld
      pub answered : MatchResult answer (λ octets. IsHeld scope octets.items ⊎ IsNotHeld octets.items)
          (λ _. Sets scope true old.lanes.held new.lanes.held ⊎ HoldsAlike old.lanes.held new.lanes.held)

    -- the same, if the mail is there
    abbrev pub HoldsThere : {E : Type 0} → Scope → Result (Vec ℕ) E → Type 0
    HoldsThere scope answer = MatchBool (is_there node scope) (Holds scope answer) (IsMissing scope answer)

    -- the answer to a request that has released mail: the file says so too, or it can't be written
    abbrev pub IsReleaseAnswer : List ℕ → Type 0
    IsReleaseAnswer answer =
        (IsKept has_replaced files file new.lanes.held × (answer ≡ line_text (codes "released") ++ end_text Done))
        ⊎ (answer
        ≡ error_text (codes "released until the relay restarts: the file of held mail can't be written"))

    -- a request to release mail was served; the answer says if it wasn't held
    pub record Releases {E : Type 0} (scope : Scope) (answer : Result (Vec ℕ) E) : Type 0 where
      pub sets : Sets scope false old.lanes.held new.lanes.held
      pub rest : new ≡ with_lanes (relisted new.lanes.held old.lanes) old
      pub answered : MatchBool (holds_scope scope old.lanes.held) (IfOk answer (λ octets. IsReleaseAnswer octets.items))
          (IsText answer (error_text (codes "it isn't held")))

    -- What a request did to the mail that next hops are to get. Others than these do nothing to it, and a drain is
    -- answered when it is done.
    abbrev pub Steers : {E : Type 0} → Request → Option (Result (Vec ℕ) E) → Type 0
    Steers (Flush None) answer = IsSomeAnd answer (Flushes None)
    Steers (Flush (Some scope)) answer = IsSomeAnd answer (FlushesThere scope)
    Steers (Hold scope) answer = IsSomeAnd answer (HoldsThere scope)
    Steers (Release scope) answer = IsSomeAnd answer (Releases scope)
    Steers (Return names) answer = new ≡ old
    Steers (Discard names) answer = new ≡ old
    Steers Reload answer = new ≡ old
    Steers (Drain seconds) answer = (new ≡ old) × (answer ≡ None)
