-- Connections to next hops that match the configuration, call after call.
use Rattle.std.proofs.Common.{◌≡◌, ◌⊎◌, inl, inr, ℕ, Bool, List, [], Option, Result, Ok, Err, map, refl, sym, ap, subst}
use Rattle.std.proofs.lemmas.Bool.{false≢true}
use Rattle.std.specs.Prelude.{IfErr, IfOk, IfSome, IsOk, OnOk}
use Rattle.relay_disk.specs.Device.{DiskWords}
use Rattle.relay_routes.specs.Routes.{Route}
use Rattle.relay_routes.specs.declared.config.Config.{Config}
use Rattle.relay_loop.specs.Relay.{RelayState}
use Rattle.relay_loop.specs.declared.replying.ReplyPiece.{ReplyPiece}
use Rattle.relay_connections.specs.Replies.{HearRepliesIf}
use Rattle.relay_connections.specs.Served.{LeavesClients}
use Rattle.relay_connections.specs.declared.hearing.Replied.{Replied}
use Rattle.relay_next_hops.specs.Hearing.{AnswersEach, order_of, replies_of, told_of}
use Rattle.relay_next_hops.specs.Readiness.{hops_of}
use Rattle.relay_next_hops.specs.Tables.{TablesMatch}
use Rattle.relay_next_hops.specs.declared.next_hops.NextHops.{NextHops}
use Rattle.relay_run.specs.Hops.{HopsHear, HopsMatch}
use Rattle.relay_run.specs.Tidying.{IsCompacted, MayBeTrimmed}

-- what holds after a call that succeeded
if_well : {A E : Type 0} (end : Result A E) (X : Type 0) → OnOk end X → IsOk end → X
if_well (Ok value) X fact well = fact
if_well (Err fault) X fact well = absurd (false≢true well)

module _ {D : Type 0} where
  -- the spool was compacted, or not
  pub tidied_config : (honest : Type 0) (words : DiskWords D) (was_full : Bool) (old new : RelayState D) → (new ≡ old) ⊎ IsCompacted honest words was_full old new → new.node.config ≡ old.node.config
  tidied_config honest words was_full old new (inl same) = ap (λ (relay : RelayState D). relay.node.config) same
  tidied_config honest words was_full old new (inr compacted) = compacted.rest.config

  trimmed_config : (honest : Type 0) (words : DiskWords D) (old new : RelayState D) → (new ≡ old) ⊎ MayBeTrimmed honest words old new → new.node.config ≡ old.node.config
  trimmed_config honest words old new (inl same) = ap (λ (relay : RelayState D). relay.node.config) same
  trimmed_config honest words old new (inr trimmed) = trimmed.rest.config

module _ {S D : Type 0} where
  -- the tables match what they matched, and the configuration is the same
  pub hops_on : (one two : NextHops S) (old new : RelayState D) → new.node.config ≡ old.node.config → ((routes : List Route) → TablesMatch routes one → TablesMatch routes two)
      → HopsMatch one old → HopsMatch two new
  hops_on one two old new same keeps matches = subst (λ (config : Config). TablesMatch config.routes.routes two) (sym same) (keeps old.node.config.routes.routes matches)

  -- the tables and the configuration are the same
  pub hops_same : (one two : NextHops S) (old new : RelayState D) → two ≡ one → new.node.config ≡ old.node.config → HopsMatch one old → HopsMatch two new
  hops_same one two old new same config matches = hops_on one two old new config (λ routes matches. subst (TablesMatch routes) (sym same) matches) matches

  -- the tables and the relay are the same
  pub hops_still : (one two : NextHops S) (old new : RelayState D) → two ≡ one → new ≡ old → HopsMatch one old → HopsMatch two new
  hops_still one two old new same alike matches = hops_same one two old new same (ap (λ (relay : RelayState D). relay.node.config) alike) matches

  -- its other file was made shorter, or not
  pub trimmed_hops : {A E : Type 0} (result : Result A E) (honest : Type 0) (words : DiskWords D) (one two : NextHops S) (old new : RelayState D) → two ≡ one
      → OnOk result ((new ≡ old) ⊎ MayBeTrimmed honest words old new) → HopsMatch one old → OnOk result (HopsMatch two new)
  trimmed_hops (Ok value) honest words one two old new same trimmed matches = hops_same one two old new same (trimmed_config honest words old new trimmed) matches
  trimmed_hops (Err fault) honest words one two old new same trimmed matches = tt

  -- a turn with this result, and what the relay is after it
  pub resumed_hops : {A E T W : Type 0} (end : Result A E) (result : Result T W) (hops : T → NextHops S) (state : T → RelayState D) (turned : NextHops S) (before : RelayState D)
      → OnOk end (HopsMatch turned before) → IfOk result (λ after. (IsOk end → HopsMatch turned before) → HopsMatch (hops after) (state after)) → IfOk result (λ after. HopsMatch (hops after) (state after))
  resumed_hops end (Ok after) hops state turned before matches goes = goes (λ well. if_well end (HopsMatch turned before) matches well)
  resumed_hops end (Err why) hops state turned before matches goes = tt

-- Attempts heard what was gathered for them, and each connection got its result.
module _ {S D : Type 0} (honest : Type 0) (words : DiskWords D) (at tick : ℕ) (old called answered new : NextHops S) (before between asked after last : RelayState D) (replied : Option Replied) where
  abbrev Answers : NextHops S → NextHops S → Type 0
  Answers called answered = IfSome replied (λ replied. AnswersEach tick (order_of called.hops) replied.answered.items (hops_of called) (hops_of answered))

  hears_these : (replies : List ReplyPiece) → (map told_of replies ≡ replies_of old.hops) ⊎ (replies ≡ []) → HearRepliesIf honest words replies at before between replied
      → called ≡ old → asked ≡ between → Answers called answered → LeavesClients honest words asked after → new ≡ answered → last ≡ after
      → HopsHear honest words at tick old new before last
  hears_these replies own heard same alike answers rest late ends = record {
    replies = replies;
    own = own;
    replied = replied;
    between = between;
    heard = heard;
    answered = subst (λ (it : NextHops S). Answers it new) same (subst (Answers called) (sym late) answers);
    rest = subst (λ (it : RelayState D). LeavesClients honest words it last) alike (subst (LeavesClients honest words asked) (sym ends) rest);
  }

  pub hears_gathered : {V E : Type 0} (items : V → List ReplyPiece) (gathered : Result V E) → IfOk gathered (λ replies. map told_of (items replies) ≡ replies_of old.hops)
      → IfOk gathered (λ replies. HearRepliesIf honest words (items replies) at before between replied) → IfErr gathered (λ _. HearRepliesIf honest words [] at before between replied)
      → called ≡ old → asked ≡ between → Answers called answered → LeavesClients honest words asked after → new ≡ answered → last ≡ after
      → HopsHear honest words at tick old new before last
  hears_gathered items (Ok replies) own heard unheard = hears_these (items replies) (inl own) heard
  hears_gathered items (Err fault) own heard unheard = hears_these [] (inr refl) unheard
