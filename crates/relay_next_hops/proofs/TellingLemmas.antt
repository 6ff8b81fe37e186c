-- What the log has heard of a connection, after each step of it.
use Rattle.std.proofs.Common.{◌≡◌, ◌≢◌, ◌↔◌, ℕ, Bool, true, false, IsTrue, List, [], ◌∷◌, ◌++◌, take, drop, refl, sym}
use Rattle.std.proofs.Common.{ap, ◌∙◌, subst, Option, None, Some, MatchOption, Result}
use Rattle.std.proofs.lemmas.List.{append_assoc, append-nil, take-append-drop}
use Rattle.relay_connections.specs.Channel.{unread_of}
use Rattle.relay_connections.specs.declared.channel.Channel.{Channel}
use Rattle.relay_lines.specs.Reply.{Reply}
use Rattle.relay_records.specs.declared.fault.NodeFault.{NodeFault}
use Rattle.relay_loop.specs.declared.hops.Answered.{Answered}
use Rattle.relay_log.specs.Talk.{HasHeard, HasKept}
use Rattle.relay_log.specs.declared.talk.Talk.{Talk}
use Rattle.relay_next_hops.specs.Telling.{HasTold, HasToldAll, used_of}
use Rattle.relay_next_hops.specs.declared.hop.Hop.{Hop}

-- the same was read and heard
pub told_same : {S : Type 0} (old new : Hop S) (used : List ℕ) → new.talk ≡ old.talk
    → unread_of new.channel ≡ unread_of old.channel → HasTold old used → HasTold new used
told_same old new used talk unread told =
    subst (λ (t : Talk). HasHeard t (used ++ unread_of new.channel)) (sym talk)
    (subst (λ (octets : List ℕ). HasHeard old.talk (used ++ octets)) (sym unread) told)

-- some of what was read is used
pub told_used : {S : Type 0} (old new : Hop S) (used : List ℕ) (count : ℕ) → new.talk ≡ old.talk
    → unread_of new.channel ≡ drop count (unread_of old.channel) → HasTold old used
    → HasTold new (used ++ take count (unread_of old.channel))
told_used old new used count talk unread told =
    let octets : List ℕ = unread_of old.channel in
    let same : used ++ octets ≡ (used ++ take count octets) ++ unread_of new.channel =
    ap (λ (o : List ℕ). used ++ o) (sym (take-append-drop count octets))
    ∙ sym (append_assoc used (take count octets) (drop count octets))
    ∙ ap (λ (o : List ℕ). (used ++ take count octets) ++ o) (sym unread) in
    subst (λ (t : Talk). HasHeard t ((used ++ take count octets) ++ unread_of new.channel)) (sym talk)
    (subst (λ (o : List ℕ). HasHeard old.talk o) same told)

-- octets are heard after all that were read before are used
pub told_more : (old new : Talk) (used before octets : List ℕ) → before ≡ []
    → ((heard : List ℕ) → HasHeard old heard → HasHeard new (heard ++ octets))
    → HasHeard old (used ++ before) → HasHeard new (used ++ octets)
told_more old new used before octets none hears told =
    hears used (subst (λ (o : List ℕ). HasHeard old o) (append-nil used)
    (subst (λ (o : List ℕ). HasHeard old (used ++ o)) none told))

-- a read that brought octets began after all were used
pub read_some : {S : Type 0} (old : Channel S) (filled : Bool) → filled ≡ true
    → (unread_of old ≢ [] → filled ≡ false) → unread_of old ≡ []
read_some old filled some none = by (unread_of old) refl
  where
    by : (octets : List ℕ) → unread_of old ≡ octets → octets ≡ []
    by [] is = refl
    by (octet ∷ octets) is =
        let brought : filled ≡ false = none (λ e. absurd (cc (sym is ∙ e))) in absurd (cc (sym some ∙ brought))

-- a read that brought none has changed none
pub read_none : {S : Type 0} (old new : Channel S) (filled : Bool) → filled ≡ false
    → (unread_of old ≢ [] → new ≡ old) → (unread_of old ≡ [] → IsTrue filled ↔ (unread_of new ≢ []))
    → unread_of new ≡ unread_of old
read_none old new filled nothing stays came = by (unread_of old) refl
  where
    empty : unread_of old ≡ [] → (octets : List ℕ) → unread_of new ≡ octets → octets ≡ []
    empty was [] is = refl
    empty was (octet ∷ octets) is =
        let brought : filled ≡ true = (came was).1 (λ e. absurd (cc (sym is ∙ e))) in absurd (cc (sym brought ∙ nothing))

    by : (octets : List ℕ) → unread_of old ≡ octets → unread_of new ≡ octets
    by [] is = empty is (unread_of new) refl
    by (octet ∷ octets) is = ap unread_of (stays (λ e. absurd (cc (sym is ∙ e)))) ∙ is

-- the steps of a connection: one whose attempt runs; one that hasn't begun; and one that begins
pub told_running : {S : Type 0} (old new : Hop S) (used : List ℕ) (attempt : ℕ) → old.attempt ≡ Some attempt
    → new.attempt ≡ old.attempt → (HasTold old used → HasTold new used) → HasToldAll old used → HasToldAll new used
told_running old new used attempt is same step told =
    subst (λ (a : Option ℕ). MatchOption a ((used ≡ []) × HasHeard new.talk []) (λ attempt. HasTold new used))
    (sym (same ∙ is))
    (step (subst (λ (a : Option ℕ). MatchOption a ((used ≡ []) × HasHeard old.talk []) (λ attempt. HasTold old used))
    is told))

pub told_waiting : {S : Type 0} (old new : Hop S) (used : List ℕ) → old.attempt ≡ None → new.attempt ≡ old.attempt
    → new.talk ≡ old.talk → HasToldAll old used → HasToldAll new used
told_waiting old new used is same talk told =
    let silent : (used ≡ []) × HasHeard old.talk [] =
    subst (λ (a : Option ℕ). MatchOption a ((used ≡ []) × HasHeard old.talk []) (λ attempt. HasTold old used))
    is told in
    subst (λ (a : Option ℕ). MatchOption a ((used ≡ []) × HasHeard new.talk []) (λ attempt. HasTold new used))
    (sym (same ∙ is)) (silent.0, subst (λ (t : Talk). HasHeard t []) (sym talk) silent.1)

pub told_begun : {S : Type 0} (old new : Hop S) (used : List ℕ) → old.attempt ≡ None
    → (old.attempt ≡ None → HasHeard old.talk [] → HasToldAll new []) → HasToldAll old used → HasToldAll new used
told_begun old new used is begins told =
    let silent : (used ≡ []) × HasHeard old.talk [] =
    subst (λ (a : Option ℕ). MatchOption a ((used ≡ []) × HasHeard old.talk []) (λ attempt. HasTold old used))
    is told in
    subst (λ (u : List ℕ). HasToldAll new u) (sym silent.0) (begins is silent.1)

-- octets were read while all before them were used, and the log has heard them
pub told_read : {S : Type 0} (old waits : Hop S) (heard : Talk) (piece used : List ℕ) → unread_of old.channel ≡ []
    → waits.talk ≡ old.talk → piece ≡ unread_of waits.channel
    → ((before : List ℕ) → HasHeard waits.talk before → HasHeard heard (before ++ piece)) → HasTold old used
    → HasHeard heard (used ++ unread_of waits.channel)
told_read old waits heard piece used none talk is hears told =
    subst (λ (octets : List ℕ). HasHeard heard (used ++ octets)) is
    (told_more waits.talk heard used (unread_of old.channel) piece none hears
    (subst (λ (t : Talk). HasHeard t (used ++ unread_of old.channel)) (sym talk) told))

-- an attempt has begun, and the log has heard the greeting
pub told_greeting : {S : Type 0} (old waits new : Hop S) (noted : Talk) (piece : List ℕ) (attempt : ℕ)
    → HasHeard old.talk [] → waits.talk ≡ old.talk
    → ((octets : List ℕ) (replies : List Reply) → HasKept waits.talk octets replies → HasKept noted octets replies)
    → ((before : List ℕ) → HasHeard noted before → HasHeard new.talk (before ++ piece))
    → piece ≡ unread_of new.channel → new.attempt ≡ Some attempt → HasToldAll new []
told_greeting old waits new noted piece attempt silent talk notes hears is begun =
    let still : HasHeard waits.talk [] = subst (λ (t : Talk). HasHeard t []) (sym talk) silent in
    subst (λ (a : Option ℕ). MatchOption a (◌≡◌ {A = List ℕ} [] [] × HasHeard new.talk []) (λ attempt. HasTold new []))
    (sym begun)
    (subst (λ (octets : List ℕ). HasHeard new.talk octets) is
    (hears [] (still.0, notes [] still.0 still.1)))

-- no attempt has begun, and the log has heard nothing
pub told_nothing : {S : Type 0} (new : Hop S) → new.attempt ≡ None → HasHeard new.talk [] → HasToldAll new []
told_nothing new none silent =
    subst (λ (a : Option ℕ). MatchOption a (◌≡◌ {A = List ℕ} [] [] × HasHeard new.talk []) (λ attempt. HasTold new []))
    (sym none) (refl, silent)

-- the octets that an answer says were used
pub told_answered : {S : Type 0} (old new : Hop S) (used : List ℕ) (answered : Result Answered NodeFault) (count : ℕ)
    → used_of answered ≡ count → new.talk ≡ old.talk → unread_of new.channel ≡ drop count (unread_of old.channel)
    → HasTold old used → HasTold new (used ++ take (used_of answered) (unread_of old.channel))
told_answered old new used answered count is talk unread told =
    subst (λ (n : ℕ). HasTold new (used ++ take n (unread_of old.channel))) (sym is)
    (told_used old new used count talk unread told)
