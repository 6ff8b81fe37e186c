-- What a call under the lock leaves of the node's list.
use Rattle.std.proofs.Common.{◌≡◌, ℕ, ◌+◌, Bool, true, false, List, [], ◌∷◌, ◌++◌, map, Result, Ok, Err, Some, refl, sym, ap, ◌∙◌, subst, arith, append_assoc, append-nil, length-append}
use Rattle.std.proofs.lemmas.List.{map-append}
use Rattle.relay_disk.specs.Device.{DiskWords}
use Rattle.relay_routes.specs.declared.config.Config.{Config}
use Rattle.relay_server.specs.declared.offer.Answer.{Answer}
use Rattle.relay_server.specs.declared.offer.Answer.TheVariants.{Queued, Full}
use Rattle.relay_server.specs.Dialogue.{Offered}
use Rattle.relay_book.specs.declared.change.Accept.{Accept}
use Rattle.relay_book.specs.declared.change.Change.{Change}
use Rattle.relay_book.specs.declared.change.Change.TheVariants as change
use Rattle.relay_records.specs.declared.fault.NodeFault.{NodeFault}
use Rattle.relay_records.specs.declared.fault.NodeFault.TheVariants.{NoMemory, Stopped, Unknown, TooMany, NotDue, Busy, Open, NoSecond, Full as NoNumber}
use Rattle.relay_records.specs.Records.{Keeps, Kept}
use Rattle.relay_node.specs.Admission.{Admits, CutsOffer, IsAdmitted}
use Rattle.relay_node.specs.Node.{RefusesToHear}
use Rattle.relay_hub.specs.Hub.{Answers, Gives, GrowsBy, HasGrown, HasList, with_accepts}

by_life : {P : Type 0} → (b : Bool) → (b ≡ true → P) → (b ≡ false → P) → P
by_life true live stopped = live refl
by_life false live stopped = stopped refl

not_both : (b : Bool) → b ≡ true → b ≡ false → ⊥
not_both b is isnt = cc

-- a good answer is no fault
pub ok_is_no_err : {A : Type 0} (x : A) (fault : NodeFault) → ◌≡◌ {A = Result A NodeFault} (Ok x) (Err fault) → ⊥
ok_is_no_err x fault e = cc

pub queued_is_not_full : (number : ℕ) → Queued number ≡ Full → ⊥
queued_is_not_full number e = cc

-- one accept more
with_more : (changes : List Change) (accepts : List Accept) (accept : Accept) → with_accepts changes accepts ++ change.Accept accept ∷ [] ≡ with_accepts changes (accepts ++ accept ∷ [])
with_more changes accepts accept =
    append_assoc changes (map change.Accept accepts) (change.Accept accept ∷ [])
    ∙ ap (λ (l : List Change). changes ++ l) (sym (map-append change.Accept accepts (accept ∷ [])))

module _ {D : Type 0} (honest : Type 0) (words : DiskWords D) where
  keeps_has_list : (records : Kept D) (changes : List Change) → Keeps honest words records changes → HasList honest words records changes
  keeps_has_list records changes keeps = record {
    fitting = keeps.fitting;
    queue = keeps.queue;
    live = λ _. keeps;
    stopped = λ dead. absurd (not_both records.spool.live keeps.live dead);
  }

  -- nothing was added yet
  pub grown_by_nothing : (starts : List Change → Type 0) (records : Kept D) (total : ℕ) → total ≡ 0 → ((changes : List Change) → starts changes → Keeps honest words records changes) → HasGrown honest words starts total records
  grown_by_nothing starts records total none keeps = λ changes start. record {
    accepts = [];
    count = sym none;
    list = subst (λ (all : List Change). HasList honest words records all) (sym (append-nil changes)) (keeps_has_list records changes (keeps changes start));
  }

  -- under the same configuration
  pub answers_still : (starts : List Change → Type 0) (config new_config : Config) (has_answered : List ℕ → ℕ → Offered → Answer → Type 0) → new_config ≡ config → Answers honest words starts config has_answered → Answers honest words starts new_config has_answered
  answers_still starts config new_config has_answered same answers = subst (λ (c : Config). Answers honest words starts c has_answered) (sym same) answers

  module _ (starts : List Change → Type 0) (added : ℕ) (old new : Kept D) (grown : HasGrown honest words starts added old) where
    pub grown_same : new ≡ old → HasGrown honest words starts added new
    grown_same same = subst (λ (records : Kept D). HasGrown honest words starts added records) (sym same) grown

    module _ (config : Config) (peer : List ℕ) (at : ℕ) (offer : Offered) where
      grown_queued : (number total : ℕ) → (old.spool.live ≡ false → ⊥)
          → ((changes : List Change) → Keeps honest words old changes → IsAdmitted honest words config changes peer at offer old new number)
          → total ≡ added + 1 → HasGrown honest words starts total new
      grown_queued number total lives admits more = λ changes start.
          let g = grown changes start in
          let is_live : old.spool.live ≡ true = by_life old.spool.live (λ is. is) (λ dead. absurd (lives dead)) in
          let a = admits (with_accepts changes g.accepts) (g.list.live is_live) in
          let long = length-append g.accepts (a.accept ∷ []) in
          record {
            accepts = g.accepts ++ a.accept ∷ [];
            count = omega (arith, long, g.count, more);
            list = subst (λ (all : List Change). HasList honest words new all) (with_more changes g.accepts a.accept)
                (keeps_has_list new (with_accepts changes g.accepts ++ change.Accept a.accept ∷ []) a.adds.keeps);
          }

      -- whatever the answer is
      pub grown_by : (answer given : Answer) (total : ℕ) → answer ≡ given → (old.spool.live ≡ false → ⊥)
          → ((changes : List Change) → Keeps honest words old changes → Admits honest words config changes peer at offer old new answer)
          → (given ≡ Full → total ≡ added) → ((number : ℕ) → given ≡ Queued number → total ≡ added + 1) → HasGrown honest words starts total new
      grown_by answer (Queued number) total is lives admits same more =
          grown_queued number total lives (λ changes keeps. subst (λ (a : Answer). Admits honest words config changes peer at offer old new a) is (admits changes keeps)) (more number refl)
      grown_by answer Full total is lives admits same more = λ changes start.
          let g = grown changes start in
          let is_live : old.spool.live ≡ true = by_life old.spool.live (λ is. is) (λ dead. absurd (lives dead)) in
          let a = subst (λ (a : Answer). Admits honest words config (with_accepts changes g.accepts) peer at offer old new a) is (admits (with_accepts changes g.accepts) (g.list.live is_live)) in
          subst (λ (n : ℕ). GrowsBy honest words changes n new) (sym (same refl)) (grown_same a.1 changes start)

      -- a fault where the node was live
      grown_refused : (fault : NodeFault) → old.spool.live ≡ true → RefusesToHear words old new fault
          → (fault ≡ Stopped → (changes : List Change) → Keeps honest words old changes → CutsOffer honest words config changes peer at offer old new)
          → HasGrown honest words starts added new
      grown_refused NoMemory live refused cut = grown_same refused
      grown_refused Stopped live refused cut = λ changes start.
          let g = grown changes start in
          let keeps = g.list.live live in
          let c = cut refl (with_accepts changes g.accepts) keeps in
          record {
            accepts = g.accepts;
            count = g.count;
            list = record {
              fitting = keeps.fitting;
              queue = refused.queue ∙ keeps.queue;
              live = λ is. absurd (not_both new.spool.live is refused.live);
              stopped = λ _. (Some (change.Accept c.accept), c.cuts.halted);
            };
          }
      grown_refused Unknown live refused cut = absurd refused
      grown_refused TooMany live refused cut = absurd refused
      grown_refused NotDue live refused cut = absurd refused
      grown_refused Busy live refused cut = absurd refused
      grown_refused NoSecond live refused cut = absurd refused
      grown_refused (Open cause) live refused cut = absurd refused
      grown_refused NoNumber live refused cut = grown_same refused.0

      -- a fault, live or stopped
      pub grown_fault : (fault : NodeFault) → (old.spool.live ≡ false → new ≡ old) → (old.spool.live ≡ true → RefusesToHear words old new fault)
          → (fault ≡ Stopped → (changes : List Change) → Keeps honest words old changes → CutsOffer honest words config changes peer at offer old new)
          → HasGrown honest words starts added new
      grown_fault fault stopped refused cut = by_life old.spool.live (λ live. grown_refused fault live (refused live) cut) (λ dead. grown_same (stopped dead))

      -- what was answered is what the node gives
      pub gives : (answer given : Answer) → answer ≡ given → (old.spool.live ≡ false → ⊥)
          → ((changes : List Change) → Keeps honest words old changes → Admits honest words config changes peer at offer old new answer)
          → Gives honest words starts config peer at offer given
      gives answer given is lives admits = record {
        old = old;
        new = new;
        live = by_life old.spool.live (λ is. is) (λ dead. absurd (lives dead));
        added = added;
        grown = grown;
        admits = λ changes keeps. subst (λ (a : Answer). Admits honest words config changes peer at offer old new a) is (admits changes keeps);
      }
