-- A world in which a node has changes that its spool still lacks: nothing is said of disks, and all else is bound.
use Rattle.std.proofs.Common.{inl, inr, ◌≡◌, ◌≢◌, ℕ, List, [], ◌∷◌, ◌++◌, fold, Some, refl, sym, subst, ap, ◌∙◌}
use Rattle.std.specs.Prelude.{slice_get}
use Rattle.std.proofs.lemmas.Bool.{cases_eq}
use Rattle.std.proofs.lemmas.List.{append-nil, append_assoc}
use Rattle.std.proofs.lemmas.Option.{same_Some}
use Rattle.relay_disk.specs.Device.{DiskWords}
use Rattle.relay_routes.specs.declared.config.Config.{Config}
use Rattle.relay_book.specs.declared.change.Change.{Change}
use Rattle.relay_book.specs.Queue.{FitsFrom, Queue, empty_queue, step}
use Rattle.relay_book.specs.Record.{encode}
use Rattle.relay_records.specs.declared.noted.Noted.{Noted}
use Rattle.relay_records.specs.Note.{NotesNext}
use Rattle.relay_records.specs.Records.{Keeps, Kept}
use Rattle.relay_records.specs.Staged.{AreNotes, Awaits, Row, no_row}
use Rattle.relay_records.proofs.Theorems.{none_awaited}
use Rattle.relay_node.specs.Node.{NodeState}
use Rattle.relay_world.specs.Bound.{HostKeeps, IsBound, NodeKeeps, StandsAt, StateKeeps}
use Rattle.relay_world.specs.Groups.{IsUp}
use Rattle.relay_world.specs.Steps.{IsPut}
use Rattle.relay_world.specs.World.{Down, Host, HostState, Up, World}
use Rattle.relay_world.proofs.OpenLemmas.{node_kept, same_Up}
use Rattle.relay_world.proofs.PieceLemmas.{with_at, with_at-put}

-- changes that fit after others that do
fits_after : (queue : Queue) (changes pending : List Change) → FitsFrom queue changes
    → FitsFrom (fold step queue changes) pending → FitsFrom queue (changes ++ pending)
fits_after queue [] pending first second = second
fits_after queue (one ∷ changes) pending first second =
    (first.0, fits_after (step queue one) changes pending first.1 second)

-- the note of the last of changes
pub last_note : (queue : Queue) (pending : List Change) (one : Change) (notes : List Noted) (note : Noted)
    → AreNotes queue pending notes → AreNotes queue (pending ++ one ∷ []) (notes ++ note ∷ [])
    → NotesNext (fold step queue pending) one (encode one) note.used note
last_note queue [] one notes note are more =
    let joined : note ∷ [] ≡ more.0 ∷ more.1 = ap (λ (l : List Noted). l ++ note ∷ []) (sym are) ∙ more.2 in
    let same : more.0 ≡ note = cc in
    subst (λ (n : Noted). NotesNext queue one (encode one) n.used n) same more.3
last_note queue (other ∷ pending) one notes note are more =
    let joined : are.0 ∷ (are.1 ++ note ∷ []) ≡ more.0 ∷ more.1 =
    ap (λ (l : List Noted). l ++ note ∷ []) (sym are.2) ∙ more.2 in
    let same : more.1 ≡ are.1 ++ note ∷ [] = cc in
    last_note (step queue other) pending one are.1 note are.4
    (subst (λ l. AreNotes (step queue other) (pending ++ one ∷ []) l) same more.4)

module _ {D : Type 0} (honest : Type 0) (words : DiskWords D) where
  -- where nothing is said of disks, all else stays said
  pub keeps_unsaid : (records : Kept D) (changes : List Change) → Keeps honest words records changes
      → Keeps ⊥ words records changes
  keeps_unsaid records changes keeps = record {
    live = keeps.live;
    fitting = keeps.fitting;
    queue = keeps.queue;
    bodies = λ none. absurd none;
    images = λ none. absurd none;
  }

  state_unsaid : (config : Config) (state : HostState D) (changes : List Change)
      → StateKeeps honest words config state changes → StateKeeps ⊥ words config state changes
  state_unsaid config (Up node) changes keeps =
      record { config_is = keeps.config_is; keeps = keeps_unsaid node.records changes keeps.keeps }
  state_unsaid config (Down disk undecided) changes keeps = λ none. absurd none

  pub bound_unsaid : (world : World D) (lists : List (List Change)) → IsBound honest words world lists
      → IsBound ⊥ words world lists
  bound_unsaid world lists bound = record {
    even = bound.even;
    hosts = λ node host changes stands.
        let kept : HostKeeps honest words host changes = bound.hosts node host changes stands in
        record {
          list = kept.list;
          holds = state_unsaid host.config host.state changes kept.holds;
          reports = kept.reports;
        };
    may_be_in = bound.may_be_in;
    servers = bound.servers;
    clients = bound.clients;
    attempts = bound.attempts;
    reads = bound.reads;
    ledger = bound.ledger;
    lines = bound.lines;
    sessions = bound.sessions;
    slots = bound.slots;
  }

  -- and it is said of disks again, where each node keeps its changes on them
  pub bound_said : (world : World D) (lists : List (List Change)) → IsBound ⊥ words world lists
      → ((node : ℕ) (host : Host D) (changes : List Change) → StandsAt world lists node host changes
      → HostKeeps honest words host changes) → IsBound honest words world lists
  bound_said world lists bound keeps = record {
    even = bound.even;
    hosts = keeps;
    may_be_in = bound.may_be_in;
    servers = bound.servers;
    clients = bound.clients;
    attempts = bound.attempts;
    reads = bound.reads;
    ledger = bound.ledger;
    lines = bound.lines;
    sessions = bound.sessions;
    slots = bound.slots;
  }

  -- records that await changes have these in their list, as their queue does
  pub awaited_kept : (records : Kept D) (changes pending : List Change) (row : Row)
      → Awaits honest words records changes pending row
      → Keeps ⊥ words records (changes ++ pending)
  awaited_kept records changes pending row awaits = record {
    live = awaits.live;
    fitting = fits_after empty_queue changes pending awaits.fitting awaits.fits;
    queue = awaits.queue;
    bodies = λ none. absurd none;
    images = λ none. absurd none;
  }

  -- a world in which a node awaits changes after these, while the other nodes are what they were
  module _ (old : World D) (lists : List (List Change)) (node : ℕ) (changes : List Change) where
    pub record Unsettled (world : World D) (row : Row) : Type 0 where
      pub later : List (List Change)
      pub bound : IsBound ⊥ words world later
      pub pending : List Change
      pub is : IsUp world node
      pub list_at : slice_get later node ≡ Some (changes ++ pending)
      pub awaits : Awaits honest words is.now.records changes pending row
      pub others : (other : ℕ) → other ≢ node → slice_get world.hosts other ≡ slice_get old.hosts other
      pub other_lists : (other : ℕ) → other ≢ node → slice_get later other ≡ slice_get lists other

    -- so it is at first
    abbrev pub unsettled_first : IsBound honest words old lists → (is : IsUp old node)
        → slice_get lists node ≡ Some changes
        → Keeps honest words is.now.records changes → Unsettled old no_row
    unsettled_first bound is list_at keeps = record {
      later = lists;
      bound = bound_unsaid old lists bound;
      pending = [];
      is = is;
      list_at = list_at ∙ ap Some (sym (append-nil changes));
      awaits = none_awaited honest words is.now.records changes keeps;
      others = λ other off. refl;
      other_lists = λ other off. refl;
    }

    -- A call at the node of this place, which is the one that awaits them, has made the world another.
    module _ (world next : World D) (row left : Row) (unsettled : Unsettled world row) (place : ℕ) (host : Host D)
        (host_at : slice_get world.hosts place ≡ Some host) (before : NodeState D) (up : host.state ≡ Up before)
        (here : place ≡ node) where
      same_before : unsettled.is.now ≡ before
      same_before =
          let same_host : unsettled.is.host ≡ host =
          same_Some unsettled.is.host host
          (sym unsettled.is.host_at ∙ ap (λ n. slice_get world.hosts n) (sym here) ∙ host_at) in
          same_Up unsettled.is.now before (sym unsettled.is.up ∙ ap (λ (h : Host D). h.state) same_host ∙ up)

      pub awaits_there : Awaits honest words before.records changes unsettled.pending row
      awaits_there = subst (λ (n : NodeState D). Awaits honest words n.records changes unsettled.pending row) same_before
          unsettled.awaits

      pub list_there_is : slice_get unsettled.later place ≡ Some (changes ++ unsettled.pending)
      list_there_is = ap (λ n. slice_get unsettled.later n) here ∙ unsettled.list_at

      -- it has another state, and the others are what they were
      module _ (moved : Host D) (after : NodeState D) (up_now : moved.state ≡ Up after)
          (put : IsPut world.hosts next.hosts place moved) where
        abbrev is_now : IsUp next node
        is_now = record {
          host = moved;
          host_at = ap (λ n. slice_get next.hosts n) (sym here) ∙ put.at;
          now = after;
          up = up_now;
        }

        others_now : (other : ℕ) → other ≢ node → slice_get next.hosts other ≡ slice_get old.hosts other
        others_now other off = put.others other (λ same. off (same ∙ here)) ∙ unsettled.others other off

        -- and awaits the same changes
        pub unsettled_stays : after.records ≡ before.records → left ≡ row → IsBound ⊥ words next unsettled.later
            → Unsettled next left
        unsettled_stays records same bound = record {
          later = unsettled.later;
          bound = bound;
          pending = unsettled.pending;
          is = is_now;
          list_at = unsettled.list_at;
          awaits = subst (λ (r : Row). Awaits honest words after.records changes unsettled.pending r) (sym same)
              (subst (λ (k : Kept D). Awaits honest words k changes unsettled.pending row) (sym records) awaits_there);
          others = others_now;
          other_lists = unsettled.other_lists;
        }

        -- or one change more
        pub unsettled_grows : (one : Change)
            → Awaits honest words after.records changes (unsettled.pending ++ one ∷ []) left
            → IsBound ⊥ words next (with_at unsettled.later place ((changes ++ unsettled.pending) ++ one ∷ []))
            → Unsettled next left
        unsettled_grows one awaits bound = record {
          later = with_at unsettled.later place grown;
          bound = bound;
          pending = unsettled.pending ++ one ∷ [];
          is = is_now;
          list_at = ap (λ n. slice_get (with_at unsettled.later place grown) n) (sym here) ∙ put_list.at
              ∙ ap Some (append_assoc changes unsettled.pending (one ∷ []));
          awaits = awaits;
          others = others_now;
          other_lists = λ other off.
              put_list.others other (λ same. off (same ∙ here)) ∙ unsettled.other_lists other off;
        }
          where
            grown : List Change
            grown = (changes ++ unsettled.pending) ++ one ∷ []

            put_list : IsPut unsettled.later (with_at unsettled.later place grown) place grown
            put_list = with_at-put unsettled.later place grown (changes ++ unsettled.pending) list_there_is

    -- where the node keeps all of its changes on its disks, as the others do
    pub settled_keeps : (world new : World D) (row : Row) (unsettled : Unsettled world row)
        → IsBound honest words old lists
        → IsBound ⊥ words new unsettled.later → (host : Host D) (after : NodeState D)
        → IsPut world.hosts new.hosts node (record host { state = Up after })
        → Keeps honest words after.records (changes ++ unsettled.pending) → IsBound honest words new unsettled.later
    settled_keeps world new row unsettled bound now host after put keeps =
        bound_said new unsettled.later now (λ n h cs stands. elim (cases_eq n node) [
          | inl same ↦
              let same_host : record host { state = Up after } ≡ h =
              same_Some (record host { state = Up after }) h
              (sym put.at ∙ ap (λ k. slice_get new.hosts k) (sym same) ∙ stands.host_at) in
              let up : h.state ≡ Up after = ap (λ (x : Host D). x.state) (sym same_host) in
              let same_list : changes ++ unsettled.pending ≡ cs =
              same_Some (changes ++ unsettled.pending) cs
              (sym unsettled.list_at ∙ ap (λ k. slice_get unsettled.later k) (sym same) ∙ stands.list_at) in
              let kept : HostKeeps ⊥ words h cs = now.hosts n h cs stands in
              let its_node : NodeKeeps ⊥ words h.config after cs = node_kept ⊥ words h cs after kept up in
              record {
                list = kept.list;
                holds = subst (λ (s : HostState D). StateKeeps honest words h.config s cs) (sym up)
                    (record {
                      config_is = its_node.config_is;
                      keeps = subst
                          (λ l. Keeps honest words after.records l) same_list keeps;
                    });
                reports = kept.reports;
              }
          | inr off ↦ bound.hosts n h cs (record {
            host_at = sym (unsettled.others n off) ∙ sym (put.others n off) ∙ stands.host_at;
            list_at = sym (unsettled.other_lists n off) ∙ stands.list_at;
          })
        ])
