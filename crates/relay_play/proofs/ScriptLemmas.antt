-- Scripts, line by line: where a line ends, and that lines are played one after another.
use Rattle.std.proofs.Common.{◌≡◌, ◌+◌, ℕ, Bool, true, false, List, [], ◌∷◌, ◌++◌, take, Option, inl, inr, refl, sym, ap, subst, ◌∙◌, append_assoc, append-nil}
use Rattle.std.specs.List.{AllByRecursion, Contains, onto_first, slice_split}
use Rattle.std.proofs.lemmas.List.Elements.{Contains-append_left, Contains-append_right, Contains-push}
use Rattle.std.proofs.lemmas.List.Splits.{slice_split-cons_no, slice_split-cons_yes}
use Rattle.std.specs.Io.KnownBytes.{Consumes, Keeps}
use Rattle.std.proofs.KnownBytes.{Consumes-kept, Consumes-nil, Consumes-trans}
use Rattle.relay_disk.specs.Device.{DiskWords}
use Rattle.relay_disk.specs.declared.memory.MemoryDisk.{MemoryDisk}
use Rattle.relay_world.specs.GivingUp.{Withdrawing}
use Rattle.relay_world.specs.Leaks.{NothingLeaks}
use Rattle.relay_world.specs.World.{World}
use Rattle.relay_events.specs.Happened.{Asking, HasHappenedFor, Unasked, asked_for}
use Rattle.relay_play.specs.declared.state.PlayState.{PlayState}
use Rattle.relay_world.specs.Promise.{PromiseIsKept}
use Rattle.relay_script.specs.declared.event.Event.{Event as Said}
use Rattle.relay_script.specs.declared.event.ScriptLine.{ScriptLine}
use Rattle.relay_script.specs.declared.event.ScriptLine.TheVariants.{Skipped, Nodes, Event as Happens, Ledger, Marks, Copies, Lost}
use Rattle.relay_pair.specs.Promise.{KeepsItsPromise}
use Rattle.relay_pair.proofs.Theorems.{promise_on}
use Rattle.relay_script.specs.Line.{Spells}
use Rattle.relay_play.specs.Script.{Does, HasNoLineFeed, HasNotBegun, HasPlayed, IsAskedIn, IsPlayed, IsRead, IsReadTo, PlaysAll, PlaysBlock, PlaysEach, PlaysLine, StartsAs, event_in, is_line_feed}

-- octets of a line, and more of it
bare_joined : (front back : List ℕ) → HasNoLineFeed front → HasNoLineFeed back → HasNoLineFeed (front ++ back)
bare_joined [] back none also = also
bare_joined (octet ∷ front) back none also = (none.0, bare_joined front back none.1 also)

-- a line, and what stands after its LF
splits_line : (line more : List ℕ) → HasNoLineFeed line
    → slice_split is_line_feed (line ++ 10 ∷ more) ≡ line ∷ slice_split is_line_feed more
splits_line [] more none = slice_split-cons_yes is_line_feed 10 more refl
splits_line (octet ∷ line) more none =
    slice_split-cons_no is_line_feed octet (line ++ 10 ∷ more) none.0
    ∙ ap (onto_first octet) (splits_line line more none.1)

-- a line that no LF ends
is_one_line : (line : List ℕ) → HasNoLineFeed line → slice_split is_line_feed line ≡ line ∷ []
is_one_line [] none = refl
is_one_line (octet ∷ line) none =
    slice_split-cons_no is_line_feed octet line none.0 ∙ ap (onto_first octet) (is_one_line line none.1)

-- a read that gave nothing
pub kept_is_read : (old new : Option (List ℕ)) → Keeps old new → Consumes old new []
kept_is_read old new kept = Consumes-kept old old new [] (Consumes-nil old) kept

-- what stands in a list, and in its front and its rest
head_in : {A : Type 0} (x : A) (xs : List A) → Contains (x ∷ xs) x
head_in x xs = Contains-append_left (x ∷ []) xs x (Contains-push [] x)

tail_in : {A : Type 0} (x y : A) (xs : List A) → Contains xs y → Contains (x ∷ xs) y
tail_in x y xs h = Contains-append_right (x ∷ []) xs y h

each_in : (P : Withdrawing → Type 0) (xs : List Withdrawing) → ((one : Withdrawing) → Contains xs one → P one)
    → AllByRecursion P xs
each_in P [] holds = tt
each_in P (x ∷ xs) holds = (holds x (head_in x xs), each_in P xs (λ one h. holds one (tail_in x one xs h)))

both_all : (P : Withdrawing → Type 0) (xs ys : List Withdrawing) → AllByRecursion P xs → AllByRecursion P ys
    → AllByRecursion P (xs ++ ys)
both_all P [] ys all rest = rest
both_all P (x ∷ xs) ys all rest = (all.0, both_all P xs ys all.1 rest)

module _ (honest : Type 0) (words : DiskWords MemoryDisk) where
  -- lines after others
  plays_more : (texts others : List (List ℕ)) (first mid last : PlayState) → PlaysEach honest words texts first mid
      → PlaysEach honest words others mid last → PlaysEach honest words (texts ++ others) first last
  plays_more [] others first mid last same plays = subst (λ p. PlaysEach honest words others p last) same plays
  plays_more (text ∷ texts) others first mid last plays then =
      (plays.0, plays.1, plays_more texts others plays.0 mid last plays.2 then)

  -- nothing of a script was read
  pub nothing_played : (first : PlayState) → HasPlayed honest words first [] [] first
  nothing_played first = record { lines = []; splits = λ more. refl; bare = tt; plays = refl }

  -- a line has ended, and was played
  pub line_played : (first now later : PlayState) (front begun line : List ℕ) → HasPlayed honest words first front begun now
      → HasNoLineFeed line → PlaysLine honest words (begun ++ line) now later
      → HasPlayed honest words first (front ++ (line ++ 10 ∷ [])) [] later
  line_played first now later front begun line played none does =
      let whole = begun ++ line in
      let bare = bare_joined begun line played.bare none in
      record {
        lines = played.lines ++ whole ∷ [];
        splits = λ more.
            ap (slice_split is_line_feed)
            (append_assoc front (line ++ 10 ∷ []) more ∙ ap (λ l. front ++ l) (append_assoc line (10 ∷ []) more))
            ∙ played.splits (line ++ 10 ∷ more)
            ∙ ap (λ l. played.lines ++ slice_split is_line_feed l) (sym (append_assoc begun line (10 ∷ more)))
            ∙ ap (λ l. played.lines ++ l) (splits_line whole more bare)
            ∙ sym (append_assoc played.lines (whole ∷ []) (slice_split is_line_feed more));
        bare = tt;
        plays = plays_more played.lines (whole ∷ []) first now later played.plays (later, does, refl);
      }

  -- a line goes on
  pub line_goes_on : (first now : PlayState) (front begun rest : List ℕ) → HasPlayed honest words first front begun now
      → HasNoLineFeed rest → HasPlayed honest words first (front ++ rest) (begun ++ rest) now
  line_goes_on first now front begun rest played none = record {
    lines = played.lines;
    splits = λ more.
        ap (slice_split is_line_feed) (append_assoc front rest more)
        ∙ played.splits (rest ++ more)
        ∙ ap (λ l. played.lines ++ slice_split is_line_feed l) (sym (append_assoc begun rest more));
    bare = bare_joined begun rest played.bare none;
    plays = played.plays;
  }

  -- of octets that were read, those before the rest are used, and the lines that end in them were played
  abbrev pub AreUsedTo : List ℕ → List ℕ → PlayState → List ℕ → List ℕ → PlayState → Type 0
  AreUsedTo octets before old rest begun now =
      (used : List ℕ) × (octets ≡ used ++ rest)
      × ((first : PlayState) (front : List ℕ) → HasPlayed honest words first front before old
      → HasPlayed honest words first (front ++ used) begun now)

  -- none are used yet
  pub none_used : (octets before : List ℕ) (old : PlayState) → AreUsedTo octets before old octets before old
  none_used octets before old = (
    [],
    refl,
    λ first front played. subst (λ f. HasPlayed honest words first f before old) (sym (append-nil front)) played,
  )

  -- a line of the rest has ended, and was played after what had begun
  pub line_used : (octets before rest begun line afterwards filled after : List ℕ) (old now later : PlayState)
      → AreUsedTo octets before old rest begun now → HasNoLineFeed line → rest ≡ line ++ 10 ∷ afterwards
      → filled ≡ begun ++ line → PlaysLine honest words filled now later → after ≡ []
      → AreUsedTo octets before old afterwards after later
  line_used octets before rest begun line afterwards filled after old now later so_far none its fills does empty =
      let ended = line ++ 10 ∷ [] in (
        so_far.0 ++ ended,
        so_far.1 ∙ ap (λ l. so_far.0 ++ l) (its ∙ sym (append_assoc line (10 ∷ []) afterwards))
            ∙ sym (append_assoc so_far.0 ended afterwards),
        λ first front played.
            subst (λ a. HasPlayed honest words first (front ++ (so_far.0 ++ ended)) a later) (sym empty)
            (subst (λ f. HasPlayed honest words first f [] later) (append_assoc front so_far.0 ended)
            (line_played first now later (front ++ so_far.0) begun line (so_far.2 first front played) none
            (subst (λ b. PlaysLine honest words b now later) fills does))),
      )

  -- no line of the rest has ended
  pub all_used : (octets before rest begun filled : List ℕ) (old now : PlayState)
      → AreUsedTo octets before old rest begun now → HasNoLineFeed rest → filled ≡ begun ++ rest
      → (first : PlayState) (front : List ℕ) → HasPlayed honest words first front before old
      → HasPlayed honest words first (front ++ octets) filled now
  all_used octets before rest begun filled old now so_far none fills first front played =
      subst (λ b. HasPlayed honest words first (front ++ octets) b now) (sym fills)
      (subst (λ f. HasPlayed honest words first f (begun ++ rest) now)
      (append_assoc front so_far.0 rest ∙ ap (λ l. front ++ l) (sym so_far.1))
      (line_goes_on first now (front ++ so_far.0) begun rest (so_far.2 first front played) none))

  -- the script has ended, and its last line was played
  pub all_played : (first now last : PlayState) (front begun : List ℕ) → HasPlayed honest words first front begun now
      → PlaysLine honest words begun now last → PlaysAll honest words first front last
  all_played first now last front begun played does =
      subst (λ texts. PlaysEach honest words texts first last)
      (sym
      (ap (slice_split is_line_feed) (sym (append-nil front)) ∙ played.splits []
      ∙ ap (λ l. played.lines ++ slice_split is_line_feed l) (append-nil begun)
      ∙ ap (λ l. played.lines ++ l) (is_one_line begun played.bare)))
      (plays_more played.lines (begun ∷ []) first now last played.plays (last, does, refl))

  -- a read that was interrupted
  pub none_read : (old new : Option (List ℕ)) (first now : PlayState) (front begun : List ℕ) → Keeps old new
      → HasPlayed honest words first front begun now → PlaysBlock honest words old new first front begun now false
  none_read old new first now front begun kept played =
      ([], kept_is_read old new kept, subst (λ f. HasPlayed honest words first f begun now) (sym (append-nil front)) played)

  -- nothing was left to read
  pub end_read : (old new : Option (List ℕ)) (count : ℕ) (block : List ℕ) (first now last : PlayState) (front begun after : List ℕ)
      → Consumes old new (take count block) → count ≡ 0
      → HasPlayed honest words first front begun now → PlaysLine honest words begun now last
      → PlaysBlock honest words old new first front after last true
  end_read old new count block first now last front begun after reads none played does = (
    [],
    subst (λ n. Consumes old new (take n block)) none reads,
    subst (λ f. PlaysAll honest words first f last) (sym (append-nil front)) (all_played first now last front begun played does),
  )

  -- what was read so far, and a block more
  pub block_read : (old mid new : Option (List ℕ)) (first now later : PlayState) (front begun after : List ℕ) (ended : Bool)
      → IsRead old mid (λ octets. HasPlayed honest words first (front ++ octets) begun now)
      → ((so_far : List ℕ) → HasPlayed honest words first so_far begun now
      → PlaysBlock honest words mid new first so_far after later ended)
      → ended ≡ false → IsRead old new (λ octets. HasPlayed honest words first (front ++ octets) after later)
  block_read old mid new first now later front begun after ended so_far step goes_on =
      let more =
      subst (λ e. PlaysBlock honest words mid new first (front ++ so_far.0) after later e) goes_on
      (step (front ++ so_far.0) so_far.2) in (
        so_far.0 ++ more.0,
        Consumes-trans old mid new so_far.0 more.0 so_far.1 more.1,
        subst (λ f. HasPlayed honest words first f after later) (append_assoc front so_far.0 more.0) more.2,
      )

  -- and the last one
  pub blocks_end : (old mid new : Option (List ℕ)) (first now last : PlayState) (front begun after : List ℕ) (ended : Bool)
      → IsRead old mid (λ octets. HasPlayed honest words first (front ++ octets) begun now)
      → ((so_far : List ℕ) → HasPlayed honest words first so_far begun now
      → PlaysBlock honest words mid new first so_far after last ended)
      → ended ≡ true → IsRead old new (λ octets. PlaysAll honest words first (front ++ octets) last)
  blocks_end old mid new first now last front begun after ended so_far step has_ended =
      let more =
      subst (λ e. PlaysBlock honest words mid new first (front ++ so_far.0) after last e) has_ended
      (step (front ++ so_far.0) so_far.2) in (
        so_far.0 ++ more.0,
        Consumes-trans old mid new so_far.0 more.0 so_far.1 more.1,
        subst (λ f. PlaysAll honest words first f last) (append_assoc front so_far.0 more.0) more.2,
      )

  -- Of relays that began so, the promise is kept by what has happened since, and what the postmaster asked for is said
  -- by lines of the script.
  pub record IsPromised (script : List ℕ) (first : PlayState) (now : World MemoryDisk) : Type 0 where
    pub start : World MemoryDisk
    pub starts : StartsAs honest words first start
    pub asked : List Withdrawing
    pub by_lines : AllByRecursion (IsAskedIn honest words script) asked
    pub promise : KeepsItsPromise honest words asked start now

  module _ (is_honest : honest) (keeps : PromiseIsKept honest words) (script : List ℕ) (first : PlayState) where
    same_promised : (old now new : PlayState) → new ≡ now → now.pair ≡ old.pair → IsPromised script first old.pair
        → IsPromised script first new.pair
    same_promised old now new same pair was =
        subst (λ (w : World MemoryDisk). IsPromised script first w) (sym (ap (λ (p : PlayState). p.pair) same ∙ pair)) was

    event_promised : (text : List ℕ) (event : Said) → Contains (slice_split is_line_feed script) text
        → Spells text (Happens event) → (old new : World MemoryDisk) → HasHappenedFor honest words (event_in event) old new
        → NothingLeaks new → IsPromised script first old → IsPromised script first new
    event_promised text event there spells old new (Unasked more) leaks was = record {
      start = was.start;
      starts = was.starts;
      asked = was.asked;
      by_lines = was.by_lines;
      promise = promise_on honest words is_honest keeps was.asked [] was.start old new was.promise leaks more;
    }
    event_promised text event there spells old new (Asking more) leaks was = record {
      start = was.start;
      starts = was.starts;
      asked = asked_for (event_in event) ++ was.asked;
      by_lines = both_all (IsAskedIn honest words script) (asked_for (event_in event)) was.asked
          (each_in (IsAskedIn honest words script) (asked_for (event_in event))
          (λ one asks. record { text = text; line = there; event = event; says = spells; asks = asks })) was.by_lines;
      promise = promise_on honest words is_honest keeps was.asked (asked_for (event_in event)) was.start old new
          was.promise leaks more;
    }

    line_promised : (text : List ℕ) (line : ScriptLine) → Contains (slice_split is_line_feed script) text → Spells text line
        → (old new : PlayState) → Does honest words line old new → IsPromised script first old.pair
        → IsPromised script first new.pair
    line_promised text Skipped there spells old new does was = same_promised old old new does refl was
    line_promised text (Nodes count) there spells old new does was =
        record { start = new.pair; starts = inr (count, does.1); asked = []; by_lines = tt; promise = does.2 }
    line_promised text (Happens event) there spells old new does was =
        event_promised text event there spells old.pair new.pair does.1 does.2 was
    line_promised text Ledger there spells old new does was =
        same_promised old (record old { has_begun = true }) new does refl was
    line_promised text Marks there spells old new does was =
        same_promised old (record old { has_begun = true }) new does refl was
    line_promised text (Copies node number place) there spells old new does was =
        same_promised old (record old { has_begun = true }) new does refl was
    line_promised text (Lost node number place) there spells old new does was =
        same_promised old (record old { has_begun = true }) new does refl was

    lines_promised : (texts : List (List ℕ))
        → ((text : List ℕ) → Contains texts text → Contains (slice_split is_line_feed script) text)
        → (old new : PlayState) → PlaysEach honest words texts old new → IsPromised script first old.pair
        → IsPromised script first new.pair
    lines_promised [] there old new same was = same_promised old old new same refl was
    lines_promised (text ∷ texts) there old new plays was =
        lines_promised texts (λ other has. there other (tail_in text other texts has)) plays.0 new plays.2
        (line_promised text plays.1.line (there text (head_in text texts)) plays.1.spells old plays.0 plays.1.does was)

  -- a whole script, from relays to which nothing has happened
  pub whole_played : honest → PromiseIsKept honest words → (old new : Option (List ℕ)) (first last : PlayState)
      (begun : List ℕ) (world : World MemoryDisk)
      → HasNotBegun honest words first → begun ≡ []
      → ((from : PlayState) (front : List ℕ) → HasPlayed honest words from front begun first
      → IsReadTo old new (λ octets. PlaysAll honest words from (front ++ octets) last))
      → world ≡ last.pair → IsReadTo old new (λ script. IsPlayed honest words script world)
  whole_played is_honest keeps old new first last begun world begins none plays its =
      let all =
      plays first [] (subst (λ b. HasPlayed honest words first [] b first) (sym none) (nothing_played first)) in
      let read = all.1 in
      let promised : IsPromised read.0 first last.pair =
      lines_promised is_honest keeps read.0 first (slice_split is_line_feed read.0) (λ text has. has) first last read.2
      (record { start = first.pair; starts = inl refl; asked = []; by_lines = tt; promise = begins.promise }) in (
        all.0,
        (
          read.0,
          read.1,
          record {
            first = first;
            begins = begins;
            last = last;
            plays = read.2;
            world_is = its;
            start = promised.start;
            starts = promised.starts;
            asked = promised.asked;
            by_lines = promised.by_lines;
            promise = subst (λ (w : World MemoryDisk). KeepsItsPromise honest words promised.asked promised.start w) (sym its)
                promised.promise;
          },
        ),
      )
