-- How a session stands after what was said, and after more.
use Rattle.std.proofs.Common.{◌≡◌, ◌≤◌, ◌<◌, ℕ, zero, suc, Bool, true, false, nat_lt, List, [], ◌∷◌, ◌++◌, ◌+◌, ◌-◌, length-append, length, take, drop, Some, refl, sym, ap, ◌∙◌, subst, inl, inr, append_assoc, arith}
use Rattle.std.proofs.lemmas.List.{append-nil, length-take, take_all}
use Rattle.std.proofs.lemmas.Grind.{flat_map-append}
use Rattle.std.proofs.Math.Seq.{take-add, take-append_seam}
use Rattle.std.proofs.lemmas.Bool.Decides.{nat_tests}
use Rattle.std.specs.List.{flat_map, slice_range}
use Rattle.relay_octets.specs.Line.{ReadsLine, crlf}
use Rattle.relay_lines.specs.HeldLine.{HeldLine, Holds, HoldsLine}
use Rattle.relay_lines.specs.Reply.{reply_text}
use Rattle.relay_server.specs.declared.offer.Answer.{Answer}
use Rattle.relay_server.specs.declared.reply_table.Row.TheVariants.{Greeting}
use Rattle.relay_routes.specs.Routes.{RouteTable}
use Rattle.relay_server.specs.declared.session.Session.{Session}
use Rattle.relay_server.specs.declared.session.Next.TheVariants as next
use Rattle.relay_server.specs.declared.server.Server.{Server}
use Rattle.relay_server.specs.declared.stage.Stage.{Stage}
use Rattle.relay_server.specs.declared.stage.Stage.TheVariants as stage
use Rattle.relay_server.specs.declared.state.CommandState.TheVariants as held
use Rattle.relay_server.specs.declared.state.Transaction.{Transaction}
use Rattle.relay_server.specs.Dialogue.{Offered, Turn, Answers, Turns, Said, more_said, offered_of, read_by, written_by, offered_by, offers_in, answers_in, row_of_answer}
use Rattle.relay_server.specs.Setup.{Setup, setup_of}
use Rattle.relay_server.specs.Reply.{reply_of}
use Rattle.relay_server.specs.ReplyTable.{Offers}
use Rattle.relay_server.specs.Machine.{Advances, IsGiven, Keeps, KeepsText, Moves, Shown, Reading, Offering, Over, Steps, is_reading, offers_at, offers_shown, reads, shown_at}
use Rattle.relay_server.specs.Session.{Answered, HasOffer, Hears, Stands, Waits, new_offers, next_of, next_shown, offers_since, open_offers}
use Rattle.relay_server.specs.State.{State, Command, Greeted, start}

-- one more turn at the end of a run
pub turns_more : (setup : Setup) (old : State) (turns : List Turn) (mid : State) (turn : Turn) (new : State) → Turns setup old turns mid → Answers setup mid turn new → Turns setup old (turns ++ turn ∷ []) new
turns_more setup old [] mid turn new run answers = (new, subst (λ (s : State). Answers setup s turn new) (sym run) answers, refl)
turns_more setup old (first ∷ turns) mid turn new run answers = (run.0, run.1, turns_more setup run.0 turns mid turn new run.2 answers)

-- what one more turn adds to a list that is gathered over the turns
added : {X : Type 0} (f : Turn → List X) (turns : List Turn) (turn : Turn) → flat_map f (turns ++ turn ∷ []) ≡ flat_map f turns ++ f turn
added f turns turn = flat_map-append f turns (turn ∷ []) ∙ ap (λ l. flat_map f turns ++ l) (append-nil (f turn))

gathers : {X : Type 0} (f : Turn → List X) (turns : List Turn) (turn : Turn) (said more : List X) → said ≡ flat_map f turns → more ≡ f turn → said ++ more ≡ flat_map f (turns ++ turn ∷ [])
gathers f turns turn said more before now = ap (λ l. l ++ more) before ∙ ap (λ l. flat_map f turns ++ l) now ∙ sym (added f turns turn)

-- the same after and before further things
between : {X : Type 0} (f : Turn → List X) (turns : List Turn) (turn : Turn) (first said more last next : List X) → said ≡ first ++ flat_map f turns ++ last → last ++ more ≡ f turn ++ next → said ++ more ≡ first ++ flat_map f (turns ++ turn ∷ []) ++ next
between f turns turn first said more last next before now =
    ap (λ l. l ++ more) before ∙ append_assoc (first ++ flat_map f turns) last more ∙ ap (λ l. first ++ flat_map f turns ++ l) now
    ∙ sym (append_assoc (first ++ flat_map f turns) (f turn) next) ∙ ap (λ l. l ++ next) (append_assoc first (flat_map f turns) (f turn) ∙ ap (λ l. first ++ l) (sym (added f turns turn)))

-- After one more turn, which ends the unit that was begun, a session stands.
pub stands_turn : (setup : Setup) (old new : Session) (said : Said) (more : List ℕ) (answers : List Answer) (written : List ℕ) (offers : List Offered) (turn : Turn) (next : State) → (s : Stands setup old said) → new.server ≡ old.server → Answers setup s.state turn next → turn.asked ≡ s.rest ++ more → written ≡ reply_text turn.reply → answers ≡ answers_in turn.offer → offers_at old.stage ++ offers ≡ offers_in turn.offer ++ offers_at new.stage → Keeps setup new.line new.stage next [] → Stands setup new (more_said said more answers written offers)
stands_turn setup old new said more answers written offers turn next s same row asked reply given unanswered keeps = record {
  setup_is = s.setup_is ∙ ap (λ (server : Server). setup_of server setup.routes) (sym same);
  turns = s.turns ++ turn ∷ [];
  state = next;
  rest = [];
  runs = turns_more setup start s.turns s.state turn next s.runs row;
  input = between (λ (t : Turn). t.asked) s.turns turn [] said.input more s.rest [] s.input (sym asked ∙ sym (append-nil turn.asked));
  output =
      ap (λ l. l ++ written) s.output ∙ append_assoc (reply_text (reply_of setup.host Greeting)) (written_by s.turns) written
      ∙ ap (λ l. reply_text (reply_of setup.host Greeting) ++ l) (gathers (λ (t : Turn). reply_text t.reply) s.turns turn (written_by s.turns) written refl reply);
  answers = gathers (λ (t : Turn). answers_in t.offer) s.turns turn said.answers answers s.answers given;
  offers = between (λ (t : Turn). offers_in t.offer) s.turns turn [] said.offers offers (offers_at old.stage) (offers_at new.stage) s.offers unanswered;
  keeps = keeps;
}

-- Where further octets belong to the unit that was begun, a session stands.
pub stands_on : (setup : Setup) (old new : Session) (said : Said) (more : List ℕ) (offers : List Offered) → (s : Stands setup old said) → new.server ≡ old.server → offers_at old.stage ++ offers ≡ offers_at new.stage → Keeps setup new.line new.stage s.state (s.rest ++ more) → Stands setup new (more_said said more [] [] offers)
stands_on setup old new said more offers s same unanswered keeps = record {
  setup_is = s.setup_is ∙ ap (λ (server : Server). setup_of server setup.routes) (sym same);
  turns = s.turns;
  state = s.state;
  rest = s.rest ++ more;
  runs = s.runs;
  input = ap (λ l. l ++ more) s.input ∙ append_assoc (read_by s.turns) s.rest more;
  output = append-nil said.output ∙ s.output;
  answers = append-nil said.answers ∙ s.answers;
  offers = ap (λ l. l ++ offers) s.offers ∙ append_assoc (offered_by s.turns) (offers_at old.stage) offers ∙ ap (λ l. offered_by s.turns ++ l) unanswered;
  keeps = keeps;
}

-- what a stage keeps, and a line buffer without a line, are what a session keeps
pub keeps_text : (setup : Setup) (line : HeldLine) (now : Stage) (state : State) (octets : List ℕ) → Holds line [] → KeepsText setup now state octets → Keeps setup line now state octets
keeps_text setup line (stage.Command held) state octets empty kept =
    (kept.0, subst (λ (o : List ℕ). Holds line o) (sym kept.1) empty)
keeps_text setup line (stage.Receiving mail) state octets empty kept = (empty, kept)
keeps_text setup line (stage.Chunk chunk) state octets empty kept = (empty, kept)
keeps_text setup line (stage.Skipping skipped) state octets empty kept = (empty, kept)
keeps_text setup line (stage.Offering transaction content) state octets empty kept = (empty, kept)
keeps_text setup line stage.Closed state octets empty kept = (empty, kept)
keeps_text setup line stage.Failed state octets empty kept = absurd kept

none_shown : (shown : Shown) → reads shown ≡ true → offers_shown shown ≡ []
none_shown Reading now = refl
none_shown (Offering offer) now = cc
none_shown Over now = refl

-- a stage that reads has no offer
none_at : (now : Stage) → is_reading now ≡ true → offers_at now ≡ []
none_at now on = none_shown (shown_at now) on

-- what a call of the session has done, it has done in the dialogue
stands_step : (setup : Setup) (old new : Session) (said : Said) (used before after : List ℕ) → (s : Stands setup old said) → is_reading old.stage ≡ true → new.server ≡ old.server → Steps setup s.state new (s.rest ++ used) before after → (more : List ℕ) × (after ≡ before ++ more) × Stands setup new (more_said said used [] more (offers_at new.stage))
stands_step setup old new said used before after s reads same (inl goes) = (
  [],
  goes.1 ∙ sym (append-nil before),
  stands_on setup old new said used (offers_at new.stage) s same (ap (λ l. l ++ offers_at new.stage) (none_at old.stage reads)) goes.0,
)
stands_step setup old new said used before after s reads same (inr ends) =
    let turn = ends.0.turn in
    let none = none_at old.stage reads in (
      reply_text turn.reply,
      ends.0.written,
      stands_turn setup old new said used [] (reply_text turn.reply) (offers_at new.stage) turn ends.0.next s same ends.0.answers ends.0.asked_is refl
          (ap answers_in (sym ends.0.no_offer)) (ap (λ l. l ++ offers_at new.stage) (none ∙ ap offers_in (sym ends.0.no_offer)))
          (keeps_text setup new.line new.stage ends.0.next [] ends.1 ends.0.nothing_kept),
    )

-- a setup is that of the server and the routes
setup_by : (setup : Setup) (server : Server) (routes : RouteTable) → setup ≡ setup_of server setup.routes → setup.routes ≡ routes → setup ≡ setup_of server routes
setup_by setup server routes is same = is ∙ ap (setup_of server) same

pub stands_advanced : (setup : Setup) (old new : Session) (routes : RouteTable) (said : Said) (used before after : List ℕ) → setup.routes ≡ routes → Stands setup old said → is_reading old.stage ≡ true → Advances old new routes used before after → (more : List ℕ) × (after ≡ before ++ more) × Stands setup new (more_said said used [] more (offers_at new.stage))
stands_advanced setup old new routes said used before after same s reads advances =
    let e = setup_by setup old.server routes s.setup_is same in
    let keeps : Keeps (setup_of old.server routes) old.line old.stage s.state s.rest = subst (λ (x : Setup). Keeps x old.line old.stage s.state s.rest) e s.keeps in
    stands_step setup old new said used before after s reads advances.server
    (subst (λ (x : Setup). Steps x s.state new (s.rest ++ used) before after) (sym e) (advances.moves s.state s.rest keeps))

-- what a stage has done without the line buffer, the session has done
pub steps_by : (setup : Setup) (old : State) (new : Session) (octets before after : List ℕ) → Moves setup old new.stage octets before after → Holds new.line [] → Steps setup old new octets before after
steps_by setup old new octets before after (inl goes) empty =
    inl (keeps_text setup new.line new.stage old octets empty goes.kept, goes.nothing_written)
steps_by setup old new octets before after (inr turn) empty = inr (turn, empty)

-- an answer ends the unit's turn
pub answered : (setup : Setup) (old new : Session) (said : Said) (transaction : Transaction) (content : List ℕ) (given : Answer) (before after : List ℕ) → Stands setup old said → old.stage ≡ stage.Offering transaction content → new.server ≡ old.server → new.line ≡ old.line → new.stage ≡ stage.Command (held.Greeted transaction.client) → after ≡ before ++ reply_text (reply_of old.server.host (row_of_answer given)) → Answered setup said new given before after
answered setup old new said transaction content given before after s offering same line_is now written =
    let kept : Keeps setup old.line (stage.Offering transaction content) s.state s.rest = subst (λ (x : Stage). Keeps setup old.line x s.state s.rest) offering s.keeps in
    let offer = offered_of transaction.client transaction.envelope content in
    let turn : Turn = record { asked = s.rest; reply = reply_of setup.host (row_of_answer given); offer = Some (offer, given) } in
    let next : State = Command (Greeted transaction.client) in
    let row : Answers setup s.state turn next = record {
      course = Offers transaction.client transaction.envelope content;
      comes = kept.1;
      takes = (given, refl, refl, refl);
    } in
    let host = ap (λ (x : Setup). x.host) s.setup_is in
    let keeps : Keeps setup new.line (stage.Command (held.Greeted transaction.client)) next [] = (refl, subst (λ (l : HeldLine). Holds l []) (sym line_is) kept.0) in
    record {
      later = more_said said [] (given ∷ []) (reply_text turn.reply) [];
      stands =
          stands_turn setup old new said [] (given ∷ []) (reply_text turn.reply) [] turn next s same row
          (sym (append-nil s.rest)) refl refl
          (ap (λ (x : Stage). offers_at x ++ []) offering ∙ sym (ap (λ (x : Stage). offer ∷ offers_at x) now))
          (subst (λ (x : Stage). Keeps setup new.line x next []) (sym now) keeps);
      more = record {
        input = refl;
        written = reply_text turn.reply;
        output = refl;
        out = written ∙ ap (λ (h : List ℕ). before ++ reply_text (reply_of h (row_of_answer given))) (sym host);
      };
      answers = refl;
      offers = append-nil said.offers;
    }

given_by : (is_long : Bool) (line kept : List ℕ) → kept ≡ take 2048 line → is_long ≡ nat_lt 2046 (length line) → IsGiven line kept is_long
given_by true line kept kept_is long_is =
    let long : 2046 < length line = grind (arith, nat_tests) in
    (long, kept_is)
given_by false line kept kept_is long_is =
    let short : length line ≤ 2046 = grind (arith, nat_tests) in
    (short, kept_is ∙ take_all 2048 line (omega arith))

-- the text that a line buffer gives of an ended line
pub given_line : (held_line : HeldLine) (line : List ℕ) → HoldsLine held_line line → IsGiven line held_line.kept held_line.is_long
given_line held_line line holds = given_by held_line.is_long line held_line.kept holds.kept holds.is_long

-- an ended line is a unit
pub line_is_unit : (octets line : List ℕ) → ReadsLine octets line [] → octets ≡ line ++ crlf
line_is_unit octets line reads = reads.text ∙ append-nil (line ++ crlf)

-- what was said is told by its four parts
pub stands_by : (setup : Setup) (session : Session) (said other : Said) → Stands setup session said → other.input ≡ said.input → other.answers ≡ said.answers → other.output ≡ said.output → other.offers ≡ said.offers → Stands setup session other
stands_by setup session said other s input answers output offers = record {
  setup_is = s.setup_is;
  turns = s.turns;
  state = s.state;
  rest = s.rest;
  runs = s.runs;
  input = input ∙ s.input;
  output = output ∙ s.output;
  answers = answers ∙ s.answers;
  offers = offers ∙ s.offers;
  keeps = s.keeps;
}

-- no offer is new where nothing was done
none_new : (offers : List Offered) → new_offers offers offers ≡ []
none_new [] = refl
none_new (offer ∷ offers) = refl

-- nothing was used yet
pub hears_nothing : (setup : Setup) (session : Session) (said : Said) (out : List ℕ) → Stands setup session said → Hears setup said session session [] out out
hears_nothing setup session said out s = record {
  later = said;
  stands = s;
  more = record {
    input = sym (append-nil said.input);
    written = [];
    output = sym (append-nil said.output);
    out = sym (append-nil out);
  };
  answers = refl;
  offers = sym (ap (λ l. said.offers ++ l) (none_new (open_offers session)) ∙ append-nil said.offers);
}

-- one call after others
pub hears_further : (setup : Setup) (first old new : Session) (routes : RouteTable) (said : Said) (piece : List ℕ) (used count : ℕ) (start_out before after : List ℕ) → setup.routes ≡ routes → is_reading first.stage ≡ true → is_reading old.stage ≡ true → Hears setup said first old (take used piece) start_out before → Advances old new routes (take count (drop used piece)) before after → Hears setup said first new (take (used + count) piece) start_out after
hears_further setup first old new routes said piece used count start_out before after same began reads h advances =
    let further = take count (drop used piece) in
    let next = stands_advanced setup old new routes h.later further before after same h.stands reads advances in
    let none = none_at first.stage began in
    let settled = h.offers ∙ ap (λ l. said.offers ++ new_offers l (open_offers old)) none ∙ ap (λ l. said.offers ++ l) (none_at old.stage reads) ∙ append-nil said.offers in
    record {
      later = more_said h.later further [] next.0 (offers_at new.stage);
      stands = next.2;
      more = record {
        input = ap (λ l. l ++ further) h.more.input ∙ append_assoc said.input (take used piece) further ∙ ap (λ l. said.input ++ l) (sym (take-add used count piece));
        written = h.more.written ++ next.0;
        output = ap (λ l. l ++ next.0) h.more.output ∙ append_assoc said.output h.more.written next.0;
        out = next.1 ∙ ap (λ l. l ++ next.0) h.more.out ∙ append_assoc start_out h.more.written next.0;
      };
      answers = append-nil h.later.answers ∙ h.answers;
      offers = ap (λ l. l ++ offers_at new.stage) settled ∙ sym (ap (λ l. said.offers ++ new_offers l (open_offers new)) none);
    }

-- what was heard of the octets after those used
pub heard_after : (setup : Setup) (said : Said) (old new : Session) (piece : List ℕ) (used count : ℕ) (before after : List ℕ) → Hears setup said old new (take count (drop used piece)) before after → Hears setup said old new (slice_range piece used (used + count)) before after
heard_after setup said old new piece used count before after h =
    let same : count ≡ (used + count) - used = omega arith in
    subst (λ n. Hears setup said old new (take n (drop used piece)) before after) same h

-- what was heard of a piece was said
pub heard_is_said : (setup : Setup) (said : Said) (old new : Session) (piece : List ℕ) (used : ℕ) (before out : List ℕ) → before ≡ [] → Hears setup said old new (slice_range piece 0 used) before out → Stands setup new (more_said said (take used piece) [] out (offers_since old new))
heard_is_said setup said old new piece used before out none h =
    let same : used ≡ used - 0 = omega arith in
    stands_by setup new h.later (more_said said (take used piece) [] out (offers_since old new)) h.stands
    (ap (λ n. said.input ++ take n piece) same ∙ sym h.more.input) (append-nil said.answers ∙ sym h.answers)
    (ap (λ l. said.output ++ l) (h.more.out ∙ ap (λ l. l ++ h.more.written) none) ∙ sym h.more.output) (sym h.offers)

-- an answer alone was said
pub answer_is_said : (setup : Setup) (said : Said) (new : Session) (given : Answer) (before out : List ℕ) → before ≡ [] → Answered setup said new given before out → Stands setup new (more_said said [] (given ∷ []) out [])
answer_is_said setup said new given before out none a =
    stands_by setup new a.later (more_said said [] (given ∷ []) out []) a.stands (sym a.more.input) (sym a.answers)
    (ap (λ l. said.output ++ l) (a.more.out ∙ ap (λ l. l ++ a.more.written) none) ∙ sym a.more.output) (append-nil said.offers ∙ sym a.offers)

next_reads : (shown : Shown) → (next_shown shown ≡ next.More → ⊥) → reads shown ≡ false
next_reads Reading waits = absurd (waits refl)
next_reads (Offering offer) waits = refl
next_reads Over waits = refl

-- a session that waits reads nothing
pub waits_reads : (session : Session) → Waits session → is_reading session.stage ≡ false
waits_reads session waits = next_reads (shown_at session.stage) waits

more_reads : (shown : Shown) → next_shown shown ≡ next.More → reads shown ≡ true
more_reads Reading more = refl
more_reads (Offering offer) more = cc
more_reads Over more = cc

-- a session that is told to go on reads
pub reads_on : (session : Session) → next_of session ≡ next.More → is_reading session.stage ≡ true
reads_on session more = more_reads (shown_at session.stage) more

none_by : (shown : Shown) → offers_shown shown ≡ [] → next_shown shown ≡ next.Offer → ⊥
none_by Reading none told = cc
none_by (Offering offer) none told = cc
none_by Over none told = cc

-- no offer opens without an octet
pub offers_need_octets : (old new : Session) (used : ℕ) → (used ≡ 0 → new ≡ old) → open_offers old ≡ [] → HasOffer new → 0 < used
offers_need_octets old new zero idle none told =
    absurd (none_by (shown_at new.stage) (ap (λ (session : Session). open_offers session) (idle refl) ∙ none) told)
offers_need_octets old new (suc used) idle none told = omega arith

-- at an offer more is used, or it was open before
pub more_than : (offers : List Offered) (used further : ℕ) → used ≤ further → (offers ≡ [] → used < further) → used < further + length offers
more_than [] used further within some = let less = some refl in omega (arith, less)
more_than (offer ∷ offers) used further within some = omega (arith, within)

-- a line buffer without octets holds nothing
pub holds_nothing : (held_line : HeldLine) (octets : List ℕ) → Holds held_line octets → held_line.kept ≡ [] → octets ≡ []
holds_nothing held_line [] holds empty = refl
holds_nothing held_line (octet ∷ octets) holds empty =
    let many = length-take 2048 (octet ∷ octets) in
    let none = ap length (sym holds.kept ∙ empty) in
    absurd (omega (arith, many, none))

-- a line that stands whole in a piece, and its unit
pub whole_line : (piece line rest : List ℕ) (end : ℕ) → ReadsLine piece line rest → end ≡ length line + 2 → (take (end - 2) piece ≡ line) × (take end piece ≡ line ++ crlf)
whole_line piece line rest end reads end_is =
    let unit_long = length-append line crlf in
    let line_end : end - 2 ≡ length line = omega (arith, end_is) in
    let unit_end : end ≡ length (line ++ crlf) = omega (arith, end_is, unit_long) in (
      ap (λ k. take k piece) line_end ∙ ap (take (length line)) (reads.text ∙ append_assoc line crlf rest) ∙ take-append_seam line (crlf ++ rest),
      ap (λ k. take k piece) unit_end ∙ ap (take (length (line ++ crlf))) reads.text ∙ take-append_seam (line ++ crlf) rest,
    )
