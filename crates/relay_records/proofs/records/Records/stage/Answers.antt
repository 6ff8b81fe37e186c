-- A change that is staged comes into the queue, and its record after those of the row.
use Rattle.std.proofs.Common.{◌≡◌, ◌+◌, ◌≤◌, ◌^◌, ◌∷◌, [], ◌++◌, ◌∙◌, ℕ, List, length, ap, arith, rules, sym, subst}
use Rattle.relay_spool.specs.Image.{room_of}
use Rattle.relay_book.specs.Record.{encode}
use Rattle.relay_book.specs.Queue.{FitsQueue, Queue, step}
use Rattle.relay_records.specs.Note.{NotesNext}
use Rattle.relay_records.specs.Records.{Kept}
use Rattle.relay_records.proofs.RecordLemmas.{body_is_short, queue_more}
use Rattle.relay_records.proofs.StagedLemmas.{one_more_awaited, room_more}
use Rattle.relay_records.proofs.records.Records.stage.Goals as goal

pub push-requires : goal.push-requires
push-requires g c =
    body_is_short c.args.self.now.queue c.args.change c.in_ok-noted.noted.octets (c.requires.fits (search rules))
    (c.in_ok-noted.ensures.octets_are ∙ c.requires.octets)

pub invariant_of-self-2 : goal.invariant_of-self-2
invariant_of-self-2 g c =
    queue_more c.self.inside.book.queue c.commit.new.self.queue c.args.change c.self.invariant
    (subst (λ (k : Kept _). FitsQueue k.queue c.args.change) (sym c.self.view_is) (c.requires.fits (search rules)))
    (c.commit.ensures ∙ ap (step c.ready_of.new.book.queue) c.in_ok-ready.ensures.change
    ∙ ap (λ (q : Queue). step q c.args.change) c.ready_of.ensures.queue)

-- the row has room for the record
room_left : (size now : ℕ) (bodies left : List (List ℕ)) (octets body : List ℕ) → now ≡ size → left ≡ bodies ++ body ∷ [] → octets ≡ body
    → size + room_of bodies + 5 + length octets ≤ 2 ^ 40 → now + room_of left ≤ 2 ^ 40
room_left size now bodies left octets body same are is fits =
    let more = room_more bodies body in
    let all = ap room_of are in
    let long = ap length is in
    omega (arith, same, more, all, long, fits)

pub returns-clause-stages : goal.returns-clause-stages
returns-clause-stages g c =
    let change = c.args.change in
    let note = c.in_ok-noted.noted in
    let body : note.octets ≡ encode change = c.in_ok-noted.ensures.octets_are ∙ c.requires.octets in
    let queue : c.self.inside.book.queue ≡ c.args.self.now.queue = ap (λ (k : Kept _). k.queue) c.self.view_is in
    let bodies = c.in_ok-push.ensures.bodies ∙ ap (λ (b : List ℕ). c.args.row.now.bodies ++ b ∷ []) body in
    let fits : c.args.self.now.spool.size + room_of c.args.row.now.bodies + 5 + length c.args.octets ≤ 2 ^ 40 = search rules in
    record {
      number_is = c.in_ok-noted.ensures.number ∙ ap (λ (q : Queue). q.next) queue;
      queue = c.commit.ensures ∙ ap (step c.ready_of.new.book.queue) c.in_ok-ready.ensures.change
          ∙ ap (λ (q : Queue). step q change) (c.ready_of.ensures.queue ∙ queue);
      spool = ap (λ (k : Kept _). k.spool) c.self.view_is;
      noted = ap (λ (k : Kept _). k.noted) c.self.view_is;
      bodies = bodies;
      note = note;
      notes_next = subst (λ (octets : List ℕ). NotesNext c.args.self.now.queue change octets c.args.used note) c.requires.octets
          (subst (λ (q : Queue). NotesNext q change c.args.octets c.args.used note) queue c.in_ok-noted.ensures);
      notes = c.in_ok-push.ensures.notes;
      room = room_left c.args.self.now.spool.size c.self.inside.spool.size c.args.row.now.bodies c.push.new.self.bodies c.args.octets (encode change)
          (ap (λ (k : Kept _). k.spool.size) c.self.view_is) bodies c.requires.octets fits;
    }

pub returns-clause-awaits : goal.returns-clause-awaits
returns-clause-awaits g c = λ changes pending awaits.
    one_more_awaited g.D.Disk.honest g.D.Disk.words c.args.self.now _ c.args.row.now c.push.new.self changes pending c.args.change c.args.used c.in_ok-noted.noted.number
    awaits (c.requires.fits (search rules)) (returns-clause-stages g c)
