-- What one feed of the reader is for a delivery.
use Rattle.std.proofs.Common.{◌≡◌, ◌≤◌, ◌⊎◌, ℕ, ◌+◌, ◌-◌, true, false, List, [], ◌∷◌, ◌++◌, length, take, drop, Option, Some, None, MatchOption, refl, sym, ap, ◌∙◌, subst, inl, inr, arith}
use Rattle.std.proofs.lemmas.List.{append_assoc, length-append, take-append-drop, take_all, take_rest, drop-take, take-take}
use Rattle.std.proofs.lemmas.List.Concat.{flat_map-append}
use Rattle.relay_lines.specs.Reply.{Reply}
use Rattle.relay_lines.specs.ReplyReading.{HasFault}
use Rattle.relay_lines.specs.ReplySteps.{HasRead}
use Rattle.relay_lines.specs.declared.reply_reader.ReplyReader.{ReplyReader}
use Rattle.relay_lines.specs.declared.reply_reader.ReplyFault.{ReplyFault}
use Rattle.relay_lines.specs.declared.reply_reader.ReplyFault.TheVariants.{NoMemory}
use Rattle.relay_lines.proofs.Theorems.{cut_goes_on, held_is_unfinished}
use Rattle.relay_book.specs.declared.change.Verdict.{Verdict}
use Rattle.relay_course.specs.VerdictTable.{all_later}
use Rattle.relay_course.specs.Progress.{Delivery, Progress, after_reply, progress}
use Rattle.relay_course.specs.Course.{Concludes, Runs, joined}
use Rattle.relay_client.specs.declared.conversation.Conversation.{Conversation}
use Rattle.relay_client.specs.Conversation.{Does, Holds}
use Rattle.relay_client.specs.Attempt.{KeepsOn, KeepsTo}
use Rattle.relay_course.proofs.Theorems.{each_command_waits, each_reply_answers, reply_leads_on}

-- what a feed that ends no reply does to a reader
abbrev pub ReadsOn : ReplyReader → ReplyReader → List ℕ → Type 0
ReadsOn old new piece =
    (octets : List ℕ) (replies : List Reply) (rest : List ℕ) → HasRead old octets replies rest
    → HasRead new (octets ++ piece) replies (rest ++ piece)

-- what a feed that ends a reply does to it
abbrev pub ReadsOne : ReplyReader → ReplyReader → List ℕ → Reply → Type 0
ReadsOne old new piece reply =
    (octets : List ℕ) (replies : List Reply) (rest : List ℕ) → HasRead old octets replies rest
    → HasRead new (octets ++ piece) (replies ++ reply ∷ []) []

-- what a feed that finds a fault does
abbrev pub FindsFault : ReplyReader → List ℕ → ReplyFault → Type 0
FindsFault reader piece fault =
    (octets : List ℕ) (replies : List Reply) (rest : List ℕ) → HasRead reader octets replies rest
    → (fault ≡ NoMemory) ⊎ HasFault (rest ++ piece) fault

-- what a reply does
abbrev pub Answers : Delivery → Conversation → Conversation → Reply → Option (List Verdict) → List ℕ → List ℕ → Type 0
Answers delivery old new reply ended out more =
    (now : Progress) → Holds old delivery now → Does delivery now (after_reply delivery now reply) new ended out more

-- the octets have a fault
pub keeps_fault : (reader : ReplyReader) (talk : Conversation) (delivery : Delivery) (input output piece : List ℕ)
    (fault : ReplyFault) → KeepsTo reader talk delivery input output → FindsFault reader piece fault → ¬ (fault ≡ NoMemory)
    → Runs delivery (input ++ piece) false output (Some (all_later delivery.places))
keeps_fault reader talk delivery input output piece fault k h other =
    let found : HasFault (k.rest ++ piece) fault =
    elim (h input k.replies k.rest k.reads) [ inl e ↦ absurd (other e) | inr found ↦ found ] in
    record {
      replies = k.replies;
      rest = k.rest ++ piece;
      cut = cut_goes_on input k.rest piece k.replies k.reads.cut;
      each = k.each;
      written = k.written;
      concludes = subst
          (λ (v : Option (List Verdict)). Concludes delivery.places false (k.rest ++ piece) v (Some (all_later delivery.places)))
          (sym k.holds.running) (inr (inr (refl, (fault, found), refl)));
    }

-- the connection is lost
pub keeps_broken : (reader : ReplyReader) (talk : Conversation) (delivery : Delivery) (input output : List ℕ)
    → KeepsTo reader talk delivery input output → Runs delivery input true output (Some (all_later delivery.places))
keeps_broken reader talk delivery input output k = record {
  replies = k.replies;
  rest = k.rest;
  cut = k.reads.cut;
  each = k.each;
  written = k.written;
  concludes = subst (λ (v : Option (List Verdict)). Concludes delivery.places true k.rest v (Some (all_later delivery.places)))
      (sym k.holds.running) (inr (inl (refl, held_is_unfinished reader k.rest k.reads.holds, refl)));
}

-- more may come
pub keeps_open : (reader : ReplyReader) (talk : Conversation) (delivery : Delivery) (input output : List ℕ)
    → KeepsTo reader talk delivery input output → Runs delivery input false output None
keeps_open reader talk delivery input output k = record {
  replies = k.replies;
  rest = k.rest;
  cut = k.reads.cut;
  each = k.each;
  written = k.written;
  concludes = subst (λ (v : Option (List Verdict)). Concludes delivery.places false k.rest v None)
      (sym k.holds.running) (inl (refl, held_is_unfinished reader k.rest k.reads.holds, refl));
}

-- the octets of the commands
written-more : (output out more : List ℕ) (old new commands : List (List ℕ)) → output ++ out ≡ joined old
    → new ≡ old ++ commands → more ≡ out ++ joined commands → output ++ more ≡ joined new
written-more output out more old new commands e f g =
    ap (λ (o : List ℕ). output ++ o) g ∙ sym (append_assoc output out (joined commands))
    ∙ ap (λ (o : List ℕ). o ++ joined commands) e
    ∙ sym (flat_map-append (λ (command : List ℕ). command) old commands) ∙ sym (ap joined f)

-- one reply more was read and answered
answered-more : (delivery : Delivery) (replies : List Reply) (reply : Reply) → (progress delivery replies).verdicts ≡ None
    → length (progress delivery replies).answered ≡ length replies
    → length (progress delivery (replies ++ reply ∷ [])).answered ≡ length (replies ++ reply ∷ [])
answered-more delivery replies reply none e =
    each_reply_answers delivery replies reply none ∙ omega (arith, e, length-append replies (reply ∷ []))

-- a reply ends with the piece, and the delivery goes on, or ends
keeps-reply : (old_reader new_reader : ReplyReader) (old new : Conversation) (delivery : Delivery)
    (input output piece out more : List ℕ) (reply : Reply) (ended : Option (List Verdict))
    → KeepsTo old_reader old delivery input (output ++ out) → ReadsOne old_reader new_reader piece reply
    → Answers delivery old new reply ended out more
    → KeepsOn new_reader new delivery (input ++ piece) (output ++ more) ended
keeps-reply old_reader new_reader old new delivery input output piece out more reply None k h does =
    let now : Progress = progress delivery k.replies in
    let next : Progress = after_reply delivery now reply in
    let d : Does delivery now next new None out more = does now k.holds in
    let same : next ≡ progress delivery (k.replies ++ reply ∷ []) = sym (reply_leads_on delivery k.replies reply) in
    record {
      replies = k.replies ++ reply ∷ [];
      rest = [];
      reads = h input k.replies k.rest k.reads;
      each = answered-more delivery k.replies reply k.holds.running k.each;
      written = subst (λ (p : Progress). output ++ more ≡ joined p.commands) same
          (written-more output out more now.commands next.commands d.commands k.written d.commands_are d.written);
      holds = subst (λ (p : Progress). Holds new delivery p) same d.stands;
      waits = (each_command_waits delivery (k.replies ++ reply ∷ [])
          (subst (λ (p : Progress). p.verdicts ≡ None) same d.stands.running)).0;
    }
keeps-reply old_reader new_reader old new delivery input output piece out more reply (Some verdicts) k h does =
    let now : Progress = progress delivery k.replies in
    let next : Progress = after_reply delivery now reply in
    let d : Does delivery now next new (Some verdicts) out more = does now k.holds in
    let same : next ≡ progress delivery (k.replies ++ reply ∷ []) = sym (reply_leads_on delivery k.replies reply) in
    let reads = h input k.replies k.rest k.reads in
    record {
      replies = k.replies ++ reply ∷ [];
      rest = [];
      cut = reads.cut;
      each = answered-more delivery k.replies reply k.holds.running k.each;
      written = subst (λ (p : Progress). output ++ more ≡ joined p.commands) same
          (written-more output out more now.commands next.commands d.commands k.written d.commands_are d.written);
      concludes = subst (λ (p : Progress). Concludes delivery.places false [] p.verdicts (Some verdicts)) same
          (subst (λ (v : Option (List Verdict)). Concludes delivery.places false [] v (Some verdicts)) (sym d.stands)
          (refl, refl, refl));
    }

-- the same, by a name of the reply
pub keeps_reply : (old_reader new_reader : ReplyReader) (old new : Conversation) (delivery : Delivery)
    (input output piece out more : List ℕ) (reply other : Reply) (ended : Option (List Verdict))
    → KeepsTo old_reader old delivery input (output ++ out) → ReadsOne old_reader new_reader piece reply → other ≡ reply
    → Answers delivery old new other ended out more
    → KeepsOn new_reader new delivery (input ++ piece) (output ++ more) ended
keeps_reply old_reader new_reader old new delivery input output piece out more reply other ended k h e does =
    keeps-reply old_reader new_reader old new delivery input output piece out more reply ended k h
    (subst (λ (r : Reply). Answers delivery old new r ended out more) e does)

-- what is left of a piece after its used octets
abbrev pub left_of : List ℕ → ℕ → List ℕ
left_of piece used = take (length piece - used) (drop used piece)

-- octets up to a place, and then some of what is left
take-more : (piece : List ℕ) (used more : ℕ)
    → take used piece ++ take more (left_of piece used) ≡ take (used + more) piece
take-more piece used more =
    let le : used ≤ used + more = omega arith in
    ap (λ (r : List ℕ). take used piece ++ take more r) (take_rest piece used)
    ∙ ap (λ (r : List ℕ). take used piece ++ r) (sym (drop-take used more piece))
    ∙ ap (λ (r : List ℕ). r ++ drop used (take (used + more) piece)) (sym (take-take used (used + more) piece le))
    ∙ take-append-drop used (take (used + more) piece)

input-more : (input piece : List ℕ) (used more : ℕ)
    → (input ++ take used piece) ++ take more (left_of piece used) ≡ input ++ take (used + more) piece
input-more input piece used more =
    append_assoc input (take used piece) (take more (left_of piece used))
    ∙ ap (λ (p : List ℕ). input ++ p) (take-more piece used more)

-- a step further in a piece
pub on_in_piece : (reader : ReplyReader) (talk : Conversation) (delivery : Delivery) (input output piece : List ℕ)
    (used more : ℕ) (ended : Option (List Verdict))
    → KeepsOn reader talk delivery ((input ++ take used piece) ++ take more (left_of piece used)) output ended
    → KeepsOn reader talk delivery (input ++ take (used + more) piece) output ended
on_in_piece reader talk delivery input output piece used more ended k =
    subst (λ (i : List ℕ). KeepsOn reader talk delivery i output ended) (input-more input piece used more) k

-- the octets have a fault: all of them are used
pub fault_step : (reader : ReplyReader) (talk : Conversation) (delivery : Delivery) (input output piece : List ℕ)
    (fault : ReplyFault) (verdicts : List Verdict) → KeepsTo reader talk delivery input output
    → FindsFault reader piece fault → ¬ (fault ≡ NoMemory) → verdicts ≡ all_later talk.places.items
    → Runs delivery (input ++ take (length piece) piece) false output (Some verdicts)
fault_step reader talk delivery input output piece fault verdicts k h other e =
    subst (λ (i : List ℕ). Runs delivery i false output (Some verdicts))
    (ap (λ (p : List ℕ). input ++ p) (sym (take_all (length piece) piece (omega arith))))
    (subst (λ (v : List Verdict). Runs delivery (input ++ piece) false output (Some v))
    (sym (e ∙ ap all_later k.holds.places_are)) (keeps_fault reader talk delivery input output piece fault k h other))

-- a feed gave this reply
pub reads_one : (old new : ReplyReader) (cut : Option Reply) (reply : Reply) (piece front : List ℕ) → cut ≡ Some reply
    → ((octets : List ℕ) (replies : List Reply) (rest : List ℕ) → HasRead old octets replies rest
    → MatchOption cut (HasRead new (octets ++ piece) replies (rest ++ piece))
    (λ r. HasRead new (octets ++ front) (replies ++ r ∷ []) []))
    → ReadsOne old new front reply
reads_one old new cut reply piece front e f octets replies rest h =
    subst (λ (o : Option Reply). MatchOption o (HasRead new (octets ++ piece) replies (rest ++ piece))
    (λ r. HasRead new (octets ++ front) (replies ++ r ∷ []) [])) e (f octets replies rest h)

pub on_ended : (reader : ReplyReader) (talk : Conversation) (delivery : Delivery) (input output : List ℕ)
    (ended : Option (List Verdict)) (all other : List Verdict) → ended ≡ Some all → other ≡ all
    → KeepsOn reader talk delivery input output ended → Runs delivery input false output (Some other)
on_ended reader talk delivery input output ended all other e same k =
    subst (λ (v : List Verdict). Runs delivery input false output (Some v)) (sym same)
    (subst (λ (v : Option (List Verdict)). KeepsOn reader talk delivery input output v) e k)

pub on_running : (reader : ReplyReader) (talk : Conversation) (delivery : Delivery) (input output : List ℕ)
    (ended : Option (List Verdict)) → ended ≡ None → KeepsOn reader talk delivery input output ended
    → KeepsTo reader talk delivery input output
on_running reader talk delivery input output ended e k =
    subst (λ (v : Option (List Verdict)). KeepsOn reader talk delivery input output v) e k
