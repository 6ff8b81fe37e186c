-- Each place of a valid envelope is read by the server, which takes it or not.
use Rattle.std.proofs.Common.{◌≡◌, ◌<◌, ℕ, zero, suc, Bool, false, List, [], ◌∷◌, length, is_some, Some, refl, ap, cond, arith}
use Rattle.std.specs.Prelude.{slice_get}
use Rattle.std.specs.List.{AllByRecursion}
use Rattle.relay_envelope.specs.declared.envelope.Recipient.{Recipient}
use Rattle.relay_envelope.specs.Envelope.{IsRecipient}
use Rattle.relay_envelope.proofs.Theorems.{rcpt_is_read_again}
use Rattle.relay_routes.specs.RoutedPath.{refuses_path}
use Rattle.relay_routes.specs.Routes.{hop_of}
use Rattle.relay_server.specs.Setup.{Setup}
use Rattle.relay_course.specs.WrittenLine.{rcpt_line, rcpt_line_at}
use Rattle.relay_course.specs.Laws.{AreWithin}
use Rattle.relay_meeting.specs.Script.{AreTried, EachPlaceIsTried, Tried}

-- the recipient of a place
pub record IsPlace (recipients : List Recipient) (place : ℕ) : Type 0 where
  pub recipient : Recipient
  pub valid : IsRecipient recipient
  pub at : slice_get recipients place ≡ Some recipient

place_of : (recipients : List Recipient) (place : ℕ) → AllByRecursion IsRecipient recipients → place < length recipients
    → IsPlace recipients place
place_of [] place valid h = absurd (omega arith)
place_of (recipient ∷ recipients) zero valid h = record { recipient = recipient; valid = valid.0; at = refl }
place_of (recipient ∷ recipients) (suc place) valid h =
    let after = place_of recipients place valid.1 (omega arith) in
    record { recipient = after.recipient; valid = after.valid; at = after.at }

tried_all : (setup : Setup) (recipients : List Recipient) (places : List ℕ) → AllByRecursion IsRecipient recipients
    → AreWithin places recipients → (tried : List Tried) × AreTried setup recipients places tried
tried_all setup recipients [] valid within = ([], tt)
tried_all setup recipients (place ∷ places) valid within =
    let here = place_of recipients place valid within.0 in
    let again = rcpt_is_read_again here.recipient here.valid in
    let after = tried_all setup recipients places valid within.1 in
    let routed : Bool = refuses_path setup.routed_paths again.0.path in
    let tried : Tried = record {
      recipient = here.recipient;
      routed = routed;
      goes = cond routed false (is_some (hop_of setup.routes again.0.path));
    } in (
      tried ∷ after.0,
      (
        here.at,
        (record { valid = here.valid; rcpt = again.0; reads = again.1; same = again.2; routed = refl; goes = refl }),
        after.1,
      ),
    )

pub each_place_is_tried : EachPlaceIsTried
each_place_is_tried setup envelope places valid within = tried_all setup envelope.recipients places valid.recipients within

-- the line of a place is that of its recipient
pub rcpt_line-at : (dsn : Bool) (recipients : List Recipient) (place : ℕ) (recipient : Recipient)
    → slice_get recipients place ≡ Some recipient → rcpt_line_at dsn recipients place ≡ rcpt_line dsn recipient
rcpt_line-at dsn [] place recipient at = absurd (cc)
rcpt_line-at dsn (first ∷ recipients) zero recipient at =
    let same : first ≡ recipient = cc in ap (λ (r : Recipient). rcpt_line dsn r) same
rcpt_line-at dsn (first ∷ recipients) (suc place) recipient at = rcpt_line-at dsn recipients place recipient at
