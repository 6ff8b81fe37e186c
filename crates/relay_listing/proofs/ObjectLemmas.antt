-- The text of an object.
use Rattle.std.proofs.Common.{◌≡◌, ℕ, Bool, false, ◌||◌, List, [], Option, None, Some, refl, ap, subst}
use Rattle.serde.specs.Event.{Log}
use Rattle.serde_json.specs.Data.{Data}
use Rattle.serde_json.specs.Events.{SendsValue}
use Rattle.serde_json.specs.Sent.{IsTextOf}
use Rattle.serde_json.specs.Written.{compact_text, has_float}
use Rattle.serde_json.proofs.FreeTexts.{text_of_value}
use Rattle.relay_listing.specs.Object.{hop_value, object_of}
use Rattle.relay_listing.specs.Row.{Queued}

-- a value that is the same
pub same_sent : (value same : Data) (old new : Log) → value ≡ same → SendsValue value old new → SendsValue same old new
same_sent value same old new is sent = subst (λ it. SendsValue it old new) is sent

hop_has_no_float : (hop : Option (List ℕ)) → has_float (hop_value hop) ≡ false
hop_has_no_float None = refl
hop_has_no_float (Some name) = refl

has_no_float : (now : ℕ) (queued : Queued) → has_float (object_of now queued) ≡ false
has_no_float now queued = ap (λ (b : Bool). b || false) (hop_has_no_float queued.hop)

pub text_is : (now : ℕ) (queued : Queued) (log : Log) (text : List ℕ) → SendsValue (object_of now queued) (Some []) log
    → IsTextOf log text → text ≡ compact_text (object_of now queued)
text_is now queued log text sent is = text_of_value (object_of now queued) log text sent is (has_no_float now queued)
