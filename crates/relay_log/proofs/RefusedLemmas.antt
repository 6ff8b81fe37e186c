-- The lines of the replies that refuse one command alone.
use Rattle.std.proofs.Common.{◌≡◌, ◌⊎◌, inl, inr, ℕ, List, [], ◌∷◌, ◌++◌, codes, refl, sym, ap, ◌∙◌}
use Rattle.std.proofs.lemmas.List.{append_cancel_right}
use Rattle.relay_octets.specs.Line.{crlf}
use Rattle.relay_lines.specs.Reply.{reply_text}
use Rattle.relay_server.specs.Reply.{reply_of}
use Rattle.relay_server.specs.declared.reply_table.Row.{Row}
use Rattle.relay_server.specs.declared.reply_table.Row.TheVariants.{TooManyRecipients, RoutedAddress, NoRoute, UnknownCommand}
use Rattle.relay_server.specs.declared.reply_table.Row.TheVariants.{BadChunkSize}
use Rattle.relay_log.specs.Refused.{Refuses}
use Rattle.relay_log.specs.declared.refused.Refused.TheVariants.{Rcpt, Bdat, Unknown}

-- the rows' lines
no_route : (host : List ℕ) → reply_text (reply_of host NoRoute) ≡ codes "550 no route" ++ crlf
unfolding reply_of
no_route host = refl

routed_address : (host : List ℕ) → reply_text (reply_of host RoutedAddress) ≡ codes "553 routed address refused" ++ crlf
unfolding reply_of
routed_address host = refl

too_many : (host : List ℕ) → reply_text (reply_of host TooManyRecipients) ≡ codes "452 too many recipients" ++ crlf
unfolding reply_of
too_many host = refl

unknown_command : (host : List ℕ) → reply_text (reply_of host UnknownCommand) ≡ codes "500 unknown command" ++ crlf
unfolding reply_of
unknown_command host = refl

bad_chunk_size : (host : List ℕ) → reply_text (reply_of host BadChunkSize) ≡ (codes "421 " ++ (host ++ codes " bad chunk size, closing")) ++ crlf
unfolding reply_of
bad_chunk_size [] = refl
bad_chunk_size (octet ∷ octets) = refl

-- a row whose line is the same at each server
module _ (row : Row) (text line : List ℕ) (is : (host : List ℕ) → reply_text (reply_of host row) ≡ text ++ crlf) where
  its_line : (host : List ℕ) × (reply_text (reply_of host row) ≡ line ++ crlf) → line ≡ text
  its_line written = append_cancel_right line text crlf (sym written.1 ∙ is written.0)

  its_row : line ≡ text → (host : List ℕ) × (reply_text (reply_of host row) ≡ line ++ crlf)
  its_row same = ([], is [] ∙ ap (λ (it : List ℕ). it ++ crlf) (sym same))

pub refuses_rcpt : (line : List ℕ) → Refuses line Rcpt
    → (line ≡ codes "550 no route") ⊎ ((line ≡ codes "553 routed address refused") ⊎ (line ≡ codes "452 too many recipients"))
refuses_rcpt line (inl written) = inl (its_line NoRoute (codes "550 no route") line no_route written)
refuses_rcpt line (inr (inl written)) = inr (inl (its_line RoutedAddress (codes "553 routed address refused") line routed_address written))
refuses_rcpt line (inr (inr (inl written))) = inr (inr (its_line TooManyRecipients (codes "452 too many recipients") line too_many written))
refuses_rcpt line (inr (inr (inr none))) = absurd none

pub rcpt_by_no_route : (line : List ℕ) → line ≡ codes "550 no route" → Refuses line Rcpt
rcpt_by_no_route line same = inl (its_row NoRoute (codes "550 no route") line no_route same)

pub rcpt_by_routed_address : (line : List ℕ) → line ≡ codes "553 routed address refused" → Refuses line Rcpt
rcpt_by_routed_address line same = inr (inl (its_row RoutedAddress (codes "553 routed address refused") line routed_address same))

pub rcpt_by_too_many : (line : List ℕ) → line ≡ codes "452 too many recipients" → Refuses line Rcpt
rcpt_by_too_many line same = inr (inr (inl (its_row TooManyRecipients (codes "452 too many recipients") line too_many same)))

pub refuses_unknown : (line : List ℕ) → Refuses line Unknown → line ≡ codes "500 unknown command"
refuses_unknown line (inl written) = its_line UnknownCommand (codes "500 unknown command") line unknown_command written
refuses_unknown line (inr none) = absurd none

pub unknown_by : (line : List ℕ) → line ≡ codes "500 unknown command" → Refuses line Unknown
unknown_by line same = inl (its_row UnknownCommand (codes "500 unknown command") line unknown_command same)

-- the host's name stands in the line of a bad chunk size
pub refuses_bdat : (line : List ℕ) → Refuses line Bdat → (host : List ℕ) × (line ≡ codes "421 " ++ (host ++ codes " bad chunk size, closing"))
refuses_bdat line (inl written) =
    (written.0, append_cancel_right line (codes "421 " ++ (written.0 ++ codes " bad chunk size, closing")) crlf (sym written.1 ∙ bad_chunk_size written.0))
refuses_bdat line (inr none) = absurd none

pub bdat_by : (line host : List ℕ) → line ≡ codes "421 " ++ (host ++ codes " bad chunk size, closing") → Refuses line Bdat
bdat_by line host same = inl (host, bad_chunk_size host ∙ ap (λ (it : List ℕ). it ++ crlf) (sym same))
