-- What is read after a path, word by word, is what the row of words says.
use Rattle.std.proofs.Common.{◌≡◌, ℕ, true, List, Result, refl}
use Rattle.relay_envelope.specs.Path.{Path, BeginsWithPath, is_forward, is_reverse}
use Rattle.relay_envelope.specs.Parameters.{mail_parameters_of, rcpt_parameters_of}
use Rattle.relay_envelope.specs.ParameterRow.{SaysMail, SaysRcpt}
use Rattle.relay_envelope.specs.Mail.{IsAfterPath, Mail, Rcpt, mail_of, rcpt_of}
use Rattle.relay_envelope.specs.declared.fault.EnvelopeFault.{EnvelopeFault}
use Rattle.relay_envelope.proofs.RowOfWordsLemmas.{text_is_row}
use Rattle.relay_envelope.proofs.RowIsReadLemmas.{mail_row_is_read, rcpt_row_is_read}
use Rattle.relay_envelope.proofs.RowIsOneLemmas.{mail_row_says_one, rcpt_row_says_one}

-- what is read after a path is what its row says
pub after_mail : (text : List ℕ) (path : Path) (rest : List ℕ) → BeginsWithPath text path rest → is_reverse path ≡ true
    → IsAfterPath is_reverse SaysMail mail_of text (mail_of path (mail_parameters_of rest))
after_mail text path rest begins allowed =
    let row = text_is_row rest in
    record {
      path = path;
      rest = rest;
      begins = begins;
      allowed = allowed;
      words = row.0;
      row = row.1;
      parameters = mail_parameters_of rest;
      says = mail_row_is_read rest row.0 row.1;
      result_is = refl;
    }

pub after_rcpt : (text : List ℕ) (path : Path) (rest : List ℕ) → BeginsWithPath text path rest → is_forward path ≡ true
    → IsAfterPath is_forward SaysRcpt rcpt_of text (rcpt_of path (rcpt_parameters_of rest))
after_rcpt text path rest begins allowed =
    let row = text_is_row rest in
    record {
      path = path;
      rest = rest;
      begins = begins;
      allowed = allowed;
      words = row.0;
      row = row.1;
      parameters = rcpt_parameters_of rest;
      says = rcpt_row_is_read rest row.0 row.1;
      result_is = refl;
    }

-- and what its row says is what is read
pub mail_is_read_so : (text : List ℕ) (result : Result Mail EnvelopeFault)
    (after : IsAfterPath is_reverse SaysMail mail_of text result) → after.parameters ≡ mail_parameters_of after.rest
mail_is_read_so text result after =
    mail_row_says_one after.words after.parameters (mail_parameters_of after.rest) after.says
    (mail_row_is_read after.rest after.words after.row)

pub rcpt_is_read_so : (text : List ℕ) (result : Result Rcpt EnvelopeFault)
    (after : IsAfterPath is_forward SaysRcpt rcpt_of text result) → after.parameters ≡ rcpt_parameters_of after.rest
rcpt_is_read_so text result after =
    rcpt_row_says_one after.words after.parameters (rcpt_parameters_of after.rest) after.says
    (rcpt_row_is_read after.rest after.words after.row)
