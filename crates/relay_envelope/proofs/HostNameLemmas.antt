-- Names of hosts are words of HELO, and no CR LF stands in one.
use Rattle.std.proofs.Common.{◌≡◌, inl, ℕ, true, codes, get_or, arith}
use Rattle.std.proofs.lemmas.Bool.Decides.{nat_tests}
use Rattle.relay_octets.proofs.Theorems.{no_crlf_back}
use Rattle.relay_lines.specs.Word.{is_domain_octet}
use Rattle.relay_lines.specs.Command.{Helo}
use Rattle.relay_lines.proofs.Theorems.{written_command_is_read}
use Rattle.relay_envelope.specs.HostName.{is_host_octet, HostNameIsHostWord, HostWordHasNoCrlf}

host_is_domain : (octet : ℕ) → is_host_octet octet ≡ true → is_domain_octet octet ≡ true
host_is_domain octet test = grind (arith, nat_tests)

pub host_name_is_host_word : HostNameIsHostWord
host_name_is_host_word host name = record {
  not_empty = name.some_octet;
  within = name.few_octets;
  form = inl (λ k d h. host_is_domain (get_or host k d) (name.octets k d h));
}

-- the line of HELO with that word holds none
pub host_word_has_no_crlf : HostWordHasNoCrlf
host_word_has_no_crlf word is = no_crlf_back (codes "HELO ") word (written_command_is_read (Helo word) is).has_no_crlf
