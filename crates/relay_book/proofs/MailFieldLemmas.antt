-- Where no MAIL has the fields.
use Rattle.std.proofs.Common.{◌≡◌, ◌≢◌, ℕ, true, List, Option, sym, subst}
use Rattle.relay_envelope.specs.declared.parameters.Ret.{Ret}
use Rattle.relay_envelope.specs.Envelope.{IsReversePath, may_be_envid}
use Rattle.relay_book.specs.Record.{ret_number, written}
use Rattle.relay_book.specs.Fields.{IsNoMail}

pub none_path : (path : List ℕ) (ret : ℕ) (envid : List ℕ) → (IsReversePath path → ⊥) → IsNoMail path ret envid
none_path path ret envid out = record { none = λ envelope valid has. out (subst IsReversePath (sym has.path_is) valid.reverse_path) }

pub none_ret : (path : List ℕ) (ret : ℕ) (envid : List ℕ) → ((given : Option Ret) → ret ≢ ret_number given) → IsNoMail path ret envid
none_ret path ret envid out = record { none = λ envelope valid has. out envelope.ret has.ret_is }

pub none_envid : (path : List ℕ) (ret : ℕ) (envid : List ℕ) → ((given : Option (List ℕ)) → may_be_envid given ≡ true → envid ≢ written given) → IsNoMail path ret envid
none_envid path ret envid out = record { none = λ envelope valid has. out envelope.envid valid.envid has.envid_is }

-- fields of which no sender is made
pub ruleset refused_mail = (none_path, none_ret, none_envid)
