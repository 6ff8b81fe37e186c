-- The answers and receipts that a thread gets for its mail.
use Rattle.std.specs.Prelude.{◌≡◌, ℕ, List, [], ◌∷◌, ◌++◌}
use Rattle.relay_server.specs.declared.offer.Answer.{Answer}
use Rattle.relay_server.specs.declared.offer.Answer.TheVariants.{Queued, Full}
use Rattle.relay_server.specs.Dialogue.{Offered}
use Rattle.relay_records.specs.declared.fault.NodeFault.{NodeFault}
use Rattle.relay_records.specs.declared.fault.NodeFault.TheVariants as fault
use Rattle.relay_node.specs.Acceptance.{IsAcceptOf}
use Rattle.relay_hub.specs.declared.receipt.Receipt.{Receipt}

-- the receipt of an offer from the client at this address: the message's number, and its accept by some host
pub record IsReceiptOf (offer : Offered) (peer : List ℕ) (at number : ℕ) (receipt : Receipt) : Type 0 where
  pub number_is : receipt.number ≡ number
  pub peer_is : receipt.peer ≡ peer
  pub host : List ℕ
  pub accept : IsAcceptOf (record { host = host; peer = peer; number = number; at = at }) offer receipt.accept

-- what an answer adds to a pass's receipts: one receipt if the message was queued, else nothing
abbrev pub Notes : Offered → List ℕ → ℕ → List Receipt → Answer → List Receipt → Type 0
Notes offer peer at old (Queued number) new =
    (receipt : Receipt) × IsReceiptOf offer peer at number receipt × (new ≡ old ++ receipt ∷ [])
Notes offer peer at old Full new = new ≡ old

-- why an offer isn't taken: memory ran out, the node is stopped, or change numbers have run out
abbrev pub IsOfAdmission : NodeFault → Type 0
IsOfAdmission fault.NoMemory = Unit {0}
IsOfAdmission fault.Stopped = Unit {0}
IsOfAdmission fault.Full = Unit {0}
IsOfAdmission other = ⊥
