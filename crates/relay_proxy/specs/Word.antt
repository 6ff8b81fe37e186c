-- Words of a header line (section 2.1): an address or a port, and one space between two of them.
use Rattle.std.specs.Prelude.{◌≡◌, ℕ, ◌<◌, ◌^◌, ◌==◌, false, List, ◌++◌, codes, decimal}
use Rattle.std.specs.List.{AllByRecursion}
use Rattle.std.specs.Net.Grammar.{IsIpv4Text}
use Rattle.std.specs.declared.net.ipv4_addr.Ipv4Addr.{Ipv4Addr}

-- no space is in the text
abbrev pub HasNoSpace : List ℕ → Type 0
HasNoSpace text = AllByRecursion (λ octet. octet == 32 ≡ false) text

-- the text is this word up to its first space, and this rest follows that
pub record Cuts (text word rest : List ℕ) : Type 0 where
  pub text_is : text ≡ word ++ codes " " ++ rest
  pub first : HasNoSpace word

-- the text writes this port: a decimal number from 0 to 65,535 without leading zeros
pub record IsPort (text : List ℕ) (port : ℕ) : Type 0 where
  pub text_is : text ≡ decimal port
  pub fits : port < 2 ^ 16

-- the text begins with this address, in four decimal numbers without leading zeros, and this rest follows a space
pub record ReadsAddress (text : List ℕ) (address : Ipv4Addr) (rest : List ℕ) : Type 0 where
  pub word : List ℕ
  pub text_is : text ≡ word ++ codes " " ++ rest
  pub is_address : IsIpv4Text word address

-- the text begins with this port, and this rest follows a space
pub record ReadsPort (text : List ℕ) (port : ℕ) (rest : List ℕ) : Type 0 where
  pub word : List ℕ
  pub text_is : text ≡ word ++ codes " " ++ rest
  pub is_port : IsPort word port

-- the text writes no port; it begins with no address, with no port
pub record HasNoPort (text : List ℕ) : Type 0 where
  pub none : (port : ℕ) → ¬ IsPort text port

pub record HasNoAddress (text : List ℕ) : Type 0 where
  pub none : (address : Ipv4Addr) (rest : List ℕ) → ¬ ReadsAddress text address rest

pub record HasNoPortWord (text : List ℕ) : Type 0 where
  pub none : (port : ℕ) (rest : List ℕ) → ¬ ReadsPort text port rest
