-- The address of a page that only this machine is shown: 127.0.0.1 and a port.
use Rattle.std.specs.Prelude.{ℕ, nat_lt, Bool, ◌&&◌, List, codes, length, take, drop, Option, None, Some, if◌then◌else◌}
use Rattle.std.specs.Char.{is_ascii_digit}
use Rattle.std.specs.Int.{is_in_range}
use Rattle.std.specs.List.{list_all}
use Rattle.std.specs.Str.{bytes_eq}
use Rattle.std.specs.Str.Parse.{digits_value}

-- the text begins with this machine's own address and a colon
abbrev pub begins_here : List ℕ → Bool
begins_here text = bytes_eq (take 10 text) (codes "127.0.0.1:")

-- 1 to 5 digits
abbrev pub are_port_digits : List ℕ → Bool
are_port_digits digits = is_in_range 1 5 (length digits) && list_all is_ascii_digit digits

-- the number of digits, where 16 bits hold it
abbrev pub number_of : List ℕ → Option ℕ
number_of digits = let number = digits_value 10 digits in if nat_lt number 65536 then Some number else None

-- a number that isn't 0
abbrev pub if_some : Option ℕ → Option ℕ
if_some None = None
if_some (Some number) = if nat_lt 0 number then Some number else None

-- the number of digits, if it is a port: from 1 to 65,535
abbrev pub port_of : List ℕ → Option ℕ
port_of digits = if_some (number_of digits)

-- the port of such an address
unfoldable pub port_in : List ℕ → Option ℕ
port_in text =
    if begins_here text && are_port_digits (drop 10 text) then port_of (drop 10 text) else None
