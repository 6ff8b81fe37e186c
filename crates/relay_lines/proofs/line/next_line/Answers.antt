-- A line of the octets' front is the line of all of them.
use Rattle.std.proofs.Common.{◌++◌, ◌+◌, ◌≤◌, length, take, drop, arith}
use Rattle.std.proofs.lemmas.List.{length-take, take-append-drop}
use Rattle.relay_octets.specs.Line.{ReadsLine}
use Rattle.relay_octets.proofs.Theorems.{first_line_stays}
use Rattle.relay_lines.proofs.line.next_line.Goals as goal

pub returns-in-Some-find_crlf : goal.returns-in-Some-find_crlf
returns-in-Some-find_crlf c =
    let octets = c.args.octets.now in
    let front = take c.args.limit octets in
    let place = c.in-Some-find_crlf.place in
    let line = take place front in
    let rest = drop (place + 2) front in
    let here : ReadsLine front line rest = c.in-Some-find_crlf.ensures.first in
    let whole : ReadsLine (front ++ drop c.args.limit octets) line (rest ++ drop c.args.limit octets) =
    first_line_stays front line rest (drop c.args.limit octets) here in
    let within : place + 2 ≤ length front = c.in-Some-find_crlf.ensures.within in
    let size = length-take c.args.limit octets in
    let long = length-take place front in
    (line, rest ++ drop c.args.limit octets, rw (take-append-drop c.args.limit octets) at whole, omega arith, omega arith)
