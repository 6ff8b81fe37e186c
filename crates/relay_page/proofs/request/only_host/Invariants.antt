-- what was found is all that there is of it so far
use Rattle.std.proofs.Common.{◌≡◌, take, map}
use Rattle.std.specs.Option.{option_copied}
use Rattle.httparse.specs.Spans.{header_bytes}
use Rattle.relay_page.specs.Request.{hosts_among}
use Rattle.relay_page.proofs.RequestLemmas.{list_of}
use Rattle.relay_page.proofs.request.only_host.Given as goal

abbrev pub invariant-loop-header : goal.invariant-loop-header
invariant-loop-header l =
    hosts_among (map (header_bytes l.octets) (take l.header-index l.headers)) ≡ list_of (option_copied l.found)
