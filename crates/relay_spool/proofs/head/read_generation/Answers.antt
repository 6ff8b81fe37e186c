use Rattle.std.proofs.Common.{◌≡◌, ℕ, List, take, drop, sym, ap, ◌∙◌, rules, w64}
use Rattle.std.specs.Int.{from_be_bytes}
use Rattle.relay_spool.specs.Head.{generation_in, generation_of}
use Rattle.relay_spool.proofs.PassLemmas.{any_one}
use Rattle.relay_spool.proofs.head.read_generation.Goals as goal

told : (image octets : List ℕ) (number : ℕ) → octets ≡ take 8 (drop 9 image) → number ≡ from_be_bytes w64 octets → generation_of image ≡ number
unfolding generation_in
told image octets number is number_is = ap (from_be_bytes w64) (sym is) ∙ sym number_is

pub returns-clause-generation : goal.returns-clause-generation
returns-clause-generation g c = λ honest. told (g.D.Disk.words.seen c.args.disk.now) c.read.new.into c.from_be_bytes.result (c.in_ok-read.ensures.read honest) (search rules)

pub returns-in_err-read-clause-calls : goal.returns-in_err-read-clause-calls
returns-in_err-read-clause-calls g c = any_one g.D.Disk.words c.args.disk.now c.read.new.self c.read.ensures.fuse.burnt

pub returns-clause-calls : goal.returns-clause-calls
returns-clause-calls g c = any_one g.D.Disk.words c.args.disk.now c.read.new.self c.read.ensures.fuse.burnt
