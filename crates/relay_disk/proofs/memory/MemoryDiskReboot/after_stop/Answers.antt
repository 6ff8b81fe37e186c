use Rattle.std.proofs.Common.{sym, subst}
use Rattle.relay_disk.specs.Memory.{image_of, images_of}
use Rattle.relay_disk.proofs.PickLemmas.{pick_is_left}
use Rattle.relay_disk.proofs.memory.MemoryDiskReboot.after_stop.Goals as goal

pub returns-in-Ok-clause-left : goal.returns-in-Ok-clause-left
returns-in-Ok-clause-left c = pick_is_left c.args.self c.args.pick (image_of c.in-Ok.disk) c.in-Ok.ensures.image

pub returns-in-Ok-clause-within : goal.returns-in-Ok-clause-within
returns-in-Ok-clause-within c = λ image left.
    subst (images_of c.args.self) (sym (c.in-Ok.ensures.settled image left))
    (pick_is_left c.args.self c.args.pick (image_of c.in-Ok.disk) c.in-Ok.ensures.image)
