-- What a stop may make of a write and of a cut, by parts of the octets.
use Rattle.std.proofs.Common.{◌≡◌, ℕ, ◌+◌, ◌<◌, ◌≤◌, min, max, List, length, take, drop, slice_index, inl, inr, sym, ◌∙◌, arith, length-take, length-drop, get_or-take}
use Rattle.std.proofs.lemmas.List.{ext_get_or, get_or-drop}
use Rattle.relay_disk.specs.Device.{WritesLeaveTheRest, CutsLeaveAFront}

front_is : (place : ℕ) (old new : List ℕ) → length old ≤ length new → ((at : ℕ) → at < length old → at < place → slice_index new at ≡ slice_index old at)
    → take (min place (length old)) new ≡ take place old
front_is place old new low same =
    let n = min place (length old) in
    let fresh = length-take n new in
    let past = length-take place old in
    ext_get_or 0 (take n new) (take place old) (omega (arith, fresh, past))
    (λ at within. get_or-take n new at 0 (omega (arith, fresh)) ∙ same at (omega (arith, fresh)) (omega (arith, fresh)) ∙ sym (get_or-take place old at 0 (omega (arith, fresh))))

back_is : (end : ℕ) (old new : List ℕ) → length old ≤ length new → length new ≤ max (length old) end
    → ((at : ℕ) → at < length old → end ≤ at → slice_index new at ≡ slice_index old at) → drop end new ≡ drop end old
back_is end old new low high same =
    let fresh = length-drop end new in
    let past = length-drop end old in
    ext_get_or 0 (drop end new) (drop end old) (omega (arith, fresh, past))
    (λ at within. get_or-drop end new at 0 ∙ same (end + at) (omega (arith, fresh)) (omega arith) ∙ sym (get_or-drop end old at 0))

pub writes_leave_the_rest : WritesLeaveTheRest
writes_leave_the_rest place count old new writes = (
  front_is place old new writes.no_shorter (λ at within before. writes.stays at within (inl before)),
  back_is (place + count) old new writes.no_shorter writes.no_longer (λ at within after. writes.stays at within (inr after)),
)

pub cuts_leave_a_front : CutsLeaveAFront
cuts_leave_a_front size old new cuts =
    let front = length-take (length new) old in
    ext_get_or 0 new (take (length new) old) (omega (arith, front, cuts.no_longer))
    (λ at within. cuts.stays at within ∙ sym (get_or-take (length new) old at 0 within))
