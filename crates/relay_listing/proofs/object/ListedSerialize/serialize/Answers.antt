-- one member after another
use Rattle.std.proofs.Common.{ap}
use Rattle.std.proofs.lemmas.Result.{on_ok_weaker}
use Rattle.relay_listing.specs.Object.{number_value}
use Rattle.relay_listing.proofs.ObjectLemmas.{same_sent}
use Rattle.relay_listing.proofs.object.ListedSerialize.serialize.Goals as goal

pub returns : goal.returns
returns g c =
    let message = c.in_ok-write_number.ensures in
    let place = c.in_ok-write_number-2.ensures in
    let accepted = c.in_ok-write_number-3.ensures in
    let age = c.in_ok-write_number-4.ensures in
    let size = c.in_ok-write_number-5.ensures in
    let reverse_path = c.in_ok-write_text.ensures in
    let recipient = c.in_ok-write_text-2.ensures in
    let hop = c.in_ok-write_hop.ensures in
    let tries = c.in_ok-write_number-6.ensures in
    let next_try = c.in_ok-write_number-7.ensures in
    on_ok_weaker c.end_map.result
    (λ last. (
      _,
      c.in_ok-begin_map.ensures,
      (
        message.0,
        _,
        message.1,
        message.2,
        (
          place.0,
          _,
          place.1,
          same_sent _ _ _ _ (ap number_value c.from.ensures) place.2,
          (
            accepted.0,
            _,
            accepted.1,
            same_sent _ _ _ _ (ap number_value c.seconds.ensures.seconds) accepted.2,
            (
              age.0,
              _,
              age.1,
              same_sent _ _ _ _ (ap number_value c.age_of.ensures) age.2,
              (
                size.0,
                _,
                size.1,
                size.2,
                (
                  reverse_path.0,
                  _,
                  reverse_path.1,
                  reverse_path.2,
                  (
                    recipient.0,
                    _,
                    recipient.1,
                    recipient.2,
                    (
                      hop.0,
                      _,
                      hop.1,
                      hop.2,
                      (
                        tries.0,
                        _,
                        tries.1,
                        same_sent _ _ _ _ (ap number_value c.from-2.ensures) tries.2,
                        (next_try.0, _, next_try.1, next_try.2, last),
                      ),
                    ),
                  ),
                ),
              ),
            ),
          ),
        ),
      ),
    ))
    c.end_map.ensures
