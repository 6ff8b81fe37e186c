use Rattle.std.proofs.Common.{◌≡◌, [], ◌∷◌, ◌++◌, length, ap, subst, sym, arith}
use Rattle.std.proofs.lemmas.List.{length_push}
use Rattle.relay_pair.specs.Profiles.{HaveProfiles, IsProfile, address_of, host_of, routes_among}
use Rattle.relay_pair.proofs.ProfileLemmas.{one_profile_more}
use Rattle.relay_pair.proofs.profile.profiles_of.Goals as goal

pub loop-node-preserved : goal.loop-node-preserved
loop-node-preserved c =
    let configs = c.loop-node.configs.items in
    let config = c.in_ok-profile_among.field-0 in
    let count = c.args.count in
    let its = subst (λ node. IsProfile (host_of node) (address_of node) (routes_among count node) config)
    (sym c.loop-node.invariant.count_is) c.in_ok-profile_among.ensures in
    let longer : c.push.new.self.items ≡ configs ++ config ∷ [] = c.in_ok-push.ensures.items in
    record {
      count_is = omega (arith, ap length longer, length_push configs config, c.loop-node.invariant.count_is);
      each = subst (HaveProfiles count) (sym longer) (one_profile_more count configs config c.loop-node.invariant.each its);
    }
