use Rattle.std.proofs.Common.{inl, inr, ◌≡◌, true, false, not, length, None, Some, refl, sym, subst, ap, ◌∙◌, arith, rules}
use Rattle.std.specs.Prelude.{if◌then◌else◌, slice_index_or, vec_len}
use Rattle.relay_events.specs.declared.fault.PairFault.TheVariants as fault
use Rattle.relay_hosts.specs.Host.{holds_up, is_up}
use Rattle.relay_events.specs.FirstFault.{names_down, unless_up}
use Rattle.relay_hosts.specs.Named.{IsFirstNamed, NoneIsNamed}
use Rattle.relay_events.specs.Relays.{world_of}
use Rattle.relay_events.proofs.AtNodeLemmas.{up_named}
use Rattle.relay_events.proofs.GiveLemmas.{first_down, first_not_down}
use Rattle.relay_events.proofs.NamedLemmas.{first_is_down}
use Rattle.relay_events.proofs.PlaceLemmas.{value_same}
use Rattle.relay_events.proofs.TellLemmas.{get_within}
use Rattle.relay_events.proofs.relays.Relays.try_first.Goals as goal

pub index-requires : goal.index-requires
index-requires g c =
    let old = world_of c.args.self.now in
    let named = subst (λ hs. IsFirstNamed hs c.args.hop.now c.in-Some.to) c.as_slice.ensures.value c.in-Some.ensures in
    let within = get_within old.hosts c.in-Some.to named.host named.host_at in
    let len : length c.args.self.now.hosts.items ≡ vec_len c.args.self.now.hosts = search rules in
    omega (arith, within, len)

pub returns-then-not-is_up-clause-steps : goal.returns-then-not-is_up-clause-steps
returns-then-not-is_up-clause-steps g c =
    let old = world_of c.args.self.now in
    let named = subst (λ hs. IsFirstNamed hs c.args.hop.now c.in-Some.to) c.as_slice.ensures.value c.in-Some.ensures in
    let was = c.index.result.now in
    let at : was ≡ slice_index_or old.hosts c.in-Some.to was = search rules in
    let same = value_same old.hosts c.in-Some.to named.host was named.host_at at in
    let down : holds_up was.state ≡ false = search rules in
    let is : names_down old c.args.hop.now old.hosts ≡ true =
    first_is_down old old.hosts c.args.hop.now c.in-Some.to named.host named.host_at named.named named.first
    ∙ ap (λ (h : _). not (holds_up h.state)) (sym same) ∙ ap not down in
    inl (first_down old c.args.node c.args.message c.args.hop.now c.requires.first is, refl)

pub start_at_node-requires-clause-up : goal.start_at_node-requires-clause-up
start_at_node-requires-clause-up g c =
    let old = world_of c.args.self.now in
    let named = subst (λ hs. IsFirstNamed hs c.args.hop.now c.in-Some.to) c.as_slice.ensures.value c.in-Some.ensures in
    let was = c.index.result.now in
    let at : was ≡ slice_index_or old.hosts c.in-Some.to was = search rules in
    let same = value_same old.hosts c.in-Some.to named.host was named.host_at at in
    let up : holds_up was.state ≡ true = search rules in
    ap (λ b. if b then None else Some fault.Down)
    (ap is_up named.host_at ∙ ap (λ (h : _). holds_up h.state) (sym same) ∙ up)

pub start_at_node-requires-clause-name : goal.start_at_node-requires-clause-name
start_at_node-requires-clause-name g c = c.in-Ok.ensures ∙ c.as_slice-2.ensures.value

pub returns-in_default-from_slice-clause-steps : goal.returns-in_default-from_slice-clause-steps
returns-in_default-from_slice-clause-steps g c =
    let old = world_of c.args.self.now in
    let named = subst (λ hs. IsFirstNamed hs c.args.hop.now c.in-Some.to) c.as_slice.ensures.value c.in-Some.ensures in
    let was = c.index.result.now in
    let at : was ≡ slice_index_or old.hosts c.in-Some.to was = search rules in
    let same = value_same old.hosts c.in-Some.to named.host was named.host_at at in
    let up : holds_up was.state ≡ true = search rules in
    let is_up_there : unless_up old c.in-Some.to None ≡ None =
    ap (λ b. if b then None else Some fault.Down)
    (ap is_up named.host_at ∙ ap (λ (h : _). holds_up h.state) (sym same) ∙ up) in
    inr (inl (
      tt,
      inl (first_not_down old c.args.node c.args.message c.args.hop.now c.requires.first
          (up_named old c.args.hop.now c.in-Some.to named is_up_there)),
      refl,
      refl,
    ))

pub start_outside-requires-clause-none : goal.start_outside-requires-clause-none
start_outside-requires-clause-none g c =
    subst (λ hs. NoneIsNamed hs c.args.hop.now) c.as_slice.ensures.value c.in_default.ensures

pub start_at_node-requires-clause-named : goal.start_at_node-requires-clause-named
start_at_node-requires-clause-named g c =
    subst (λ hs. IsFirstNamed hs c.args.hop.now c.in-Some.to) c.as_slice.ensures.value c.in-Some.ensures
