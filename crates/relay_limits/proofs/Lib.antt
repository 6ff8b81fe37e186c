mod PortLemmas
mod BalancerLemmas
mod ClientLemmas
