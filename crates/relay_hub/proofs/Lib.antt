mod ListLemmas
mod HubLemmas
mod LinkLemmas
mod RiseLemmas
