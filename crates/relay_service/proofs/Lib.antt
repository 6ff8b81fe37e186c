mod ClientLemmas
mod PushingLemmas
