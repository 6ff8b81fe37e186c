mod AddressLemmas
mod PrefixLemmas
mod NetworkLemmas
mod RouteLemmas
mod HopLemmas
mod MemberLemmas
mod CopyLemmas
mod ItemLemmas
mod ReadingLemmas
mod AcceptedLemmas
mod RoutedLemmas
pub mod Theorems
