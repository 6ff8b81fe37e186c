pub mod Compacting
pub mod Pushing
pub mod Workers
