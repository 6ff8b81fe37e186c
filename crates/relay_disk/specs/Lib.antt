pub mod Device
pub mod Disks
pub mod MayLeave
pub mod Pick
pub mod Memory
pub mod File
pub mod MemoryLaws
