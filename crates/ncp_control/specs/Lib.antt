pub mod Allocation
pub mod Command
pub mod DataHeader
pub mod Numbers
pub mod Packing
pub mod Phases
pub mod Reading
