pub mod Common
mod Books
mod Cuts
mod Going
mod Keywords
mod Memory
mod Named
mod Networks
mod Numbers
mod Once
mod Printed
mod Reading
mod Others
mod Bounds
pub mod lemmas
