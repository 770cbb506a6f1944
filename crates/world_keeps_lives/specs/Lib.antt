pub mod Drained
pub mod Firsts
pub mod Lives
pub mod SomeEnd
pub mod Told
pub mod Worked
pub mod WorkedFormed
pub mod Laws
