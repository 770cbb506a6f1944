-- Which parts have changed, and how they are put in the place of those before.
pub mod Changed
pub mod Changing
pub mod Extending
pub mod Putting
pub mod FlowTexts
pub mod Flowing
pub mod FlowLaws
pub mod Rising
pub mod Deciding
pub mod Reached
