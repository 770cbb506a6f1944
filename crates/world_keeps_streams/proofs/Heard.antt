-- What a host heard of its peer by its calls is what the law of pairing has it hear. Main lemmas: Alike `heard_marks` (the same marks), Calls
-- `heard_calls` (as many CLS as connections are gone), Ends `heard_ends` (the request of an end that is there), Partners (how that request changes),
-- Run `heard_closes` (over all moments).
pub mod Alike
pub mod Calls
pub mod Ends
pub mod Lists
pub mod Marks
pub mod Partners
pub mod Run
