-- Statements and rows that are too long for a line in src/, each named after its function and clause.
pub mod WorkedDialogues
pub mod WorkedMessages
pub mod Others
pub mod WorkedRequests
pub mod WorkedLinks
pub mod WorkedClosings
pub mod WorkedData
pub mod WorkedResets
pub mod WorkedPhases
pub mod WorkedErrors
