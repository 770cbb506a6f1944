-- Statements and rows that are too long for a line in src/, each named after its function and clause.
pub mod Moving
pub mod Asking
pub mod WorkedPump
pub mod WorkedRoom
pub mod WorkedRoutes
pub mod WorkedArrivals
pub mod WorkedHosts
pub mod WorkedFates
pub mod WorkedAnswers
