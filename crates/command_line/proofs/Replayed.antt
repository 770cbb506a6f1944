-- What a replay writes: without strangers (Written), with them (Strangers), as a log (AmongLogs), of an input that was
-- read (Known); that it is one book (AmongPrinted), whose lives are those that its lines make (AmongLived).
pub mod AmongLived
pub mod AmongLogs
pub mod AmongPrinted
pub mod Known
pub mod Strangers
pub mod Written
