-- What one call of a host's program does to the lives of its ends, and to what the laws of their links have of them. Main lemmas: Told `call_told`
-- (what its user is notified of), Law `receiver_by` (what the law of a receiver has of it), Sent `sender_by` (what that of a sender has), Ends
-- `found_cases` (what becomes of the ends), Effects `among_kept` (lists of ends).
pub mod Effects
pub mod Ends
pub mod Kinds
pub mod Law
pub mod Sent
pub mod Told
