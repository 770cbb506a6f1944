-- That what `--log` writes of a network with strangers is called kept: its strangers are in order (Named), and are those
-- of its world (Stay); its lives are well-formed (Stamped) and keep what is asked of them
-- toward strangers (Toward); so it is kept (Kept), and its audit says so (Said).
pub mod Kept
pub mod Named
pub mod Said
pub mod Stamped
pub mod Stay
pub mod Toward
