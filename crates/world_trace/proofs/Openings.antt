-- What a first line says: small carriers as raw networks (Networks, Made), and texts that say all of a world (PlainStates, SubnetStates).
pub mod AmongRows
pub mod Made
pub mod Networks
pub mod PlainStates
pub mod SubnetStates
