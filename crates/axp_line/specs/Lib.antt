pub mod Lines
pub mod HeldParts
pub mod BusCalls
pub mod BusReply
