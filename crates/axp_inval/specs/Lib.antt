pub mod Queues
pub mod QueueParts
pub mod Steps
