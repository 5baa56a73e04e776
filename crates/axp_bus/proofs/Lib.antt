-- memory: its lines, and the marks of the quadwords that are written
pub mod LineLemmas
pub mod MarkLemmas
-- ports: their queues, and the copies that late pairs made old
pub mod PortLemmas
pub mod QueueLemmas
pub mod GoneCopyLemmas
-- the calls that a bus stands for, and what it answers
pub mod BusCallLemmas
pub mod ReplyLemmas
