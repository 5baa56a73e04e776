-- records, the run of their events, and what the machine's readers read
pub mod RunLemmas
pub mod ReaderLemmas
pub mod RoomLemmas
-- the tail, item by item
pub mod TailLemmas
pub mod TailOrders
-- what an event is granted, and what it asks of the bus
pub mod GrantLemmas
pub mod AskLemmas
pub mod VainTakeLemmas
pub mod LateLineLemmas
-- what is legal
pub mod OfferLemmas
pub mod ReasonLemmas
-- how far entries have come
pub mod EntryLemmas
-- what a granted event leaves and gives
pub mod SpellingLemmas
pub mod MachinePartLemmas
