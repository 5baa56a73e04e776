-- what a played record shows: what was asked, and what it gave
pub mod Agreement
pub mod PlayedRecords
pub mod AskedActs
pub mod AskedQuiet
-- the write buffer keeps the entries that wait
pub mod BufferEntries
pub mod BufferBytes
pub mod BufferOverlays
pub mod BufferSteps
pub mod BufferPlayed
pub mod BufferStates
-- how many acts, turns and events there are
pub mod CountSums
pub mod CountTallies
pub mod CountCalls
pub mod CountKept
pub mod CountBounds
pub mod CountEvents
-- what was done since the last Step
pub mod SinceSteps
-- the bus has the history's memory, turns, late pairs and locks
pub mod BusLines
pub mod BusMemory
pub mod BusWrites
pub mod BusRecords
pub mod BusTouched
-- the banks keep the lines that are held
pub mod BankSpares
pub mod BankShows
pub mod BankLeaves
pub mod BankBarriers
pub mod BankChanges
pub mod BankActs
pub mod BankPlayed
pub mod BankRooms
-- a played history is a run of the memory model
pub mod RunSeats
pub mod RunWants
pub mod RunValues
pub mod RunOutcomes
pub mod RunLegality
pub mod RunPlayed
pub mod RunRefusals
pub mod RunJoined
pub mod RunDeeds
-- why an event is not legal
pub mod RunReasons
-- what went to the console
pub mod BusConsole
-- no processor is stuck
pub mod ProgressFilled
pub mod ProgressMidway
pub mod ProgressOffered
pub mod ProgressActs
