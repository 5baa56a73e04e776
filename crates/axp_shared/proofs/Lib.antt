-- the bus with its list of calls, one call longer
pub mod LogSteps
-- what right answers are
pub mod Replied
