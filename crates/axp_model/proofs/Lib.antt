pub mod ExamplesComputed
pub mod ExamplesAreRuns
