-- The proofs, each after those that it uses.
pub mod Tests
mod Weakening
mod Inversion
mod Substitution
pub mod Rows
mod StepIsNext
mod Occurrences
mod PathFrames
pub mod StepAtPath
mod Lines
mod NextIsStep
pub mod Agreement
pub mod Rest
mod Bindings
mod Values
pub mod Replacement
mod Frames
pub mod Growth
pub mod Preservation
mod Formed
pub mod Configured
mod Live
mod Plain
mod LiveFrames
mod Active
mod PlainParts
mod LineCases
mod Stuck
pub mod Resumptions
pub mod PathEntered
pub mod Words
mod PlacesComputed
mod Turns
pub mod PutInPlace
pub mod ShapeKept
mod Fate
pub mod Progress
pub mod Completeness
pub mod Answered
pub mod Correctness
pub mod Checking
pub mod Misreadings
pub mod Histories
pub mod Lasting
pub mod Tables
mod Examples
mod ExamplesTables
mod ExamplesTerms
mod ExamplesTyping
mod ExamplesTypingMore
mod ExamplesRefused
mod ExamplesRefusedMore
mod ExamplesContexts
mod ExamplesSteps
mod ExamplesStill
mod ExamplesNames
mod ExamplesRuns
mod ExamplesRunsMore
mod ExamplesShape
