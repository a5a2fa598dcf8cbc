-- Laws of the recording's rules, and the history of a recording.
pub mod Answers
pub mod Runs
pub mod Put
pub mod Journal
pub mod Counting
pub mod Asking
pub mod Tests
pub mod Entering
pub mod UndoCommit
pub mod Performing
pub mod History
pub mod Single
pub mod TwoCommits
