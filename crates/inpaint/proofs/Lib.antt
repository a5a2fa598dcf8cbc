-- What the plan of a gap does not depend on, that its repair is lawful, what a dropout run is, what a
-- scan comes to, what it never lacks, which runs it always had, how far a gap's repair reaches, and what a scan tells of its models.
pub mod Plans
mod Entered
pub mod Lawful
pub mod Dropouts
pub mod Scans
pub mod Rooms
pub mod Unheld
pub mod Orders
pub mod Reach
pub mod MadeByModel
