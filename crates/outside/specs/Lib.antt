pub mod Calls
pub mod Causes
pub mod DiskBox
pub mod Files
pub mod MemBox
pub mod MemConsole
pub mod Pieces
pub mod ReadsAlone
-- Means of the code and its proofs, which no public contract cites.
mod Codes
mod Inside
pub mod NewCall
