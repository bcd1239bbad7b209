-- What names mean, in the order of reading.
pub mod Names
pub mod Variables
pub mod Scope
-- How a scope changes while a module is read.
pub mod Changes
-- The scope beside the definitions that it numbers, and the laws of look-up.
pub mod Beside
pub mod Laws
