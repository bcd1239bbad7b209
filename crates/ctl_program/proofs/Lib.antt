mod Constants
mod Grown
mod GrownScopes
mod GrownTypes
mod Growing
mod LibraryStands
mod Shapes
