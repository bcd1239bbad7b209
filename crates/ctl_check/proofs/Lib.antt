mod Tokens
mod Entries
mod Fitting
mod Resting
mod Sizes
