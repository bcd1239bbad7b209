mod Tables
mod Library
mod Lists
mod Standing
mod Finding
mod Growing
mod Staying
