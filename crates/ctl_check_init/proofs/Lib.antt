mod Behind
mod Capping
