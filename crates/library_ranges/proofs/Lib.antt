mod Angles
mod Powers
mod Rows
mod Tables
mod Vectors
mod Words
