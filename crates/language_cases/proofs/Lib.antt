mod Closed
mod Tokens
