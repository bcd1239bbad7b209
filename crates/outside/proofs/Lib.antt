mod Bytes
mod Keys
mod Walks
