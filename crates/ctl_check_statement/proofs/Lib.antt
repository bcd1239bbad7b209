mod Standing
mod Walks
