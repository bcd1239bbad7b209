mod Lists
mod Alike
mod Flat
mod OneByOne
mod Puts
