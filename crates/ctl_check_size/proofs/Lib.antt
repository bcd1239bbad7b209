mod Lists
mod Literals
