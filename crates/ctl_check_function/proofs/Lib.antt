mod Capping
mod Slashes
mod Units
mod Bodies
mod Defaults
