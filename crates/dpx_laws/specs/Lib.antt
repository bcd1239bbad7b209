-- What holds of images that are read.
pub mod Laws
