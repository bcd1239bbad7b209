-- What holds of whole programs.
pub mod Laws
