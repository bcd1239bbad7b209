-- What stays as it is while definitions are added.
pub mod Laws
