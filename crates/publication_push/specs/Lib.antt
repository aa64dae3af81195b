pub mod Orders
pub mod Pushes
pub mod Laws
pub mod Lacking
