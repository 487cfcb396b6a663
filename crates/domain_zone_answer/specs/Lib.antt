pub mod Addresses
pub mod AddressViews
pub mod Laws
pub mod Sections
pub mod Sets
pub mod Views
