pub mod AddressLaws
pub mod AddressSets
pub mod Choosing
pub mod Filtering
pub mod OneResponse
pub mod SoaLaws
pub mod Wildcards
