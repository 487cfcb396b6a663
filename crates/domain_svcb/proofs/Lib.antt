pub mod CanonicalForms
pub mod FirstParams
pub mod ListItems
pub mod ParamWalk
pub mod ParamsFaults
pub mod Showing
