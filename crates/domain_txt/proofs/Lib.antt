pub mod TxtPassing
pub mod TxtShowing
