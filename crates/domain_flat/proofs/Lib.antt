pub mod LabelsFromLeft
pub mod LabelBounds
pub mod Starts
pub mod Splits
pub mod OneFault
pub mod NotBoth
