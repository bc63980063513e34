pub mod Inputs
pub mod Outputs
pub mod Endings
pub mod Dialogs
pub mod Numbers
pub mod Links
pub mod Driving
