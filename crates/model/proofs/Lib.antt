pub mod Order
pub mod Prefix
pub mod KindsBelow
