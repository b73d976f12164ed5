pub mod Fields
pub mod Mirror
pub mod Prediction
pub mod Compared
pub mod Reachable
pub mod Effect
