pub mod Granted
pub mod Endings
pub mod Weaves
pub mod Left
