pub mod Lists
pub mod Copies
pub mod Storing
