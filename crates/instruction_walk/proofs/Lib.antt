pub mod Chain
pub mod Alone
pub mod Short
pub mod Fitting
pub mod Declared
pub mod Ceiling
