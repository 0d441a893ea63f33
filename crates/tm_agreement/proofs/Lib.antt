pub mod Agreeing
pub mod DriversAgreeing
pub mod LevelsAgreeing
