mod AdvanceSteps
pub mod Copies
pub mod Fixed
pub mod Following
pub mod Items
pub mod Joins
pub mod LevelCertificates
pub mod Narrowing
pub mod Operators
pub mod RankCertificates
mod ReachSteps
mod RoundSteps
mod SafetySteps
pub mod Sets
pub mod Siding
pub mod SolveSteps
mod TurnSteps
pub mod Views
mod WaitSteps
