pub mod Alike
mod Callable
mod Conditions
pub mod Elements
pub mod FitsAlike
mod Left
mod Markable
pub mod Marking
pub mod Movable
pub mod Parts
pub mod Pooled
pub mod Promising
mod Standing
pub mod Steps
pub mod Targets
pub mod Told
pub mod Typing
pub mod WalkedTasks
pub mod Walking
pub mod Whole
pub mod WideInputs
