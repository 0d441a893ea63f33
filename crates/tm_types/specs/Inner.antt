-- What contracts of private functions alone cite.
pub mod Crossings
pub mod HeadFaults
pub mod Indices
pub mod Looping
pub mod Numbers
pub mod StmtFaults
pub mod TaskCalls
pub mod TextParts
pub mod UnknownParts
