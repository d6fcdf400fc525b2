pub mod Solution
pub mod SoftTurns
pub mod Turns
pub mod Solve
pub mod Conflicts
pub mod Results
pub mod Solver
