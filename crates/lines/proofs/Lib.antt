pub mod Arm
pub mod Chain
pub mod From
pub mod Loop
pub mod PassLine
pub mod Squares
pub mod Stage
pub mod Sum
