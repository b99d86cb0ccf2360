-- What the proofs of several functions use, and that a state and its 15 numbers say the same.
pub mod BoundaryLaws
