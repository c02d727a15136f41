-- Definitions that a reader must believe: Reply, what `pose` prints on an input.
pub mod Reply
