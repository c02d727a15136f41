-- Definitions that a reader must believe: Exported, the doubles that the functions for C hand back.
pub mod Exported
