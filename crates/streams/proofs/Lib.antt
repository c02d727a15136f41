-- Readings: one more read of a reading, over plain values.
pub mod Readings
