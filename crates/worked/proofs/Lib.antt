-- Worked: small plans worked by the definition of the step.
pub mod Worked
