-- Newton's iteration, the check of a guessed root, the cases of `sqrt` and of the remainder, and laws of the other functions.
mod Newton
mod NearOne
mod RootCases
mod Ways
mod Doubling
mod RemainderLaws
mod RemainderCases
