mod Operands
mod Plain
mod Gaps
mod Rows
mod Rounds
mod Ends
