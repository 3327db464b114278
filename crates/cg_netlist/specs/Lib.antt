pub mod Forms
pub mod Netlist
pub mod Graph
pub mod Built
pub mod Text
pub mod Reads
