pub mod Words
pub mod Module
pub mod Printed
pub mod Laws
pub mod Rules
pub mod Read
