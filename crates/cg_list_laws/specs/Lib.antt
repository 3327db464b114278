pub mod Below
