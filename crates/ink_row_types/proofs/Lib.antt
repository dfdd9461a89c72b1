pub mod Borrows
