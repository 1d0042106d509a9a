pub mod Sealing
