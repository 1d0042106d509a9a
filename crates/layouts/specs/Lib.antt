pub mod Layouts
pub mod Rules
pub mod Paper
pub mod Rows
