pub mod Csr
pub mod Judged
pub mod Checked
pub mod Rows
