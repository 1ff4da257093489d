pub mod Keyboards
pub mod Lawfulness
