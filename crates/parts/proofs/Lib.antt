pub mod RowText
pub mod KeptName
pub mod SqlName
pub mod Names
