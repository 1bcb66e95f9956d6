pub mod SqlText
