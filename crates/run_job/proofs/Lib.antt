pub mod Views
pub mod Turn
pub mod Keys
pub mod Loop
