pub mod First
pub mod Outside
