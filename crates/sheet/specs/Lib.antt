pub mod Ats
pub mod Laws
pub mod Orders
pub mod Owned
pub mod Rules
pub mod Sheets
pub mod Reports
