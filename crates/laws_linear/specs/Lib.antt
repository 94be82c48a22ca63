pub mod Apart
pub mod Fixed
pub mod Form
