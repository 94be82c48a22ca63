pub mod Program
pub mod StandIns
