pub mod Arguments
pub mod Grammar
