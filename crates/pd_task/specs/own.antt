pub mod Scope
pub mod Found
pub mod Headed
pub mod KeyValues
pub mod Tables
pub mod Told
