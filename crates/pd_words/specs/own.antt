pub mod TypeList
