pub mod SameWords
pub mod OnWords
pub mod Seeds
pub mod Found
