pub mod ListsOfNames
