pub mod Places
pub mod Versions
pub mod RecordText
pub mod RecordFlaws
pub mod Entries
