pub mod Examples
pub mod Sectors
pub mod HeadFields
pub mod BodyRecords
pub mod BodyLaws
