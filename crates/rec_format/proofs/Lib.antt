pub mod Laws
pub mod Examples
pub mod Flaws
pub mod TextParts
pub mod BytesFit
pub mod HeadText
pub mod RecordFront
